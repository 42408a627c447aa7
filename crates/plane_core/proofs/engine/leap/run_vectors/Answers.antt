use Rattle.std.proofs.Common.{ℕ, arith, subst}
use Rattle.plane_core.specs.engine.WindowIo.{AreRowsRead}
use Rattle.plane_core.proofs.lemmas.engine.LeapLemmas.{run_place}
use Rattle.plane_core.proofs.engine.leap.run_vectors.Goals as goal

pub returns : goal.returns
returns g c =
    run_place c.args.at c.args.window c.args.words.now (g.A.CellLogic.rule c.args.rule.now) c.args.count c.column_of.result c.row_of.result g.row.N
    c.read_rows-rows.result c.packed-vectors.result c.run-change.new.window c.unpack.new.rows c.run-change.result
    (omega (arith, c.requires.height, c.requires.rows)) c.column_of.ensures.word_columns c.row_of.ensures.rows c.column_of.ensures.is
    c.row_of.ensures.is
    (subst (λ (m : ℕ). AreRowsRead c.args.at c.args.words.now c.column_of.result c.row_of.result m c.read_rows-rows.result) c.requires.rows c.read_rows-rows.ensures)
    (λ r low. c.packed-vectors.ensures r (omega (arith, low, c.requires.rows))) c.run-change.ensures c.unpack.ensures
