use Rattle.std.proofs.Common.{◌≡◌, ℕ, arith, subst}
use Rattle.plane_core.specs.engine.WindowIo.{IsPutBack}
use Rattle.plane_core.proofs.lemmas.engine.WindowIoLemmas.{none_put, put_more, four_more}
use Rattle.plane_core.proofs.engine.window_io.write.Goals as goal

pub loop-r-init : goal.loop-r-init
loop-r-init c = (omega arith, c.requires.some, none_put c.args.at c.args.x c.args.y c.args.rows.now c.args.words.now)

pub loop-r-preserved : goal.loop-r-preserved
loop-r-preserved c =
    let (least, most, put) = c.loop-r.invariant in
    let more = c.loop-r-test.true in (
      omega (arith, least),
      omega (arith, most, more),
      four_more c.args.at c.args.x c.args.y c.loop-r.r c.args.rows.now c.args.words.now c.loop-r.words c.write_rows.new.words least put c.write_rows.ensures,
    )

pub loop-r-2-preserved : goal.loop-r-2-preserved
loop-r-2-preserved c =
    let (least, most, put) = c.loop-r-2.invariant in
    let more = c.loop-r-2-test.true in (
      omega (arith, least),
      omega (arith, more),
      put_more c.args.at c.args.x c.args.y c.loop-r-2.r c.args.rows.now c.args.words.now c.loop-r-2.words c.write_row.new.words least put c.write_row.ensures,
    )

pub returns : goal.returns
returns c =
    let (least, most, put) = c.loop-r-2.invariant in
    let ended = c.loop-r-2-test.false in
    let all : c.loop-r-2.r ≡ c.args.end = omega (arith, most, ended) in
    subst (λ (r : ℕ). IsPutBack c.args.at c.args.x c.args.y r c.args.rows.now c.args.words.now c.loop-r-2.words) all put
