use Rattle.std.proofs.Common.{ℕ, ◌==◌, slice_index}
use Rattle.std.proofs.lemmas.Nat.Bits.{bit_at-lt}
use Rattle.plane_core.specs.windows.LaneSums.{bit_of}
use Rattle.plane_core.specs.plane.Generations.{lives_by}
use Rattle.plane_core.specs.windows.Words.{one_if}
use Rattle.plane_core.proofs.lemmas.windows.RuleLogicLemmas.{answers_rows}
use Rattle.plane_core.proofs.lemmas.windows.WordLemmas.{by_nine}
use Rattle.plane_core.proofs.windows.rule_tables.RuleTablesCellLogic.next_cells.Goals as goal

pub returns : goal.returns
returns c =
    let t = c.summed-total.result in
    let rule = c.args.self.now.rule in
    answers_rows rule t c.args.up c.args.here.all c.args.down c.args.now c.choice.result c.summed-total.ensures
    (λ j i low inside small.
    by_nine (λ (n : ℕ). one_if (lives_by rule n (bit_of c.args.now j i == 1))) (bit_of t.ones j i) (bit_of t.twos j i)
    (bit_of t.fours j i) (bit_of t.eights j i) _ _ _ _ _ (bit_at-lt (slice_index t.ones j) i) (bit_at-lt (slice_index t.twos j) i)
    (bit_at-lt (slice_index t.fours j) i) (bit_at-lt (slice_index t.eights j) i) small (c.at_two-high.ensures j i low inside)
    (c.at_four.ensures j i low inside) (c.at_four-2.ensures j i low inside) (c.choice-low.ensures j i low) (c.choice.ensures j i low))
