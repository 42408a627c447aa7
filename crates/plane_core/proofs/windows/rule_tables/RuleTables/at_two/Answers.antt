use Rattle.std.proofs.Common.{ℕ, ◌==◌, slice_index}
use Rattle.std.proofs.lemmas.Nat.Bits.{bit_at-lt}
use Rattle.plane_core.specs.windows.LaneSums.{bit_of}
use Rattle.plane_core.specs.plane.Generations.{lives_by}
use Rattle.plane_core.specs.windows.Words.{one_if}
use Rattle.plane_core.proofs.lemmas.windows.WordLemmas.{by_ones}
use Rattle.plane_core.proofs.windows.rule_tables.RuleTables.at_two.Goals as goal

pub returns : goal.returns
returns c j i low inside =
    by_ones (λ (n : ℕ). one_if (lives_by c.args.self.now.rule n (bit_of c.args.now j i == 1))) c.args.n (bit_of c.args.ones j i)
    _ _ _ (bit_at-lt (slice_index c.args.ones j) i) (c.at_one.ensures j i low inside) (c.at_one-2.ensures j i low inside) (c.choice.ensures j i low)
