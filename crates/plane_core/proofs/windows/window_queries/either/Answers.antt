use Rattle.std.proofs.Common.{bit_or, ap, ◌∙◌}
use Rattle.std.specs.Int.{bit_at}
use Rattle.std.proofs.lemmas.Nat.Bits.{bit_at_or}
use Rattle.plane_core.proofs.lemmas.windows.LaneLemmas.{lane_of}
use Rattle.plane_core.proofs.windows.window_queries.either.Goals as goal

pub returns-clause-bits : goal.returns-clause-bits
returns-clause-bits c j i low = ap (λ n. bit_at n i) (lane_of bit_or c.args.a c.args.b j c.fits-a.0 c.fits-b.0 low) ∙ bit_at_or _ _ i
