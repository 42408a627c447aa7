use Rattle.std.proofs.Common.{◌∙◌, ℕ, Fits, ap, arith, rules, slice_index, w64}
use Rattle.std.specs.Int.{bit_at}
use Rattle.plane_core.proofs.lemmas.windows.LaneLemmas.{joined_lane}
use Rattle.plane_core.proofs.lemmas.windows.ShiftLemmas.{joined_left, joined_right}
use Rattle.plane_core.proofs.engine.window_io.joined.Goals as goal

pub returns-clause-first : goal.returns-clause-first
returns-clause-first c j i low inside =
    ap (λ (w : ℕ). bit_at w i) (joined_lane c.args.first c.args.second j c.args.shift (omega arith) (omega arith) low)
    ∙ joined_left (slice_index c.args.first j) (slice_index c.args.second j) c.args.shift i c.requires inside

pub returns-clause-second : goal.returns-clause-second
returns-clause-second c j i low inside past =
    let fits : Fits w64 (slice_index c.args.first j) = search rules in
    ap (λ (w : ℕ). bit_at w i) (joined_lane c.args.first c.args.second j c.args.shift (omega arith) (omega arith) low)
    ∙ joined_right (slice_index c.args.first j) (slice_index c.args.second j) c.args.shift i fits c.requires inside past
