use Rattle.std.proofs.Common.{◌≡◌, ◌+◌, ◌%◌, ◌<◌, ap, ◌∙◌, arith, bit_or, bit_xor, max, ℕ, List, length, slice_index}
use Rattle.std.specs.Int.{bit_at}
use Rattle.std.proofs.lemmas.Nat.Bits.{bit_at-lt, bit_at_or, bit_at_xor}
use Rattle.plane_core.specs.windows.LaneSums.{bit_of}
use Rattle.plane_core.proofs.lemmas.windows.LaneLemmas.{four_lanes, lane_of}
use Rattle.plane_core.proofs.windows.window_queries.marked.Goals as goal
use lib.Lanes.{zip2}

-- a bit is marked if and only if it was marked before or the bits of a and b differ there
marks : (m a b : List ℕ) (j i : ℕ) → length m ≡ 4 → length a ≡ 4 → length b ≡ 4 → j < 4
    → bit_of (zip2 bit_or m (zip2 bit_xor a b)) j i ≡ max (bit_of m j i) ((bit_of a j i + bit_of b j i) % 2)
marks m a b j i lm la lb low =
    ap (λ n. bit_at n i) (lane_of bit_or m (zip2 bit_xor a b) j lm (four_lanes bit_xor a b la lb) low
    ∙ ap (λ n. bit_or (slice_index m j) n) (lane_of bit_xor a b j la lb low))
    ∙ bit_at_or _ _ i ∙ ap (λ n. max (bit_of m j i) n) (bit_at_xor (slice_index a j) (slice_index b j) i)

pub returns-clause-before : goal.returns-clause-before
returns-clause-before c j i low none = let m = marks c.args.marks c.args.a c.args.b j i c.fits-marks.0 c.fits-a.0 c.fits-b.0 low in omega arith

same : (a b : ℕ) → a < 2 → b < 2 → (a + b) % 2 ≡ 0 → a ≡ b
same a b p q e = omega arith

pub returns-clause-same : goal.returns-clause-same
returns-clause-same c j i low none =
    let m = marks c.args.marks c.args.a c.args.b j i c.fits-marks.0 c.fits-a.0 c.fits-b.0 low in
    same _ _ (bit_at-lt (slice_index c.args.a j) i) (bit_at-lt (slice_index c.args.b j) i) (omega arith)
