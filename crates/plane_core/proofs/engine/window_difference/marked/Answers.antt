use Rattle.std.proofs.Common.{◌≡◌, ◌+◌, ◌*◌, ◌<◌, ◌≤◌, ◌%◌, ◌^◌, ℕ, List, [], ◌∷◌, zero, suc, arith, refl}
use Rattle.plane_core.specs.windows.LaneSums.{bit_of}
use Rattle.plane_core.proofs.lemmas.engine.WindowDifferenceLemmas.{not_marked, one_bit}
use Rattle.plane_core.proofs.engine.window_difference.marked.Goals as goal

-- the row marks of vector k: lane j, which is row j * n + k of the window, has its only 1 at bit j * n + k
marks : ℕ → ℕ → List ℕ
marks n k = 1 * 2 ^ k % 2 ^ 64 ∷ 1 * 2 ^ (n + k) % 2 ^ 64 ∷ 1 * 2 ^ (2 * n + k) % 2 ^ 64 ∷ 1 * 2 ^ (3 * n + k) % 2 ^ 64 ∷ []

set_mark : (n k j : ℕ) → k < n → n ≤ 16 → j < 4 → bit_of (marks n k) j (j * n + k) ≡ 1
unfolding marks
set_mark n k zero small few low = one_bit k (0 * n + k) (omega (arith, small, few)) (omega arith)
set_mark n k (suc zero) small few low = one_bit (n + k) (1 * n + k) (omega (arith, small, few)) (omega arith)
set_mark n k (suc (suc zero)) small few low = one_bit (2 * n + k) (2 * n + k) (omega (arith, small, few)) (omega arith)
set_mark n k (suc (suc (suc zero))) small few low = one_bit (3 * n + k) (3 * n + k) (omega (arith, small, few)) (omega arith)
set_mark n k (suc (suc (suc (suc j)))) small few low = absurd (omega (arith, low))

pub returns : goal.returns
unfolding marks
returns g c j i low none =
    not_marked c.args.places (marks g.row.N c.args.k) j i (j * g.row.N + c.args.k) c.fits-places.0 refl low
    (set_mark g.row.N c.args.k j c.requires.low c.requires.few low) none
