use Rattle.std.proofs.Common.{◌≡◌, ◌+◌, ◌*◌, ◌<◌, ◌≤◌, ℕ, [], ◌∷◌, zero, suc, arith, ap, refl, ◌∙◌}
use Rattle.std.specs.Int.{bit_at}
use Rattle.std.proofs.lemmas.Bool.{le-leb, lt-ltb}
use Rattle.std.proofs.lemmas.Nat.Bits.{bit_at_mask_inside}
use Rattle.plane_core.specs.windows.LaneSums.{bit_of}
use Rattle.plane_core.specs.engine.WindowIo.{inner_mask}
use Rattle.plane_core.proofs.lemmas.engine.WindowDifferenceLemmas.{no_difference}
use Rattle.plane_core.proofs.engine.window_difference.differing.Goals as goal

-- the mask of vector k has a 1 for each cell of the vector that is in the inner part of the window
inner : (n first last k j i : ℕ) → (4 ≤ k → first ≡ inner_mask) → (k + 4 < n → last ≡ inner_mask) → j < 4 → 4 ≤ i → i < 60 → 4 ≤ j * n + k
    → j * n + k + 4 < 4 * n → bit_of (first ∷ inner_mask ∷ inner_mask ∷ last ∷ []) j i ≡ 1
inner n first last k zero i above below low a b d e = ap (λ (w : ℕ). bit_at w i) (above (omega (arith, d))) ∙ bit_at_mask_inside 4 60 i a b
inner n first last k (suc zero) i above below low a b d e = bit_at_mask_inside 4 60 i a b
inner n first last k (suc (suc zero)) i above below low a b d e = bit_at_mask_inside 4 60 i a b
inner n first last k (suc (suc (suc zero))) i above below low a b d e =
    ap (λ (w : ℕ). bit_at w i) (below (omega (arith, e))) ∙ bit_at_mask_inside 4 60 i a b
inner n first last k (suc (suc (suc (suc j)))) i above below low a b d e = absurd (omega (arith, low))

pub returns : goal.returns
returns g c j i low a b d e none =
    no_difference c.args.one c.args.other _ j i c.fits-one.0 c.fits-other.0 refl low
    (inner g.row.N _ _ c.args.k j i (λ h. c.inner_if.ensures (le-leb 4 c.args.k h)) (λ h. c.inner_if-2.ensures (lt-ltb (c.args.k + 4) g.row.N h)) low a b d e) none
