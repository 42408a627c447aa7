-- A pattern that is followed: it is run alone in 64 rows, and for some generations in a crop of these rows, to see
-- whether it may recur.
use Rattle.std.proofs.Common.{◌≡◌, ◌*◌, ℕ, ℤ, ◌+ℤ◌, ◌-ℤ◌, pos, List, sym, subst, arith}
use Rattle.std.proofs.lemmas.Int.{ints}
use Rattle.plane_core.specs.declared.plane.cell.Cell.{Cell}
use Rattle.plane_core.specs.plane.Generations.{NeverRecurs, after}
use Rattle.plane_core.specs.plane.Rules.{Numbers}
use Rattle.plane_core.specs.one_sided.Crops.{IsCrop, LiesInCrop}
use Rattle.plane_core.specs.one_sided.FollowedPatterns.{IsFollowed, IsFollowedInRows}
use Rattle.plane_core.specs.windows.LonePatterns.{FillsRows, Holds}
use Rattle.plane_core.proofs.lemmas.one_sided.AgainLemmas.{new-none}
use Rattle.plane_core.proofs.lemmas.one_sided.CropLemmas.{crop_held, uncrop_held}
use Rattle.plane_core.proofs.lemmas.plane.GenerationLemmas.{after-none}

pub followed_none : (rule : Numbers) (start : List ℕ) → IsFollowedInRows rule start start 0
followed_none rule start = record {
  held = λ S left top h. subst (λ (T : List Cell). FillsRows left top start T) (sym (after-none rule S)) h;
  new = λ S left top h. new-none rule S;
}

-- the part is a crop: it consists of the `many` rows from row `from` on, and these rows contain all live cells
pub record IsCropOf (n many from : ℕ) (rows : List ℕ) (part : List (List ℕ)) : Type 0 where
  pub four : many ≡ 4 * n
  pub lies : LiesInCrop many from rows
  pub is : IsCrop n from rows part

held_in : (n many from : ℕ) (left top : ℤ) (rows : List ℕ) (part : List (List ℕ)) (S : List Cell) → IsCropOf n many from rows part
    → FillsRows left top rows S → Holds n left (top +ℤ pos from) part S
held_in n many from left top rows part S c h =
    crop_held n from left top rows part S (subst (λ (m : ℕ). LiesInCrop m from rows) c.four c.lies) c.is h

filled : (n many from : ℕ) (left top : ℤ) (rows : List ℕ) (part : List (List ℕ)) (S : List Cell) → IsCropOf n many from rows part
    → Holds n left (top +ℤ pos from) part S → FillsRows left top rows S
filled n many from left top rows part S c h =
    uncrop_held n from left top rows part S (subst (λ (m : ℕ). LiesInCrop m from rows) c.four c.lies) c.is h

-- a pattern that is followed in the rows is followed in the crop
pub followed_in_crop : (rule : Numbers) (n many from made : ℕ) (start now : List ℕ) (first window : List (List ℕ)) → IsCropOf n many from start first
    → IsCropOf n many from now window → IsFollowedInRows rule start now made → IsFollowed rule n first window made
followed_in_crop rule n many from made start now first window cs cn followed = record {
  held = λ S left top h. held S left top (top -ℤ pos from) (omega (arith, ints)) h;
  new = λ S left top h. followed.new S left (top -ℤ pos from) (begun S left top (top -ℤ pos from) (omega (arith, ints)) h);
}
  where
    begun : (S : List Cell) (left top up : ℤ) → top ≡ up +ℤ pos from → Holds n left top first S → FillsRows left up start S
    begun S left top up same h = filled n many from left up start first S cs (subst (λ (t : ℤ). Holds n left t first S) same h)

    held : (S : List Cell) (left top up : ℤ) → top ≡ up +ℤ pos from → Holds n left top first S → Holds n left top window (after rule S made)
    held S left top up same h = subst (λ (t : ℤ). Holds n left t window (after rule S made)) (sym same)
        (held_in n many from left up now window (after rule S made) cn (followed.held S left up (begun S left top up same h)))

-- if no pattern that the crop holds recurs within `most` generations, no pattern that the rows hold does
pub new_in_rows : (rule : Numbers) (n many from most : ℕ) (start : List ℕ) (first : List (List ℕ)) → IsCropOf n many from start first
    → ((S : List Cell) (left top : ℤ) → Holds n left top first S → NeverRecurs rule S most)
    → (S : List Cell) (left top : ℤ) → FillsRows left top start S → NeverRecurs rule S most
new_in_rows rule n many from most start first cs new S left top h = new S left (top +ℤ pos from) (held_in n many from left top start first S cs h)

-- a pattern that is followed in the crop is followed in the rows
pub followed_in_rows : (rule : Numbers) (n many from made : ℕ) (start later : List ℕ) (first window : List (List ℕ)) → IsCropOf n many from start first
    → IsCropOf n many from later window → IsFollowed rule n first window made → IsFollowedInRows rule start later made
followed_in_rows rule n many from made start later first window cs cl followed = record {
  held = λ S left top h. filled n many from left top later window (after rule S made) cl
      (followed.held S left (top +ℤ pos from) (held_in n many from left top start first S cs h));
  new = new_in_rows rule n many from made start first cs followed.new;
}
