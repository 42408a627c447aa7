-- Cells that lie near the origin, and therefore on the plane.
use Rattle.std.proofs.Common.{◌≡◌, ◌∙◌, ap, sym, refl, ℕ, suc, ◌+◌, ◌<◌, ◌≤◌, true, false, not, List, [], ◌∷◌, All, flat_map, position, get_or}
use Rattle.std.proofs.Common.{length, Option, None, Some, arith, nat_le, pos, unsigned_abs}
use Rattle.std.specs.List.{list_all}
use Rattle.std.proofs.lemmas.Bool.{and_from, and_parts, false≢true, le-leb, leb-true}
use Rattle.std.proofs.lemmas.List.Folds.{list_all-append}
use Rattle.std.proofs.lemmas.List.Quantifiers.{position-Some}
use Rattle.std.proofs.lemmas.List.Sums.{AllPass-from_list_all}
use Rattle.plane_core.specs.declared.plane.cell.Cell.{Cell}
use Rattle.plane_core.specs.plane.Cells.{is_within, off_plane, on_plane, plane_bound}
use Rattle.plane_core.specs.plane.Generations.{after, lies_within}
use Rattle.plane_core.specs.plane.Rules.{Numbers}
use Rattle.plane_core.proofs.lemmas.plane.SpeedLemmas.{within-after}
use Rattle.plane_core.proofs.lemmas.plane.SearchLemmas.{has-list_all, list_all-has}

is_within-more : (near far : ℕ) (c : Cell) → near ≤ far → is_within near c ≡ true → is_within far c ≡ true
is_within-more near far c low within =
    let parts = and_parts (nat_le (unsigned_abs c.x) near) (nat_le (unsigned_abs c.y) near) within in
    let across : unsigned_abs c.x ≤ near = leb-true _ _ parts.0 in
    let down : unsigned_abs c.y ≤ near = leb-true _ _ parts.1 in
    and_from (nat_le (unsigned_abs c.x) far) (nat_le (unsigned_abs c.y) far) (le-leb _ _ (omega arith)) (le-leb _ _ (omega arith))

-- patterns that lie within a reach lie within a greater one
pub within_more : (near far : ℕ) (cells : List Cell) → near ≤ far → lies_within near cells ≡ true → lies_within far cells ≡ true
within_more near far cells low within =
    has-list_all (is_within far) cells (λ c e. is_within-more near far c low (list_all-has (is_within near) cells within c e))

-- if a pattern lies within a reach, then after g generations it lies within each reach that is greater by g or more
pub within_later : (near far : ℕ) (rule : Numbers) (cells : List Cell) (g : ℕ) → near + g ≤ far → lies_within near cells ≡ true
    → lies_within far (after rule cells g) ≡ true
within_later near far rule cells g low within = within_more (near + g) far (after rule cells g) low (within-after rule cells near g within)

-- if each part lies within a reach, so do the cells of all parts
pub within_all : (reach : ℕ) (parts : List (List Cell)) → All (λ part. lies_within reach part ≡ true) parts
    → lies_within reach (flat_map (λ part. part) parts) ≡ true
within_all reach [] each = refl
within_all reach (part ∷ parts) each =
    list_all-append (is_within reach) part (flat_map (λ p. p) parts)
    ∙ and_from (list_all (is_within reach) part) (list_all (is_within reach) (flat_map (λ p. p) parts)) (each 0 [] (omega arith))
    (within_all reach parts (λ k d low. each (suc k) d (omega arith)))

origin : Cell
origin = record { y = pos 0; x = pos 0 }

-- cells near the origin lie on the plane
near_on_plane : (c : Cell) → is_within 999999 c ≡ true → off_plane c ≡ false
unfolding on_plane
near_on_plane c near = ap not (is_within-more 999999 plane_bound c (omega arith) near)

pub none_off : (cells : List Cell) → lies_within 999999 cells ≡ true → position off_plane cells ≡ None
none_off cells near = go (position off_plane cells) refl
  where
    is_near : (i : ℕ) → i < length cells → is_within 999999 (get_or cells i origin) ≡ true
    is_near i low = AllPass-from_list_all (is_within 999999) cells near i origin low

    go : (found : Option ℕ) → position off_plane cells ≡ found → found ≡ None
    go None e = refl
    go (Some i) e =
        let there = position-Some off_plane cells i origin e in
        absurd (false≢true (sym (near_on_plane (get_or cells i origin) (is_near i there.0)) ∙ there.1))
