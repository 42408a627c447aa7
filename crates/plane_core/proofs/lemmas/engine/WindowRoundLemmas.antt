-- The window in which a small pattern is run: where the window begins, and which cells its rows show.
use Rattle.std.proofs.Common.{◌≡◌, ◌≢◌, ◌==◌, ◌+◌, ◌-◌, ◌*◌, ◌/◌, ◌%◌, ◌^◌, ◌<◌, ◌≤◌, ℕ, ℤ}
use Rattle.std.proofs.Common.{zero, suc, negsuc, pos, ◌+ℤ◌, ◌-ℤ◌, Bool, true, false, ◌||◌, List, [], ◌∷◌, ◌++◌}
use Rattle.std.proofs.Common.{arith, refl, ap, ◌∙◌, sym, subst, inl, inr, ◌⊎◌}
use Rattle.std.proofs.Common.{FitsSigned, of_z, slice_index, to_z, unsigned_abs, get_or, set, length, take, bit_or, w32, w64, leb, replicate}
use Rattle.std.proofs.Common.{get_or-set_same, get_or-set_other}
use Rattle.std.specs.Int.{bit_at}
use Rattle.std.proofs.lemmas.Bool.{le-leb, and_from}
use Rattle.std.proofs.lemmas.Int.{ints}
use Rattle.std.proofs.lemmas.List.{take_more}
use Rattle.std.proofs.lemmas.List.Elements.{recursion_from_All}
use Rattle.std.proofs.lemmas.Nat.Bits.{bit_at-zero, bit_at_set_same, bit_at_set_other}
use Rattle.plane_core.specs.declared.plane.bounds.Bounds.{Bounds}
use Rattle.plane_core.specs.declared.plane.cell.Cell.{Cell}
use Rattle.plane_core.specs.declared.engine.lone_window.WindowOrigin.{WindowOrigin}
use Rattle.plane_core.specs.plane.Bounds.{AreSidesWithin, IsLeastBox, IsWithin}
use Rattle.plane_core.specs.plane.Cells.{cell_at, distance, has, is_within, plane_bound, same_cell}
use Rattle.plane_core.specs.plane.Generations.{lies_within}
use Rattle.plane_core.specs.engine.LoneWindows.{IsInland}
use Rattle.plane_core.specs.windows.LonePatterns.{FillsRows, Holds, IsInWindow}
use Rattle.plane_core.specs.windows.Windows.{IsShownInside, row_at}
use Rattle.plane_core.proofs.lemmas.plane.CaseLemmas.{same_or_not}
use Rattle.plane_core.proofs.lemmas.plane.CoordinateLemmas.{AreApart, taken, within_apart, within_low}
use Rattle.plane_core.proofs.lemmas.plane.CellLemmas.{passed_within, same_cell-itself, same_cell-same}
use Rattle.plane_core.proofs.lemmas.plane.SearchLemmas.{has-list_all}
use Rattle.plane_core.proofs.lemmas.plane.SetLemmas.{has-all, has-append, has-head}
use Rattle.plane_core.proofs.lemmas.windows.WindowLemmas.{same_cell_at}
use Rattle.plane_core.proofs.lemmas.Between.{IsSpot, ShowsRows}

-- ---- a window round a box

-- the window that begins at (left, top)
abbrev pub window_at : ℤ → ℤ → WindowOrigin
window_at left top = record { left = left; top = top }

pub record IsPlacedRound (b : Bounds) (width height : ℕ) (p : WindowOrigin) : Type 0 where
  pub left : p.left ≡ b.left -ℤ pos ((63 - width) / 2)
  pub top : p.top ≡ b.top -ℤ pos ((63 - height) / 2)
  pub across : width ≡ distance b.left b.right
  pub down : height ≡ distance b.top b.bottom
  pub wide : width ≤ 61
  pub high : height ≤ 61

pub place_is_inland : (b : Bounds) (width height : ℕ) (p : WindowOrigin) → AreSidesWithin 900000 b → IsPlacedRound b width height p → IsInland p
place_is_inland b width height p sides is =
    let sl = sides.left in
    let st = sides.top in
    record {
      left = let q = is.left in omega (arith, ints);
      top = let q = is.top in omega (arith, ints);
    }

-- the coordinate of a box's side fits in 32 bits if the side is far from the edge of the plane
near_fits : (x : ℤ) → unsigned_abs x ≤ 900000 → FitsSigned w32 x
near_fits (pos n) near = record { sfits = omega (arith, near) }
near_fits (negsuc n) near = record { sfits = omega (arith, near) }

pub near_side : (x : ℤ) → unsigned_abs x ≤ 900000 → unsigned_abs (to_z w32 (of_z w32 x)) ≤ plane_bound
near_side x near = passed_within x (near_fits x near) (omega (arith, near))

pub half_within : (n : ℕ) → (63 - n) / 2 ≤ plane_bound
half_within n = omega arith

pub place_has_cells : (b : Bounds) (width height : ℕ) (p : WindowOrigin) (S : List Cell) → IsPlacedRound b width height p → IsLeastBox S b
    → (c : Cell) → has S c ≡ true → IsInWindow 16 p.left p.top c
place_has_cells b width height p S is least c e = inside (has-all (IsWithin b) S c (recursion_from_All (IsWithin b) S least.within) e)
  where
    inside : IsWithin b c → IsInWindow 16 p.left p.top c
    inside within =
        let l = is.left in
        let t = is.top in
        let wide = is.wide in
        let high = is.high in
        let across = is.across in
        let down = is.down in
        let wl = within.left in
        let wt = within.top in
        let wr = within.right in
        let wb = within.bottom in
        record {
          west = omega (arith, ints);
          north = omega (arith, ints);
          east = omega (arith, ints);
          south = omega (arith, ints);
        }

-- a pattern in a window far from the edge of the plane is far from the edge too
pub inland_within : (p : WindowOrigin) (S : List Cell) → IsInland p → ((c : Cell) → has S c ≡ true → IsInWindow 16 p.left p.top c)
    → lies_within 951000 S ≡ true
inland_within p S far inside = has-list_all (is_within 951000) S near
  where
    near : (c : Cell) → has S c ≡ true → is_within 951000 c ≡ true
    near c e =
        let h = inside c e in
        let far_left = far.left in
        let far_top = far.top in
        let l = h.west in
        let t = h.north in
        let r = h.east in
        let b = h.south in
        and_from (leb (unsigned_abs c.x) 951000) (leb (unsigned_abs c.y) 951000) (le-leb (unsigned_abs c.x) 951000 (omega (arith, ints)))
        (le-leb (unsigned_abs c.y) 951000 (omega (arith, ints)))

-- ---- the rows into which cells are put

pub none_shown : (p : WindowOrigin) (rows : List ℕ) → ((r : ℕ) → slice_index rows r ≡ 0) → ShowsRows p rows []
none_shown p rows empty r i low near = sym (ap (λ (m : ℕ). bit_at m i == 1) (empty r) ∙ ap (λ (m : ℕ). m == 1) (bit_at-zero i))

or_one : (a : Bool) → (a || true) ≡ true
or_one true = refl
or_one false = refl

pub zeros : (n i : ℕ) → slice_index (replicate n 0) i ≡ 0
zeros zero i = refl
zeros (suc n) zero = refl
zeros (suc n) (suc i) = zeros n i

-- the cell at a place of a list is a member of the list
pub has-at : (cs : List Cell) (i : ℕ) (d : Cell) → i < length cs → has cs (get_or cs i d) ≡ true
has-at [] i d low = absurd (omega arith)
has-at (c ∷ cs) zero d low = has-head c cs
has-at (c ∷ cs) (suc i) d low = ap (λ (b : Bool). same_cell (get_or cs i d) c || b) (has-at cs i d (omega arith)) ∙ or_one _

or_none : (a : Bool) → (a || false) ≡ a
or_none true = refl
or_none false = refl

-- setting the bit of cell c makes the rows show c as well
pub put_shown : (p : WindowOrigin) (rows : List ℕ) (S : List Cell) (c : Cell) (a d : ℕ) → IsSpot p c a d → a < 64 → d < length rows → ShowsRows p rows S
    → ShowsRows p (set rows d (bit_or (get_or rows d 0) (1 * 2 ^ a % 2 ^ 64))) (S ++ c ∷ [])
put_shown p rows S c a d at ha hd shown r i low near = has-append S (c ∷ []) e ∙ row (same_or_not r d)
  where
    e : Cell
    e = cell_at (p.left +ℤ pos i) (p.top +ℤ pos r)

    new : ℕ
    new = bit_or (get_or rows d 0) (1 * 2 ^ a % 2 ^ 64)

    there : c ≡ cell_at (p.left +ℤ pos a) (p.top +ℤ pos d)
    there = same_cell_at _ _ _ _ at.across_is at.down_is

    same_place : cell_at (p.left +ℤ pos i) (p.top +ℤ pos r) ≡ cell_at (p.left +ℤ pos a) (p.top +ℤ pos d) → (i ≡ a) × (r ≡ d)
    same_place same =
        let x : p.left +ℤ pos i ≡ p.left +ℤ pos a = ap (λ (f : Cell). f.x) same in
        let y : p.top +ℤ pos r ≡ p.top +ℤ pos d = ap (λ (f : Cell). f.y) same in
        (omega (arith, ints), omega (arith, ints))

    missed : (b : Bool) → same_cell e c ≡ b → ((i ≡ a) × (r ≡ d) → ⊥) → (has S e || (b || false)) ≡ has S e
    missed false is apart = or_none (has S e)
    missed true is apart = absurd (apart (same_place (same_cell-same e c is ∙ there)))

    bit : (r ≡ d) → (i ≡ a) ⊎ (i ≢ a) → (has S e || (same_cell e c || false)) ≡ (bit_at new i == 1)
    bit here (inl same) =
        let cell : e ≡ c = (λ j. cell_at (p.left +ℤ pos (same j)) (p.top +ℤ pos (here j))) ∙ sym there in
        let one : bit_at new i ≡ 1 = ap (λ (n : ℕ). bit_at new n) same ∙ bit_at_set_same w64 (get_or rows d 0) a ha in
        ap (λ (b : Bool). has S e || (b || false)) (ap (λ (f : Cell). same_cell e f) (sym cell) ∙ same_cell-itself e) ∙ or_one (has S e)
        ∙ ap (λ (n : ℕ). n == 1) (sym one)
    bit here (inr apart) =
        missed (same_cell e c) refl (λ (u, v). apart u) ∙ shown r i low near ∙ ap (λ (n : ℕ). bit_at (slice_index rows n) i == 1) here
        ∙ ap (λ (n : ℕ). n == 1) (sym (bit_at_set_other w64 (get_or rows d 0) a ha i apart))

    row : (r ≡ d) ⊎ (r ≢ d) → (has S e || (same_cell e c || false)) ≡ (bit_at (slice_index (set rows d new) r) i == 1)
    row (inl here) =
        bit here (same_or_not i a) ∙ ap (λ (w : ℕ). bit_at w i == 1) (sym (ap (λ (n : ℕ). slice_index (set rows d new) n) here
        ∙ get_or-set_same rows d new 0 hd))
    row (inr apart) =
        missed (same_cell e c) refl (λ (u, v). apart v) ∙ shown r i low near
        ∙ ap (λ (w : ℕ). bit_at w i == 1) (sym (get_or-set_other rows d r new 0 apart))

-- if the rows show the first i cells of a list together with cell i, they show the first i + 1 cells
pub shown_taken : (p : WindowOrigin) (rows : List ℕ) (cs : List Cell) (i : ℕ) (d : Cell) → i < length cs → ShowsRows p rows (take i cs ++ get_or cs i d ∷ [])
    → ShowsRows p rows (take (i + 1) cs)
shown_taken p rows cs i d low shown = subst (λ (S : List Cell). ShowsRows p rows S) (sym (take_more cs i d low)) shown

-- ---- the column and the row of a cell in its window

abbrev pub IsAcross : (origin : WindowOrigin) → (cell : Cell) → Type 0
IsAcross origin cell = AreApart cell.x origin.left (unsigned_abs (cell.x -ℤ origin.left))

abbrev pub IsDown : (origin : WindowOrigin) → (cell : Cell) → Type 0
IsDown origin cell = AreApart cell.y origin.top (unsigned_abs (cell.y -ℤ origin.top))

pub apart_across : (origin : WindowOrigin) (cell : Cell) → FitsSigned w32 cell.x → FitsSigned w32 origin.left → IsInWindow 16 origin.left origin.top cell → IsAcross origin cell
apart_across origin cell x left inside = within_apart cell.x origin.left x left inside.west inside.east

pub apart_down : (origin : WindowOrigin) (cell : Cell) → FitsSigned w32 cell.y → FitsSigned w32 origin.top → IsInWindow 16 origin.left origin.top cell → IsDown origin cell
apart_down origin cell y top inside = within_apart cell.y origin.top y top inside.north inside.south

pub low_across : (origin : WindowOrigin) (cell : Cell) → FitsSigned w32 cell.x → FitsSigned w32 origin.left → IsInWindow 16 origin.left origin.top cell
    → unsigned_abs (taken cell.x origin.left) < 64
low_across origin cell x left inside = within_low cell.x origin.left inside.west inside.east (apart_across origin cell x left inside)

pub low_down : (origin : WindowOrigin) (cell : Cell) → FitsSigned w32 cell.y → FitsSigned w32 origin.top → IsInWindow 16 origin.left origin.top cell
    → unsigned_abs (taken cell.y origin.top) < 64
low_down origin cell y top inside = within_low cell.y origin.top inside.north inside.south (apart_down origin cell y top inside)

pub spot_of : (origin : WindowOrigin) (cell : Cell) → FitsSigned w32 cell.x → FitsSigned w32 origin.left → FitsSigned w32 cell.y → FitsSigned w32 origin.top
    → IsInWindow 16 origin.left origin.top cell → IsSpot origin cell (unsigned_abs (taken cell.x origin.left)) (unsigned_abs (taken cell.y origin.top))
spot_of origin cell x left y top inside = record { across_is = (apart_across origin cell x left inside).is; down_is = (apart_down origin cell y top inside).is }

abbrev pub default_cell : Cell
default_cell = record { x = pos 0; y = pos 0 }

pub inside_at : (origin : WindowOrigin) (cells : List Cell) (k : ℕ) → ((c : Cell) → has cells c ≡ true → IsInWindow 16 origin.left origin.top c) → k < length cells
    → IsInWindow 16 origin.left origin.top (get_or cells k default_cell)
inside_at origin cells k all low = all _ (has-at cells k _ low)

pub in_rows : (n long : ℕ) → long ≡ 64 → n < 64 → n < long
in_rows n long is low = omega arith

-- ---- rows packed into vectors

-- a window packed from rows holds the pattern of the rows
pub shown_packed : (p : WindowOrigin) (rows : List ℕ) (x : List (List ℕ)) (S : List Cell) → FillsRows p.left p.top rows S
    → ((r : ℕ) → r < 64 → row_at 16 x r ≡ slice_index rows r) → Holds 16 p.left p.top x S
shown_packed p rows x S fills same = record { in_order = fills.in_order; inside = fills.inside; shown = held }
  where
    held : IsShownInside 16 p.left p.top 0 x S
    held r i a b c d = let low : r < 64 = omega arith in fills.shown r i low (omega arith) ∙ ap (λ (m : ℕ). bit_at m i == 1) (sym (same r low))
