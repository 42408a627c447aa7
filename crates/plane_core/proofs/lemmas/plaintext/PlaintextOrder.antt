-- The live cells of a text without a fault are a pattern.
use Rattle.std.proofs.Common.{◌≡◌, ℕ, pos, ◌+◌, ◌<◌, ◌≤◌, true, false, cond, List, [], ◌∷◌, ◌++◌, None, map, filter, refl, sym, subst, arith, ⊎_elim}
use Rattle.std.specs.List.{list_all, AllByRecursion}
use Rattle.std.specs.List.Sorted.{IsStrictlySortedBy}
use Rattle.std.specs.declared.cmp.Ordering.{Ordering}
use Rattle.std.specs.declared.cmp.Ordering.TheVariants.{Less}
use Rattle.std.specs.Str.Lines.{strip_carriage_return}
use Rattle.std.proofs.lemmas.Bool.{cases_Bool, and_from}
use Rattle.std.proofs.lemmas.Bool.Decides.{nat_tests}
use Rattle.std.proofs.lemmas.Int.{ints}
use Rattle.std.proofs.lemmas.List.Kept.{IsStrictlySortedBy-filter}
use Rattle.plane_core.specs.declared.plane.cell.Cell.{Cell}
use Rattle.plane_core.specs.plane.Cells.{cell_at, cell_cmp, on_plane, IsPattern}
use Rattle.plane_core.specs.Plaintext.{is_live, first_fault, live_cells}
use Rattle.plane_core.specs.PlaintextPlaces.{side_limit, Place, is_comment, places}
use Rattle.plane_core.proofs.lemmas.plaintext.PlaintextRows.{places_from, first_fault-cons, in_limits}
use Rattle.plane_core.proofs.lemmas.plaintext.PlaintextLines.{parts_of, places_after, places_are, places_after-cons_comment, places_after-cons_row}

abbrev pub cell_of : Place → Cell
cell_of p = cell_at (pos p.x) (pos p.y)

abbrev pub place_cmp : Place → Place → Ordering
place_cmp p q = cell_cmp (cell_of p) (cell_of q)

below_row : (p q : Place) → p.y < q.y → place_cmp p q ≡ Less
below_row p q h = grind (arith, ints)

right_of : (p q : Place) → p.y ≡ q.y → p.x < q.x → place_cmp p q ≡ Less
right_of p q e h = grind (arith, ints)

pub AllByRecursion-weaker : {X : Type 0} (P Q : X → Type 0) (xs : List X) → ((x : X) → P x → Q x) → AllByRecursion P xs → AllByRecursion Q xs
AllByRecursion-weaker P Q [] f h = tt
AllByRecursion-weaker P Q (x ∷ xs) f h = (f x h.0, AllByRecursion-weaker P Q xs f h.1)

pub AllByRecursion-append : {X : Type 0} (P : X → Type 0) (xs ys : List X) → AllByRecursion P xs → AllByRecursion P ys → AllByRecursion P (xs ++ ys)
AllByRecursion-append P [] ys h k = k
AllByRecursion-append P (x ∷ xs) ys h k = (h.0, AllByRecursion-append P xs ys h.1 k)

-- two ordered lists together are ordered if each element of the first list is before each element of the second list
pub IsStrictlySortedBy-append : {X : Type 0} (c : X → X → Ordering) (xs ys : List X) → IsStrictlySortedBy c xs → IsStrictlySortedBy c ys
    → AllByRecursion (λ x. AllByRecursion (λ y. c x y ≡ Less) ys) xs → IsStrictlySortedBy c (xs ++ ys)
unfolding IsStrictlySortedBy
IsStrictlySortedBy-append c [] ys h k b = k
IsStrictlySortedBy-append c (x ∷ xs) ys h k b = (AllByRecursion-append (λ y. c x y ≡ Less) xs ys h.0 b.0, IsStrictlySortedBy-append c xs ys h.1 k b.1)

AllByRecursion-map : {X Y : Type 0} (P : Y → Type 0) (f : X → Y) (xs : List X) → AllByRecursion (λ x. P (f x)) xs → AllByRecursion P (map f xs)
AllByRecursion-map P f [] h = tt
AllByRecursion-map P f (x ∷ xs) h = (h.0, AllByRecursion-map P f xs h.1)

IsStrictlySortedBy-map : {X Y : Type 0} (c : Y → Y → Ordering) (f : X → Y) (xs : List X) → IsStrictlySortedBy (λ p q. c (f p) (f q)) xs
    → IsStrictlySortedBy c (map f xs)
unfolding IsStrictlySortedBy
IsStrictlySortedBy-map c f [] h = tt
IsStrictlySortedBy-map c f (x ∷ xs) h = (AllByRecursion-map (λ y. c (f x) y ≡ Less) f xs h.0, IsStrictlySortedBy-map c f xs h.1)

-- the place is in row y, in column x or further right
abbrev pub IsInRow : ℕ → ℕ → Place → Type 0
IsInRow y x q = (q.y ≡ y) × (x ≤ q.x)

pub row_in_row : (line y x : ℕ) (row : List ℕ) → AllByRecursion (IsInRow y x) (places_from line y x row)
row_in_row line y x [] = tt
row_in_row line y x (b ∷ row) =
    ((refl, omega arith), AllByRecursion-weaker (IsInRow y (x + 1)) (IsInRow y x) _ (λ q h. (h.0, omega arith)) (row_in_row line y (x + 1) row))

row_in_order : (line y x : ℕ) (row : List ℕ) → IsStrictlySortedBy place_cmp (places_from line y x row)
unfolding IsStrictlySortedBy
row_in_order line y x [] = tt
row_in_order line y x (b ∷ row) = (
  AllByRecursion-weaker (IsInRow y (x + 1)) (λ q. place_cmp (record { line = line; y = y; x = x; byte = b }) q ≡ Less) _
      (λ q h. right_of (record { line = line; y = y; x = x; byte = b }) q (sym h.0) (omega arith)) (row_in_row line y (x + 1) row),
  row_in_order line y (x + 1) row,
)

-- a property of the places of lines holds if it holds in both cases: the first line is a comment, or it isn't
by_first_line : (P : List Place → Type 0) (n y : ℕ) (line : List ℕ) (parts : List (List ℕ)) → P (places_after (n + 1) y parts)
    → P (places_from n y 0 (strip_carriage_return line) ++ places_after (n + 1) (y + 1) parts) → P (places_after n y (line ∷ parts))
by_first_line P n y line parts c r =
    ⊎_elim (λ e. subst P (sym (places_after-cons_comment n y line parts e)) c) (λ e. subst P (sym (places_after-cons_row n y line parts e)) r)
    (cases_Bool (is_comment (strip_carriage_return line)))

-- the place is in row y or below it
abbrev IsFromRow : ℕ → Place → Type 0
IsFromRow y q = y ≤ q.y

lines_from_row : (n y : ℕ) (parts : List (List ℕ)) → AllByRecursion (IsFromRow y) (places_after n y parts)
unfolding places_after
lines_from_row n y [] = tt
lines_from_row n y (line ∷ parts) = by_first_line (AllByRecursion (IsFromRow y)) n y line parts (lines_from_row (n + 1) y parts)
    (AllByRecursion-append (IsFromRow y) (places_from n y 0 (strip_carriage_return line)) _
    (AllByRecursion-weaker (IsInRow y 0) (IsFromRow y) _ (λ q h. omega arith) (row_in_row n y 0 (strip_carriage_return line)))
    (AllByRecursion-weaker (IsFromRow (y + 1)) (IsFromRow y) _ (λ q h. omega arith) (lines_from_row (n + 1) (y + 1) parts)))

pub lines_in_order : (n y : ℕ) (parts : List (List ℕ)) → IsStrictlySortedBy place_cmp (places_after n y parts)
unfolding IsStrictlySortedBy places_after
lines_in_order n y [] = tt
lines_in_order n y (line ∷ parts) = by_first_line (IsStrictlySortedBy place_cmp) n y line parts (lines_in_order (n + 1) y parts)
    (IsStrictlySortedBy-append place_cmp (places_from n y 0 (strip_carriage_return line)) (places_after (n + 1) (y + 1) parts)
    (row_in_order n y 0 (strip_carriage_return line)) (lines_in_order (n + 1) (y + 1) parts)
    (AllByRecursion-weaker (IsInRow y 0) (λ p. AllByRecursion (λ q. place_cmp p q ≡ Less) (places_after (n + 1) (y + 1) parts)) _
    (λ p h. AllByRecursion-weaker (IsFromRow (y + 1)) (λ q. place_cmp p q ≡ Less) _ (λ q k. below_row p q (omega arith)) (lines_from_row (n + 1) (y + 1) parts))
    (row_in_row n y 0 (strip_carriage_return line))))

cell_on_plane : (p : Place) → (p.x < side_limit) × (p.y < side_limit) → on_plane (cell_of p) ≡ true
unfolding on_plane
cell_on_plane p h = grind (arith, nat_tests)

live_cells-on_plane : (ps : List Place) → first_fault ps ≡ None → list_all on_plane (live_cells ps) ≡ true
unfolding live_cells
live_cells-on_plane [] h = refl
live_cells-on_plane (p ∷ ps) h =
    let remainder = live_cells-on_plane ps (first_fault-cons p ps h).1 in
    let here = cell_on_plane p (in_limits p (first_fault-cons p ps h).0) in
    elim (is_live p.byte) as (λ b. list_all on_plane (map cell_of (cond b (p ∷ filter (λ q. is_live q.byte) ps) (filter (λ q. is_live q.byte) ps)))
    ≡ true) [ true ↦ and_from _ _ here remainder | false ↦ remainder ]

pub IsPattern-live_cells : (text : List ℕ) → first_fault (places text) ≡ None → IsPattern (live_cells (places text))
unfolding live_cells
IsPattern-live_cells text h = record {
  in_order = IsStrictlySortedBy-map cell_cmp cell_of _
      (IsStrictlySortedBy-filter place_cmp (λ p. is_live p.byte) (places text)
      (subst (IsStrictlySortedBy place_cmp) (sym (places_are text)) (lines_in_order 1 0 (parts_of text))));
  on_plane = live_cells-on_plane (places text) h;
}
