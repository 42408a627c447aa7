-- Searching lists of cells, testing all their cells, and sorting them into sets.
use Rattle.std.proofs.Common.{◌≡◌, ℕ, ◌+◌, ◌≤◌, Bool, true, false, not, List, [], ◌∷◌, ◌<◌, drop, arith, cond, refl, ap, ◌∙◌, sym, subst}
use Rattle.std.proofs.Common.{inl, inr, length, position, Some, None, Result, Ok, Err, is_ok, get_or, nat_lt, ◌||◌, ◌&&◌}
use Rattle.std.specs.List.{dedup, list_all, Contains, position_from, prefix_len}
use Rattle.std.specs.List.Sorted.{IsSorted, IsSortedBy, IsBinarySearchResult, IsSearchInRange, IsPermutation}
use Rattle.std.specs.Cmp.{IsEquivalence, eq_by_cmp_equiv, tied_itself}
use Rattle.std.specs.Ordering.{is_lt, is_eq, ordering_reverse}
use Rattle.std.specs.declared.cmp.Ordering.{Ordering}
use Rattle.std.specs.declared.cmp.Ordering.TheVariants.{Less, Equal, Greater}
use Rattle.std.proofs.lemmas.Bool.{false≢true, cases_Bool, and_parts, and_from, ltb-false, cases_lt}
use Rattle.std.proofs.lemmas.List.{drop_more, drop_all}
use Rattle.std.proofs.lemmas.List.Sorted.{searchable_from_sorted, Contains-permutation, IsPermutation-sym}
use Rattle.std.proofs.lemmas.List.Kept.{Contains-dedup, Contains-from_dedup, IsStrictlySortedBy-dedup}
use Rattle.std.proofs.lemmas.Map.Keys.{Less-from_sorted}
use Rattle.plane_core.specs.declared.plane.cell.Cell.{Cell}
use Rattle.plane_core.specs.plane.Cells.{cell_cmp, same_cell, has, InOrder, IsPattern, set_of, on_plane, off_plane}
use Rattle.plane_core.proofs.lemmas.plane.CellLemmas.{cell_cmp_total, cell_cmp-same, same_cell-same}
use Rattle.plane_core.proofs.lemmas.plane.SetLemmas.{Contains-has, has-Contains, has-head, has-cases, in_order-set_of, has-set_of, is_set_of, same_members}

-- an ordered list is sorted by the comparison that a search uses
in_order-sorted : (S : List Cell) → InOrder S → IsSortedBy (λ a b. is_lt (cell_cmp a b)) S
in_order-sorted S o k d low high =
    go (cell_cmp (get_or S (k + 1) d) (get_or S k d)) (sym (Less-from_sorted cell_cmp S k (k + 1) d o (omega arith) high)
    ∙ cell_cmp_total.antisymm (get_or S k d) (get_or S (k + 1) d))
  where
    go : (r : Ordering) → Less ≡ ordering_reverse r → is_lt r ≡ false
    go Less e = cc
    go Equal e = refl
    go Greater e = refl

-- a search in an ordered list succeeds exactly if the cell is a member
pub searched-has : (S : List Cell) (c : Cell) (r : Result ℕ ℕ) → InOrder S → IsSearchInRange r (length S)
    → IsBinarySearchResult (λ d. cell_cmp d c) S r → is_ok r ≡ has S c
searched-has S c (Ok i) o low found = sym (Contains-has S c (i, low, cell_cmp-same (get_or S i c) c (found c)))
searched-has S c (Err i) o low found = elim (cases_Bool (has S c)) [ inl found_it ↦ absurd (absent (has-Contains S c found_it)) | inr none ↦ sym none ]
  where
    not_less : cell_cmp c c ≡ Less → ⊥
    not_less e = false≢true (ap is_eq (sym e ∙ tied_itself cell_cmp_total c))

    not_greater : cell_cmp c c ≡ Greater → ⊥
    not_greater e = false≢true (ap is_eq (sym e ∙ tied_itself cell_cmp_total c))

    absent : Contains S c → ⊥
    absent h =
        let apart = found (searchable_from_sorted cell_cmp_total (λ d. d) S c (in_order-sorted S o)) in
        elim (cases_lt h.0 i) [
          | inl before ↦ not_less (ap (λ d. cell_cmp d c) (sym h.2) ∙ apart.0 h.0 c (omega arith) before)
          | inr later ↦ not_greater (ap (λ d. cell_cmp d c) (sym h.2) ∙ apart.1 h.0 c later h.1)
        ]

-- if a search for a cell that fails a test finds none, all cells pass the test
pub position-none : (p : Cell → Bool) (cs : List Cell) → position (λ c. not (p c)) cs ≡ None → list_all p cs ≡ true
position-none p cs e = reached p cs (whole (nat_lt (prefix_len (λ c. not (not (p c))) cs) (length cs)) refl e)
  where
    whole : (b : Bool) → nat_lt (prefix_len (λ c. not (not (p c))) cs) (length cs) ≡ b
        → cond b (Some (prefix_len (λ c. not (not (p c))) cs)) None ≡ None → length cs ≤ prefix_len (λ c. not (not (p c))) cs
    whole true is e = cc
    whole false is e = ltb-false _ _ is

    reached : (q : Cell → Bool) (ds : List Cell) → length ds ≤ prefix_len (λ c. not (not (q c))) ds → list_all q ds ≡ true
    reached q [] h = refl
    reached q (d ∷ ds) h = head (q d) h (reached q ds)
      where
        head : (b : Bool) → length (d ∷ ds) ≤ cond (not (not b)) (1 + prefix_len (λ c. not (not (q c))) ds) 0
            → (length ds ≤ prefix_len (λ c. not (not (q c))) ds → list_all q ds ≡ true) → (b && list_all q ds) ≡ true
        head true h ih = ih (omega arith)
        head false h ih = absurd (omega arith)

-- if `list_all` is true for a test and a list, each cell for which `has` is true passes the test
pub list_all-has : (p : Cell → Bool) (cs : List Cell) → list_all p cs ≡ true → (c : Cell) → has cs c ≡ true → p c ≡ true
list_all-has p [] all c e = absurd (false≢true e)
list_all-has p (d ∷ ds) all c e =
    let parts = and_parts (p d) (list_all p ds) all in
    elim (has-cases d ds c e) [ inl same ↦ subst (λ (x : Cell). p x ≡ true) (sym same) parts.0 | inr more ↦ list_all-has p ds parts.1 c more ]

pub has-list_all : (p : Cell → Bool) (cs : List Cell) → ((c : Cell) → has cs c ≡ true → p c ≡ true) → list_all p cs ≡ true
has-list_all p [] h = refl
has-list_all p (d ∷ ds) h = and_from (p d) (list_all p ds) (h d (has-head d ds)) (has-list_all p ds (λ c e. h c (or_right c e)))
  where
    or_right : (c : Cell) → has ds c ≡ true → has (d ∷ ds) c ≡ true
    or_right c e = right (is_eq (cell_cmp c d)) (has ds c) e
      where
        right : (a b : Bool) → b ≡ true → (a || b) ≡ true
        right true b e = refl
        right false b e = e

-- if all cells of a list are on the plane, the set of the list is a pattern
pub is_pattern-set_of : (cs : List Cell) → position off_plane cs ≡ None → IsPattern (set_of cs)
is_pattern-set_of cs none = record {
  in_order = in_order-set_of cs;
  on_plane = has-list_all on_plane (set_of cs) (λ c e. list_all-has on_plane cs (position-none on_plane cs none) c (sym (has-set_of cs c) ∙ e));
}

-- sorting a list of cells and removing duplicates gives the set of its cells
pub deduped-set_of : (same : Cell → Cell → Bool) (cs ds : List Cell) → ((a b : Cell) → same a b ≡ same_cell a b) → IsPermutation cs ds
    → IsSorted cell_cmp ds → dedup same ds ≡ set_of cs
deduped-set_of same cs ds is moved sorted =
    is_set_of (dedup same ds) cs
    (IsStrictlySortedBy-dedup cell_cmp_total is ds sorted)
    (same_members (dedup same ds) cs
    (λ c h. Contains-permutation ds cs c (IsPermutation-sym cs ds moved) (Contains-from_dedup same ds c h))
    (λ c h. Contains-dedup (rw is_same equal_cells) (λ a b e. same_cell-same a b (sym (is a b) ∙ e)) ds c (Contains-permutation cs ds c moved h)))
  where
    is_same : same ≡ same_cell
    is_same i a b = is a b i

    equal_cells : IsEquivalence same_cell
    equal_cells = eq_by_cmp_equiv cell_cmp_total

-- a search from place i ends at place i if the cell there passes the test
pub position-here : (p : Cell → Bool) (cs : List Cell) (i : ℕ) (d : Cell) → i < length cs → p (get_or cs i d) ≡ true
    → position_from p i (drop i cs) ≡ Some i
position-here p cs i d low passes =
    ap (position_from p i) (drop_more cs i d low) ∙ ap (λ b. cond b (Some i) (position_from p (i + 1) (drop (i + 1) cs))) passes

pub position-further : (p : Cell → Bool) (cs : List Cell) (i : ℕ) (d : Cell) → i < length cs → p (get_or cs i d) ≡ false
    → position_from p i (drop i cs) ≡ position_from p (i + 1) (drop (i + 1) cs)
position-further p cs i d low fails =
    ap (position_from p i) (drop_more cs i d low) ∙ ap (λ b. cond b (Some i) (position_from p (i + 1) (drop (i + 1) cs))) fails

pub position-past : (p : Cell → Bool) (cs : List Cell) (i : ℕ) → length cs ≤ i → position_from p i (drop i cs) ≡ None
position-past p cs i all = ap (position_from p i) (drop_all i cs all)
