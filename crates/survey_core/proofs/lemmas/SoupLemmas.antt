-- The live cells of a soup's 16 by 16 square, listed one place after another. They lie near the origin.
use Rattle.std.proofs.Common.{◌≡◌, ◌∙◌, ap, sym, refl, ℕ, zero, suc, ◌+◌, ◌<◌, ◌≤◌, ◌/◌, ◌%◌, Bool, true, false, List, [], ◌∷◌, ◌++◌}
use Rattle.std.proofs.Common.{filter, map, set, take, length, arith, cond, add-zero, add-one, zero-add, nat_le, All, decimal, eq-or-lt_of_le, inl, inr, pos, subst, unsigned_abs, ◌*◌}
use Rattle.std.proofs.lemmas.Int.{ints}
use Rattle.std.proofs.lemmas.List.Elements.{All-from_recursion}
use Rattle.std.specs.List.{list_all, range_with_len}
use Rattle.std.proofs.lemmas.Bool.{and_from, false≢true, le-leb}
use Rattle.std.proofs.lemmas.List.{append-nil, map-append, take-set, take_more_set}
use Rattle.std.proofs.lemmas.List.Elements.{filter-append}
use Rattle.plane_core.specs.declared.plane.cell.Cell.{Cell}
use Rattle.plane_core.specs.plane.Bounds.{IsWithin}
use Rattle.plane_core.specs.plane.Cells.{cell_at, has, is_within, same_cell, set_of}
use Rattle.plane_core.specs.plane.Generations.{lies_within}
use Rattle.plane_core.proofs.lemmas.plane.SearchLemmas.{has-list_all, list_all-has}
use Rattle.plane_core.proofs.lemmas.plane.CellLemmas.{same_cell-itself, same_cell-same}
use Rattle.plane_core.proofs.lemmas.plane.PartLemmas.{false_unless}
use Rattle.plane_core.proofs.lemmas.plane.SetLemmas.{all-has, has-cases, has-head, has-set_of}
use Rattle.sha2.specs.Sha256.{sha256}
use Rattle.survey_core.proofs.lemmas.PlaneLemmas.{within_more}
use Rattle.survey_core.specs.Soups.{SoupsByCells, is_alive_at, is_set, live_in_square, square, square_cell}

range-more : (a n : ℕ) → range_with_len a (suc n) ≡ range_with_len a n ++ (a + n) ∷ []
range-more a zero = ap (λ (k : ℕ). k ∷ []) (sym (add-zero a))
range-more a (suc n) = ap (λ (xs : List ℕ). a ∷ xs) (range-more (a + 1) n ∙ ap (λ (k : ℕ). range_with_len (a + 1) n ++ k ∷ []) (omega arith))

pub live_cells_none : (digest : List ℕ) → live_in_square digest 0 ≡ []
unfolding live_in_square
live_cells_none digest = refl

-- the live cells at the first n + 1 places are those at the first n places, and the cell at place n if that cell is
-- alive
one_more : (digest : List ℕ) (n : ℕ) → live_in_square digest (n + 1) ≡ live_in_square digest n ++ map square_cell (cond (is_alive_at digest n) (n ∷ []) [])
unfolding live_in_square
one_more digest n =
    ap (λ (xs : List ℕ). map square_cell (filter (is_alive_at digest) xs))
    (ap (range_with_len 0) (add-one n) ∙ range-more 0 n ∙ ap (λ (k : ℕ). range_with_len 0 n ++ k ∷ []) (zero-add n))
    ∙ ap (map square_cell) (filter-append (is_alive_at digest) (range_with_len 0 n) (n ∷ []))
    ∙ map-append square_cell (filter (is_alive_at digest) (range_with_len 0 n)) (filter (is_alive_at digest) (n ∷ []))

pub live_cells_alive : (digest : List ℕ) (n : ℕ) → is_alive_at digest n ≡ true → live_in_square digest (n + 1) ≡ live_in_square digest n ++ square_cell n ∷ []
live_cells_alive digest n alive =
    one_more digest n ∙ ap (λ (b : Bool). live_in_square digest n ++ map square_cell (cond b (n ∷ []) [])) alive

pub live_cells_dead : (digest : List ℕ) (n : ℕ) → is_alive_at digest n ≡ false → live_in_square digest (n + 1) ≡ live_in_square digest n
live_cells_dead digest n dead =
    one_more digest n ∙ ap (λ (b : Bool). live_in_square digest n ++ map square_cell (cond b (n ∷ []) [])) dead ∙ append-nil (live_in_square digest n)

-- storing the cell at place n after the live cells at the first n places, and counting it if it is alive, gives the
-- live cells at the first n + 1 places
pub one_more_place : (digest : List ℕ) (n count added : ℕ) (cells : List Cell) (cell : Cell) (alive : Bool) → count < length cells
    → alive ≡ is_alive_at digest n → (alive ≡ true → added ≡ 1) → (alive ≡ false → added ≡ 0) → cell ≡ square_cell n
    → take count cells ≡ live_in_square digest n → (added ≤ 1) × (take (count + added) (set cells count cell) ≡ live_in_square digest (n + 1))
one_more_place digest n count added cells cell true low is one none same before =
    let one_more : added ≡ 1 = one refl in (
      omega (arith, one_more),
      ap (λ (k : ℕ). take (count + k) (set cells count cell)) one_more ∙ take_more_set cells count cell low
          ∙ (λ t. before t ++ same t ∷ [])
          ∙ sym (live_cells_alive digest n (sym is)),
    )
one_more_place digest n count added cells cell false low is one none same before =
    let no_more : added ≡ 0 = none refl in
    let still : count + added ≡ count = omega (arith, no_more) in (
      omega (arith, no_more),
      ap (λ (k : ℕ). take k (set cells count cell)) still ∙ take-set cells count cell ∙ before ∙ sym (live_cells_dead digest n (sym is)),
    )

near_origin : (place : ℕ) → place < 256 → is_within 15 (square_cell place) ≡ true
near_origin place low = and_from (nat_le (place % 16) 15) (nat_le (place / 16) 15) (le-leb _ _ (omega arith)) (le-leb _ _ (omega arith))

all_near : (p : ℕ → Bool) (a n : ℕ) → a + n ≤ 256 → list_all (is_within 15) (map square_cell (filter p (range_with_len a n))) ≡ true
all_near p a zero low = refl
all_near p a (suc n) low = go (p a) (all_near p (a + 1) n (omega arith))
  where
    go : (b : Bool) → list_all (is_within 15) (map square_cell (filter p (range_with_len (a + 1) n))) ≡ true
        → list_all (is_within 15) (map square_cell (cond {A = List ℕ} b (a ∷ filter p (range_with_len (a + 1) n)) (filter p (range_with_len (a + 1) n)))) ≡ true
    go true remainder = and_from (is_within 15 (square_cell a)) (list_all (is_within 15) (map square_cell (filter p (range_with_len (a + 1) n))))
        (near_origin a (omega arith)) remainder
    go false remainder = remainder

cells_near : (digest : List ℕ) → list_all (is_within 15) (live_in_square digest 256) ≡ true
unfolding live_in_square
cells_near digest = all_near (is_alive_at digest) 0 256 (omega arith)

pub soup_is_small : (digest : List ℕ) → lies_within 15 (set_of (live_in_square digest 256)) ≡ true
soup_is_small digest =
    has-list_all (is_within 15) (set_of (live_in_square digest 256))
    (λ c e. list_all-has (is_within 15) (live_in_square digest 256) (cells_near digest) c (sym (has-set_of (live_in_square digest 256) c) ∙ e))

pub soup_near : (digest : List ℕ) → lies_within 999999 (live_in_square digest 256) ≡ true
soup_near digest = within_more 15 999999 (live_in_square digest 256) (omega arith) (cells_near digest)

-- ---- cell by cell

different : (m k : ℕ) → m < k → same_cell (square_cell m) (square_cell k) ≡ false
different m k low = false_unless (same_cell (square_cell m) (square_cell k)) (λ e.
    let same : square_cell m ≡ square_cell k = same_cell-same (square_cell m) (square_cell k) e in
    let x : m % 16 ≡ k % 16 = ap (λ (c : Cell). unsigned_abs c.x) same in
    let y : m / 16 ≡ k / 16 = ap (λ (c : Cell). unsigned_abs c.y) same in
    omega arith)

-- the cell at a place before the range isn't listed
absent : (p : ℕ → Bool) (a n m : ℕ) → m < a → has (map square_cell (filter p (range_with_len a n))) (square_cell m) ≡ false
absent p a zero m low = refl
absent p a (suc n) m low = go (p a) (absent p (a + 1) n m (omega arith))
  where
    go : (b : Bool) → has (map square_cell (filter p (range_with_len (a + 1) n))) (square_cell m) ≡ false
        → has (map square_cell (cond {A = List ℕ} b (a ∷ filter p (range_with_len (a + 1) n)) (filter p (range_with_len (a + 1) n)))) (square_cell m) ≡ false
    go true remainder = rw (different m a low) remainder
    go false remainder = remainder

-- the cell at a place in the range is listed if and only if the place passes the test
present : (p : ℕ → Bool) (a n m : ℕ) → a ≤ m → m < a + n → has (map square_cell (filter p (range_with_len a n))) (square_cell m) ≡ p m
present p a zero m low high = absurd (omega arith)
present p a (suc n) m low high = elim (eq-or-lt_of_le low) [
  | inl same ↦ subst (λ (k : ℕ). has (map square_cell (filter p (range_with_len a (suc n)))) (square_cell k) ≡ p k) same (first (p a) refl)
  | inr less ↦ remainder (p a) (present p (a + 1) n m (omega arith) (omega arith)) less
]
  where
    first : (b : Bool) → p a ≡ b
        → has (map square_cell (cond {A = List ℕ} (p a) (a ∷ filter p (range_with_len (a + 1) n)) (filter p (range_with_len (a + 1) n)))) (square_cell a) ≡ p a
    first true e = rw e (has-head (square_cell a) (map square_cell (filter p (range_with_len (a + 1) n))))
    first false e = rw e (absent p (a + 1) n a (omega arith))

    remainder : (b : Bool) → has (map square_cell (filter p (range_with_len (a + 1) n))) (square_cell m) ≡ p m → a < m
        → has (map square_cell (cond {A = List ℕ} b (a ∷ filter p (range_with_len (a + 1) n)) (filter p (range_with_len (a + 1) n)))) (square_cell m) ≡ p m
    remainder true more less =
        let other : same_cell (square_cell m) (square_cell a) ≡ false = false_unless (same_cell (square_cell m) (square_cell a)) (λ e.
        false≢true (sym (different a m less) ∙ ap (same_cell (square_cell a)) (same_cell-same (square_cell m) (square_cell a) e)
        ∙ same_cell-itself (square_cell a))) in
        rw other more
    remainder false more less = more

pub soups_by_cells : SoupsByCells
unfolding live_in_square is_alive_at
soups_by_cells seed number x y in_row in_column =
    let digest : List ℕ = sha256 (seed ++ decimal number) in
    let column : (16 * y + x) % 16 ≡ x = omega arith in
    let row : (16 * y + x) / 16 ≡ y = omega arith in
    has-set_of (live_in_square digest 256) (cell_at (pos x) (pos y))
    ∙ ap (has (live_in_square digest 256)) (λ i. cell_at (pos (sym column i)) (pos (sym row i)))
    ∙ present (is_alive_at digest) 0 256 (16 * y + x) (omega arith) (omega arith)
    ∙ (λ i. is_set digest (column i) (row i))

-- ---- where the live cells lie

in_square : (p : ℕ → Bool) (a n : ℕ) → a + n ≤ 256 → (c : Cell) → has (map square_cell (filter p (range_with_len a n))) c ≡ true → IsWithin square c
in_square p a zero low c h = absurd (false≢true h)
in_square p a (suc n) low c h = go (p a) h (in_square p (a + 1) n (omega arith) c)
  where
    here : IsWithin square (square_cell a)
    here = record { left = omega (arith, ints); top = omega (arith, ints); right = omega (arith, ints); bottom = omega (arith, ints) }

    go : (b : Bool) → has (map square_cell (cond {A = List ℕ} b (a ∷ filter p (range_with_len (a + 1) n)) (filter p (range_with_len (a + 1) n)))) c ≡ true
        → (has (map square_cell (filter p (range_with_len (a + 1) n))) c ≡ true → IsWithin square c) → IsWithin square c
    go true e remainder = elim (has-cases (square_cell a) (map square_cell (filter p (range_with_len (a + 1) n))) c e) [
      | inl same ↦ subst (IsWithin square) (sym same) here
      | inr more ↦ remainder more
    ]
    go false e remainder = remainder e

pub soup_in_square : (digest : List ℕ) → All (IsWithin square) (set_of (live_in_square digest 256))
unfolding live_in_square
soup_in_square digest =
    All-from_recursion (IsWithin square) (set_of (live_in_square digest 256))
    (all-has (IsWithin square) (set_of (live_in_square digest 256))
    (λ c e. in_square (is_alive_at digest) 0 256 (omega arith) c (sym (has-set_of (live_in_square digest 256) c) ∙ e)))
