-- Which cells the pattern of a plaintext file has.
use Rattle.std.proofs.Common.{◌≡◌, ℕ, zero, suc, pos, ◌+◌, ◌≤◌, Bool, true, false, ◌||◌, List, [], ◌∷◌, map, get_or, refl, sym, ap, subst, ◌∙◌, arith, ⊎_elim}
use Rattle.std.specs.List.{AllByRecursion, flat_map, enumerate_from}
use Rattle.std.proofs.lemmas.Int.{ints}
use Rattle.std.proofs.lemmas.Bool.{cases_Bool}
use Rattle.plane_core.specs.declared.plane.cell.Cell.{Cell}
use Rattle.plane_core.specs.plane.Cells.{cell_at, same_cell, has}
use Rattle.plane_core.specs.PlaintextPlaces.{Place, rows_of, places_of_row, places, byte_at}
use Rattle.plane_core.specs.Plaintext.{is_live, live_cells}
use Rattle.plane_core.proofs.lemmas.plane.SetLemmas.{has-append, has-head}
use Rattle.plane_core.proofs.lemmas.plaintext.PlaintextLines.{live_cells-append}
use Rattle.plane_core.proofs.lemmas.plaintext.PlaintextOrder.{cell_of, IsInRow, row_in_row, AllByRecursion-weaker, AllByRecursion-append}
use Rattle.plane_core.proofs.lemmas.plaintext.PlaintextRows.{places_from, live_cells-cons_live, live_cells-cons_dead}
use Rattle.plane_core.proofs.lemmas.plaintext.PlaintextWalks.{apart_rows, apart_rows_down, apart_columns, apart_columns_left}

-- a cell that is at none of the places isn't among their live cells
none_there : (d : Cell) (ps : List Place) → AllByRecursion (λ p. same_cell d (cell_of p) ≡ false) ps → has (live_cells ps) d ≡ false
unfolding live_cells
none_there d [] h = refl
none_there d (p ∷ ps) h =
    let more = none_there d ps h.1 in
    ⊎_elim
    (λ e. ap (λ cs. has cs d) (live_cells-cons_live p ps e) ∙ ap (λ v. v || has (live_cells ps) d) h.0 ∙ more)
    (λ e. ap (λ cs. has cs d) (live_cells-cons_dead p ps e) ∙ more)
    (cases_Bool (is_live p.byte))

-- if `row` has the bytes of row y from column x on, the cell in column x + k of row y is alive exactly if byte k of
-- `row` is a live cell
row_has : (n y x k : ℕ) (row : List ℕ) → has (live_cells (places_from n y x row)) (cell_at (pos (x + k)) (pos y)) ≡ is_live (get_or row k 0)
unfolding live_cells
row_has n y x k [] = refl
row_has n y x zero (b ∷ row) =
    let p : Place = record { line = n; y = y; x = x; byte = b } in
    let ps = places_from n y (x + 1) row in
    let d = cell_at (pos (x + 0)) (pos y) in
    let same : d ≡ cell_of p = ap (λ w. cell_at (pos w) (pos y)) (omega arith) in
    ⊎_elim
    (λ e. ap (λ cs. has cs d) (live_cells-cons_live p ps e)
    ∙ subst (λ c. has (cell_of p ∷ live_cells ps) c ≡ true) (sym same) (has-head (cell_of p) (live_cells ps)) ∙ sym e)
    (λ e. ap (λ cs. has cs d) (live_cells-cons_dead p ps e)
    ∙ none_there d ps (AllByRecursion-weaker (IsInRow y (x + 1)) (λ q. same_cell d (cell_of q) ≡ false) ps (λ q h. let r = h.0 in let l =
    h.1 in apart_columns_left d (cell_of q) (ap pos (sym r)) (omega (arith, ints))) (row_in_row n y (x + 1) row)) ∙ sym e)
    (cases_Bool (is_live b))
row_has n y x (suc k) (b ∷ row) =
    let p : Place = record { line = n; y = y; x = x; byte = b } in
    let ps = places_from n y (x + 1) row in
    let d = cell_at (pos (x + suc k)) (pos y) in
    let next : x + suc k ≡ x + 1 + k = omega arith in
    let more : has (live_cells ps) d ≡ is_live (get_or row k 0) = ap (λ w. has (live_cells ps) (cell_at (pos w) (pos y))) next ∙ row_has n y (x + 1) k row in
    ⊎_elim
    (λ e. ap (λ cs. has cs d) (live_cells-cons_live p ps e)
    ∙ ap (λ v. v || has (live_cells ps) d) (apart_columns d (cell_of p) refl (omega (arith, ints))) ∙ more)
    (λ e. ap (λ cs. has cs d) (live_cells-cons_dead p ps e) ∙ more)
    (cases_Bool (is_live b))

-- if the first row is row y, all places of the rows are in row y or below it
rows_below : (y : ℕ) (rows : List (ℕ × List ℕ)) → AllByRecursion (λ q. y ≤ q.y) (flat_map places_of_row (enumerate_from y rows))
rows_below y [] = tt
rows_below y (r ∷ rows) =
    AllByRecursion-append (λ q. y ≤ q.y) (places_from r.0 y 0 r.1) (flat_map places_of_row (enumerate_from (y + 1) rows))
    (AllByRecursion-weaker (IsInRow y 0) (λ q. y ≤ q.y) (places_from r.0 y 0 r.1) (λ q h. let e = h.0 in omega arith) (row_in_row r.0 y 0 r.1))
    (AllByRecursion-weaker (λ q. y + 1 ≤ q.y) (λ q. y ≤ q.y) (flat_map places_of_row (enumerate_from (y + 1) rows)) (λ q h. omega arith)
    (rows_below (y + 1) rows))

or-false : (a b : Bool) → b ≡ false → (a || b) ≡ a
or-false true b e = refl
or-false false b e = e

rows_have : (y k x : ℕ) (rows : List (ℕ × List ℕ))
    → has (live_cells (flat_map places_of_row (enumerate_from y rows))) (cell_at (pos x) (pos (y + k)))
    ≡ is_live (get_or (get_or (map (λ r. r.1) rows) k []) x 0)
unfolding live_cells
rows_have y k x [] = refl
rows_have y zero x (r ∷ rows) =
    let here = places_from r.0 y 0 r.1 in
    let later = flat_map places_of_row (enumerate_from (y + 1) rows) in
    let d = cell_at (pos x) (pos (y + 0)) in
    let same : cell_at (pos x) (pos (y + 0)) ≡ cell_at (pos (0 + x)) (pos y) =
    ap (λ w. cell_at (pos x) (pos w)) (omega arith) ∙ ap (λ w. cell_at (pos w) (pos y)) (omega arith) in
    let none : has (live_cells later) d ≡ false =
    none_there d later (AllByRecursion-weaker (λ q. y + 1 ≤ q.y) (λ q. same_cell d (cell_of q) ≡ false) later
    (λ q h. apart_rows d (cell_of q) (omega (arith, ints))) (rows_below (y + 1) rows)) in
    ap (λ cs. has cs d) (live_cells-append here later) ∙ has-append (live_cells here) (live_cells later) d
    ∙ or-false (has (live_cells here) d) (has (live_cells later) d) none ∙ ap (has (live_cells here)) same ∙ row_has r.0 y 0 x r.1
rows_have y (suc k) x (r ∷ rows) =
    let here = places_from r.0 y 0 r.1 in
    let later = flat_map places_of_row (enumerate_from (y + 1) rows) in
    let d = cell_at (pos x) (pos (y + suc k)) in
    let next : y + suc k ≡ y + 1 + k = omega arith in
    let none : has (live_cells here) d ≡ false =
    none_there d here (AllByRecursion-weaker (IsInRow y 0) (λ q. same_cell d (cell_of q) ≡ false) here (λ q h. let e =
    h.0 in apart_rows_down d (cell_of q) (omega (arith, ints))) (row_in_row r.0 y 0 r.1)) in
    ap (λ cs. has cs d) (live_cells-append here later) ∙ has-append (live_cells here) (live_cells later) d
    ∙ ap (λ v. v || has (live_cells later) d) none ∙ ap (λ w. has (live_cells later) (cell_at (pos x) (pos w))) next ∙ rows_have (y + 1) k x rows

-- the cell in column x of row y of a text is alive exactly if the byte there is a live cell
pub has-live_cells : (text : List ℕ) (x y : ℕ) → has (live_cells (places text)) (cell_at (pos x) (pos y)) ≡ is_live (byte_at text x y)
unfolding places
has-live_cells text x y = let e : y ≡ 0 + y = omega arith in ap (λ w. has (live_cells (places text)) (cell_at (pos x) (pos w))) e
    ∙ rows_have 0 y x (rows_of text)
