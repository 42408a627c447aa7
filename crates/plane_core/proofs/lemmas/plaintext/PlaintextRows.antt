-- One row of a plaintext text, from a column on: its first fault and its cells.
use Rattle.std.proofs.Common.{◌≡◌, ℕ, zero, suc, pos, ◌+◌, ◌<◌, ◌≤◌, true, false, nat_lt, ◌&&◌, List, [], ◌∷◌, ◌++◌}
use Rattle.std.proofs.Common.{Option, Some, None, length, get_or, drop, map, refl, sym, ap, ◌∙◌, arith}
use Rattle.std.specs.List.{slice_get, filter_map, cons_option, enumerate_from}
use Rattle.std.proofs.lemmas.List.{drop_more, drop_all, append_assoc, append-nil}
use Rattle.std.proofs.lemmas.Bool.Decides.{nat_tests}
use Rattle.plane_core.specs.declared.plane.cell.Cell.{Cell}
use Rattle.plane_core.specs.declared.plaintext.PlaintextFault.{PlaintextFault}
use Rattle.plane_core.specs.declared.plaintext.PlaintextFault.TheVariants.{BadByte, TooLarge}
use Rattle.plane_core.specs.plane.Cells.{cell_at}
use Rattle.plane_core.specs.Plaintext.{is_cell, is_live, fault_at, first_fault, live_cells}
use Rattle.plane_core.specs.PlaintextPlaces.{side_limit, Place}

-- the places of row y from column x on
abbrev pub places_from : ℕ → ℕ → ℕ → List ℕ → List Place
places_from line y x row = map (λ at. record { line = line; y = y; x = at.0; byte = at.1 }) (enumerate_from x row)

-- a fault at the first place is the first fault
pub first_fault-cons_some : (p : Place) (ps : List Place) (f : PlaintextFault) → fault_at p ≡ Some f → first_fault (p ∷ ps) ≡ Some f
unfolding first_fault
first_fault-cons_some p ps f h = rw h refl

pub first_fault-cons_none : (p : Place) (ps : List Place) → fault_at p ≡ None → first_fault (p ∷ ps) ≡ first_fault ps
unfolding first_fault
first_fault-cons_none p ps h = rw h refl

pub live_cells-cons_live : (p : Place) (ps : List Place) → is_live p.byte ≡ true → live_cells (p ∷ ps) ≡ cell_at (pos p.x) (pos p.y) ∷ live_cells ps
unfolding live_cells
live_cells-cons_live p ps h = rw h refl

pub live_cells-cons_dead : (p : Place) (ps : List Place) → is_live p.byte ≡ false → live_cells (p ∷ ps) ≡ live_cells ps
unfolding live_cells
live_cells-cons_dead p ps h = rw h refl

abbrev pub place_at : ℕ → ℕ → ℕ → List ℕ → Place
place_at line y x row = record { line = line; y = y; x = x; byte = get_or row x 0 }

-- the places from column x on are the place at x and the places from x + 1 on
pub places_from_more : (line y x : ℕ) (row : List ℕ) → x < length row
    → places_from line y x (drop x row) ≡ place_at line y x row ∷ places_from line y (x + 1) (drop (x + 1) row)
places_from_more line y x row h = ap (places_from line y x) (drop_more row x 0 h)

pub fault_here : (line y x : ℕ) (row : List ℕ) (f : PlaintextFault) → x < length row → fault_at (place_at line y x row) ≡ Some f
    → first_fault (places_from line y x (drop x row)) ≡ Some f
fault_here line y x row f h e = ap first_fault (places_from_more line y x row h) ∙ first_fault-cons_some _ _ f e

pub no_fault_here : (line y x : ℕ) (row : List ℕ) → x < length row → fault_at (place_at line y x row) ≡ None
    → first_fault (places_from line y x (drop x row)) ≡ first_fault (places_from line y (x + 1) (drop (x + 1) row))
no_fault_here line y x row h e = ap first_fault (places_from_more line y x row h) ∙ first_fault-cons_none _ _ e

-- if the byte in column x isn't a cell, it is the first fault of the row from column x on
pub bad_byte : (line y x : ℕ) (row : List ℕ) → x < length row → is_cell (get_or row x 0) ≡ false
    → first_fault (places_from line y x (drop x row)) ≡ Some (BadByte line (x + 1))
unfolding fault_at
bad_byte line y x row h bad = fault_here line y x row (BadByte line (x + 1)) h (rw bad refl)

pub past_limits : (line y x : ℕ) (row : List ℕ) → x < length row → is_cell (get_or row x 0) ≡ true → (nat_lt x side_limit && nat_lt y side_limit) ≡ false
    → first_fault (places_from line y x (drop x row)) ≡ Some TooLarge
unfolding fault_at
past_limits line y x row h cell large = fault_here line y x row TooLarge h (rw (cell, large) refl)

pub within_limits : (line y x : ℕ) (row : List ℕ) → x < length row → is_cell (get_or row x 0) ≡ true → (nat_lt x side_limit && nat_lt y side_limit) ≡ true
    → first_fault (places_from line y x (drop x row)) ≡ first_fault (places_from line y (x + 1) (drop (x + 1) row))
unfolding fault_at
within_limits line y x row h cell small = no_fault_here line y x row h (rw (cell, small) refl)

pub no_fault_past : (line y x : ℕ) (row : List ℕ) → length row ≤ x → first_fault (places_from line y x (drop x row)) ≡ None
unfolding first_fault
no_fault_past line y x row h = rw (drop_all x row h) refl

pub live_here : (line y x : ℕ) (row : List ℕ) (cells : List Cell) → x < length row → is_live (get_or row x 0) ≡ true
    → cells ++ live_cells (places_from line y x (drop x row)) ≡ (cells ++ cell_at (pos x) (pos y) ∷ []) ++ live_cells
    (places_from line y (x + 1) (drop (x + 1) row))
live_here line y x row cells h e =
    ap (λ ps. cells ++ live_cells ps) (places_from_more line y x row h) ∙ ap (λ cs. cells ++ cs) (live_cells-cons_live _ _ e)
    ∙ sym (append_assoc cells (cell_at (pos x) (pos y) ∷ []) (live_cells (places_from line y (x + 1) (drop (x + 1) row))))

pub dead_here : (line y x : ℕ) (row : List ℕ) → x < length row → is_live (get_or row x 0) ≡ false
    → live_cells (places_from line y x (drop x row)) ≡ live_cells (places_from line y (x + 1) (drop (x + 1) row))
dead_here line y x row h e = ap live_cells (places_from_more line y x row h) ∙ live_cells-cons_dead _ _ e

pub no_cell_past : (line y x : ℕ) (row : List ℕ) (cells : List Cell) → length row ≤ x → cells ++ live_cells (places_from line y x (drop x row)) ≡ cells
unfolding live_cells
no_cell_past line y x row cells h = rw (drop_all x row h) (append-nil cells)

-- a place without a fault is in the first 1,000 columns and rows
pub in_limits : (p : Place) → fault_at p ≡ None → (p.x < side_limit) × (p.y < side_limit)
unfolding fault_at
in_limits p h = (grind (arith, nat_tests), grind (arith, nat_tests))

first-cons_option : {X : Type 0} (o : Option X) (xs : List X) → slice_get (cons_option o xs) 0 ≡ None → (o ≡ None) × (slice_get xs 0 ≡ None)
first-cons_option None xs h = (refl, h)
first-cons_option (Some x) xs h = absurd (cc)

pub first_fault-cons : (p : Place) (ps : List Place) → first_fault (p ∷ ps) ≡ None → (fault_at p ≡ None) × (first_fault ps ≡ None)
unfolding first_fault
first_fault-cons p ps h = first-cons_option (fault_at p) (filter_map fault_at ps) h

-- each byte of a row without a fault is in the first 1,000 columns and rows
pub row_in_limits : (line y x : ℕ) (row : List ℕ) → first_fault (places_from line y x row) ≡ None → (k : ℕ) → k < length row
    → (x + k < side_limit) × (y < side_limit)
row_in_limits line y x [] h k l = absurd (omega arith)
row_in_limits line y x (b ∷ row) h zero l = let s = in_limits _ (first_fault-cons _ _ h).0 in (omega arith, s.1)
row_in_limits line y x (b ∷ row) h (suc k) l = let s = row_in_limits line y (x + 1) row (first_fault-cons _ _ h).1 k (omega arith) in (omega arith, s.1)

-- the live cells of a row don't depend on its line number
pub live_cells-line : (line y x : ℕ) (row : List ℕ) → live_cells (places_from line y x row) ≡ live_cells (places_from 0 y x row)
unfolding live_cells
live_cells-line line y x [] = refl
live_cells-line line y x (b ∷ row) = grind (arith, live_cells-line line y (x + 1) row)
