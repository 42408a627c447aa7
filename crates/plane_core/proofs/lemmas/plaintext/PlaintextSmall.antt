-- A pattern that was read from plaintext lies within 999 of the origin.
use Rattle.std.proofs.Common.{◌≡◌, ℕ, ◌<◌, true, false, cond, List, [], ◌∷◌, Option, None, Some, Ok, map, filter, refl, subst, arith}
use Rattle.std.proofs.lemmas.Bool.{and_from}
use Rattle.std.proofs.lemmas.Bool.Decides.{nat_tests}
use Rattle.plane_core.specs.declared.plane.cell.Cell.{Cell}
use Rattle.plane_core.specs.declared.plaintext.PlaintextFault.{PlaintextFault}
use Rattle.plane_core.specs.plane.Cells.{is_within}
use Rattle.plane_core.specs.plane.Generations.{lies_within}
use Rattle.plane_core.specs.Plaintext.{is_live, first_fault, live_cells, pattern, cells_unless}
use Rattle.plane_core.specs.PlaintextPlaces.{side_limit, Place, places}
use Rattle.plane_core.proofs.lemmas.plaintext.PlaintextOrder.{cell_of}
use Rattle.plane_core.proofs.lemmas.plaintext.PlaintextRows.{first_fault-cons, in_limits}

abbrev LiesWithin999 : List Cell → Type 0
LiesWithin999 cells = lies_within 999 cells ≡ true

cell_is_small : (p : Place) → (p.x < side_limit) × (p.y < side_limit) → is_within 999 (cell_of p) ≡ true
cell_is_small p h = grind (arith, nat_tests)

live_cells-small : (ps : List Place) → first_fault ps ≡ None → LiesWithin999 (live_cells ps)
unfolding live_cells
live_cells-small [] h = refl
live_cells-small (p ∷ ps) h =
    let remainder = live_cells-small ps (first_fault-cons p ps h).1 in
    let here = cell_is_small p (in_limits p (first_fault-cons p ps h).0) in
    elim (is_live p.byte) as (λ b. LiesWithin999
    (map cell_of (cond b (p ∷ filter (λ q. is_live q.byte) ps) (filter (λ q. is_live q.byte) ps)))) [ true ↦ and_from _ _ here remainder | false ↦ remainder ]

-- the cells of places without a fault are within 999 of the origin
without_fault : (ps : List Place) (fault : Option PlaintextFault) (cells : List Cell) → first_fault ps ≡ fault
    → cells_unless fault (live_cells ps) ≡ Ok cells → LiesWithin999 cells
without_fault ps None cells none is = let same : live_cells ps ≡ cells = cc in subst LiesWithin999 same (live_cells-small ps none)
without_fault ps (Some fault) cells some is = cc

pub read_is_small : (text : List ℕ) (cells : List Cell) → pattern text ≡ Ok cells → lies_within 999 cells ≡ true
read_is_small text cells is = without_fault (places text) _ cells refl is
