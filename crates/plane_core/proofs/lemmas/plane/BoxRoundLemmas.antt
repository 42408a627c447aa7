-- A box around a pattern, and how far it is from the origin.
use Rattle.std.proofs.Common.{◌≡◌, ◌≤◌, ℕ, true, List, arith, unsigned_abs, leb}
use Rattle.std.proofs.lemmas.Int.{ints}
use Rattle.std.proofs.lemmas.Bool.{le-leb, and_from}
use Rattle.std.proofs.lemmas.List.Elements.{recursion_from_All}
use Rattle.plane_core.specs.declared.plane.bounds.Bounds.{Bounds}
use Rattle.plane_core.specs.declared.plane.cell.Cell.{Cell}
use Rattle.plane_core.specs.plane.Bounds.{AreSidesWithin, IsWithin, IsLeastBox}
use Rattle.plane_core.specs.plane.Cells.{has, is_within}
use Rattle.plane_core.specs.plane.Generations.{lies_within}
use Rattle.plane_core.proofs.lemmas.plane.SearchLemmas.{has-list_all}
use Rattle.plane_core.proofs.lemmas.plane.SetLemmas.{has-all}

pub fewer_sides : (m n : ℕ) (b : Bounds) → m ≤ n → AreSidesWithin m b → AreSidesWithin n b
fewer_sides m n b low h = record {
  left = let p = h.left in omega arith;
  top = let p = h.top in omega arith;
  right = let p = h.right in omega arith;
  bottom = let p = h.bottom in omega arith;
}

-- all cells of a pattern lie in its box
pub in_box : (S : List Cell) (b : Bounds) (c : Cell) → IsLeastBox S b → has S c ≡ true → IsWithin b c
in_box S b c least e = has-all (IsWithin b) S c (recursion_from_All (IsWithin b) S least.within) e

-- if the sides of a box are within n of the origin, so is each cell of the box
pub lies_near : (b : Bounds) (n : ℕ) (c : Cell) → AreSidesWithin n b → IsWithin b c → is_within n c ≡ true
lies_near b n c sides within =
    let l = within.left in
    let t = within.top in
    let r = within.right in
    let d = within.bottom in
    let sl = sides.left in
    let st = sides.top in
    let sr = sides.right in
    let sd = sides.bottom in
    and_from (leb (unsigned_abs c.x) n) (leb (unsigned_abs c.y) n) (le-leb (unsigned_abs c.x) n (omega (arith, ints)))
    (le-leb (unsigned_abs c.y) n (omega (arith, ints)))

pub lies_in : (S : List Cell) (b : Bounds) (n : ℕ) → ((c : Cell) → has S c ≡ true → IsWithin b c) → AreSidesWithin n b → lies_within n S ≡ true
lies_in S b n inside sides = has-list_all (is_within n) S (λ c e. lies_near b n c sides (inside c e))

pub lies_round : (S : List Cell) (b : Bounds) (n : ℕ) → IsLeastBox S b → AreSidesWithin n b → lies_within n S ≡ true
lies_round S b n least sides = lies_in S b n (λ c e. in_box S b c least e) sides
