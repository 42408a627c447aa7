-- How far influence reaches: the state of a cell after k generations depends only on the cells at most k from it.
use Rattle.std.proofs.Common.{◌≤◌, ℕ, ℤ, ◌+ℤ◌, ◌-ℤ◌, ◌≤ℤ◌, pos, zero, suc, List, arith, ap, ◌∙◌, sym}
use Rattle.std.proofs.lemmas.Int.{ints}
use Rattle.plane_core.specs.declared.plane.cell.Cell.{Cell}
use Rattle.plane_core.specs.plane.Cells.{distance, has}
use Rattle.plane_core.specs.plane.Generations.{after}
use Rattle.plane_core.specs.plane.Locality.{RightInside, SeesNoFurther}
use Rattle.plane_core.proofs.lemmas.plane.GenerationLemmas.{after-none, distance_itself, has-next}
use Rattle.plane_core.proofs.lemmas.plane.PartLemmas.{lives-local, triangle}
use Rattle.plane_core.proofs.lemmas.plane.RunLemmas.{in_order-after}
use Rattle.plane_core.proofs.lemmas.plane.SpeedLemmas.{after-suc}

-- by induction on the generations: the patterns agree in ever smaller neighbourhoods of the cell
pub sees_no_further : SeesNoFurther
sees_no_further rule S T zero c o u same =
    ap (λ (V : List Cell). has V c) (after-none rule S) ∙ same c (omega (arith, distance_itself c.x, distance_itself c.y))
    ∙ sym (ap (λ (V : List Cell). has V c) (after-none rule T))
sees_no_further rule S T (suc k) c o u same =
    ap (λ (V : List Cell). has V c) (after-suc rule S k) ∙ has-next rule (after rule S k) c
    ∙ lives-local rule (after rule S k) (after rule T k) c (in_order-after rule S k o) (in_order-after rule T k u)
    (λ d near. sees_no_further rule S T k d o u (λ e far. same e (omega (arith, triangle c d e 1 k near far))))
    ∙ sym (ap (λ (V : List Cell). has V c) (after-suc rule T k) ∙ has-next rule (after rule T k) c)

low : (l a e : ℤ) (k : ℕ) → distance a e ≤ k → (l +ℤ pos k) ≤ℤ a → l ≤ℤ e
low l a e k h m = omega (arith, ints)

high : (r a e : ℤ) (k : ℕ) → distance a e ≤ k → a ≤ℤ (r -ℤ pos k) → e ≤ℤ r
high r a e k h m = omega (arith, ints)

pub right_inside : RightInside
right_inside rule S T b k o u same c inside = sees_no_further rule S T k c o u (λ d near. same d (record {
  left = low b.left c.x d.x k (omega arith) inside.left;
  top = low b.top c.y d.y k (omega arith) inside.top;
  right = high b.right c.x d.x k (omega arith) inside.right;
  bottom = high b.bottom c.y d.y k (omega arith) inside.bottom;
}))
