-- How fast a pattern grows: at most one cell on each side per generation.
use Rattle.std.proofs.Common.{◌≡◌, ℕ, ℤ, pos, ◌+ℤ◌, ◌-ℤ◌, ◌≤ℤ◌, ◌+◌, ◌<◌, ◌≤◌, zero, suc, true, false, List, [], ◌∷◌}
use Rattle.std.proofs.Common.{arith, refl, ◌∙◌, sym, subst, inl, inr, ◌⊎◌, add-zero, unsigned_abs, leb}
use Rattle.std.proofs.lemmas.Int.{ints}
use Rattle.std.proofs.lemmas.List.Elements.{All-from_recursion, recursion_from_All}
use Rattle.std.proofs.lemmas.Bool.{leb-true, le-leb, ne_eqb, and_parts, and_from}
use Rattle.plane_core.specs.declared.plane.bounds.Bounds.{Bounds}
use Rattle.plane_core.specs.declared.plane.cell.Cell.{Cell}
use Rattle.plane_core.specs.plane.Bounds.{IsWithin, enlarged}
use Rattle.plane_core.specs.plane.Cells.{plane_bound, king_distance, distance, has, is_within, on_edge}
use Rattle.plane_core.specs.plane.Generations.{around, next, after, touches_edge, lies_within, SpeedFromOrigin, SpeedOfLight}
use Rattle.plane_core.specs.plane.Rules.{Numbers}
use Rattle.plane_core.proofs.lemmas.plane.GenerationLemmas.{a_neighbour, after-none, distance_itself, has-next, lives_cases}
use Rattle.plane_core.proofs.lemmas.plane.SearchLemmas.{list_all-has, has-list_all}
use Rattle.plane_core.proofs.lemmas.plane.SetLemmas.{all-has, has-all}

-- a neighbour of a cell is at most one cell further from the origin
within-beside : (n : ℕ) (c d : Cell) → king_distance c d ≤ 1 → is_within n d ≡ true → is_within (n + 1) c ≡ true
within-beside n c d near h =
    let parts = and_parts (leb (unsigned_abs d.x) n) (leb (unsigned_abs d.y) n) h in
    and_from (leb (unsigned_abs c.x) (n + 1)) (leb (unsigned_abs c.y) (n + 1))
    (le-leb (unsigned_abs c.x) (n + 1) (step c.x d.x (omega arith) (leb-true (unsigned_abs d.x) n parts.0)))
    (le-leb (unsigned_abs c.y) (n + 1) (step c.y d.y (omega arith) (leb-true (unsigned_abs d.y) n parts.1)))
  where
    step : (a b : ℤ) → distance a b ≤ 1 → unsigned_abs b ≤ n → unsigned_abs a ≤ n + 1
    step a b h k = omega (arith, ints)

within-next : (rule : Numbers) (S : List Cell) (n : ℕ) → lies_within n S ≡ true → lies_within (n + 1) (next rule S) ≡ true
within-next rule S n h = has-list_all (is_within (n + 1)) (next rule S) (λ c k. further c (lives_cases rule S c (sym (has-next rule S c) ∙ k)))
  where
    further : (c : Cell) → (has S c ≡ true) ⊎ (0 < around S c) → is_within (n + 1) c ≡ true
    further c (inl alive) = within-beside n c c (omega (arith, distance_itself c.x, distance_itself c.y)) (list_all-has (is_within n) S h c alive)
    further c (inr beside) = let d = a_neighbour S c beside in within-beside n c d.0 (omega (arith, d.2)) (list_all-has (is_within n) S h d.0 d.1)

pub after-suc : (rule : Numbers) (S : List Cell) (g : ℕ) → after rule S (suc g) ≡ next rule (after rule S g)
unfolding after
after-suc rule S g = refl

pub within-after : (rule : Numbers) (S : List Cell) (n g : ℕ) → lies_within n S ≡ true → lies_within (n + g) (after rule S g) ≡ true
within-after rule S n zero h =
    subst (λ (m : ℕ). lies_within m (after rule S 0) ≡ true) (sym (add-zero n)) (subst (λ (T : List Cell). lies_within n T ≡ true) (sym (after-none rule S)) h)
within-after rule S n (suc g) h =
    let before = within-next rule (after rule S g) (n + g) (within-after rule S n g h) in
    subst (λ (T : List Cell). lies_within (n + suc g) T ≡ true) (sym (after-suc rule S g))
    (subst (λ (m : ℕ). lies_within m (next rule (after rule S g)) ≡ true) (omega arith) before)

pub speed_from_origin : SpeedFromOrigin
speed_from_origin = within-after

-- a neighbour of a cell in a box is in the box with one more column and row on each side
boxed-beside : (b : Bounds) (g : ℕ) (c d : Cell) → king_distance c d ≤ 1 → IsWithin (enlarged g b) d → IsWithin (enlarged (suc g) b) c
boxed-beside b g c d near h = record {
  left = low b.left d.x c.x (omega arith) h.left;
  top = low b.top d.y c.y (omega arith) h.top;
  right = high b.right d.x c.x (omega arith) h.right;
  bottom = high b.bottom d.y c.y (omega arith) h.bottom;
}
  where
    low : (l a e : ℤ) → distance e a ≤ 1 → (l -ℤ pos g) ≤ℤ a → (l -ℤ pos (suc g)) ≤ℤ e
    low l a e k m = omega (arith, ints)

    high : (r a e : ℤ) → distance e a ≤ 1 → a ≤ℤ (r +ℤ pos g) → e ≤ℤ (r +ℤ pos (suc g))
    high r a e k m = omega (arith, ints)

boxed-none : (b : Bounds) (c : Cell) → IsWithin b c → IsWithin (enlarged 0 b) c
boxed-none b c h = record { left = low b.left c.x h.left; top = low b.top c.y h.top; right = high b.right c.x h.right; bottom = high b.bottom c.y h.bottom }
  where
    low : (l a : ℤ) → l ≤ℤ a → (l -ℤ pos 0) ≤ℤ a
    low l a m = omega (arith, ints)

    high : (r a : ℤ) → a ≤ℤ r → a ≤ℤ (r +ℤ pos 0)
    high r a m = omega (arith, ints)

pub boxed-after : (rule : Numbers) (S : List Cell) (b : Bounds) (g : ℕ) → ((c : Cell) → has S c ≡ true → IsWithin b c) → (c : Cell)
    → has (after rule S g) c ≡ true → IsWithin (enlarged g b) c
boxed-after rule S b zero h c e = boxed-none b c (h c (subst (λ (T : List Cell). has T c ≡ true) (after-none rule S) e))
boxed-after rule S b (suc g) h c e =
    go (boxed-after rule S b g h) (lives_cases rule (after rule S g) c (sym (has-next rule (after rule S g) c)
    ∙ subst (λ (T : List Cell). has T c ≡ true) (after-suc rule S g) e))
  where
    go : ((d : Cell) → has (after rule S g) d ≡ true → IsWithin (enlarged g b) d) → (has (after rule S g) c ≡ true) ⊎ (0 < around (after rule S g) c)
        → IsWithin (enlarged (suc g) b) c
    go ih (inl alive) = boxed-beside b g c c (omega (arith, distance_itself c.x, distance_itself c.y)) (ih c alive)
    go ih (inr beside) = let d = a_neighbour (after rule S g) c beside in boxed-beside b g c d.0 (omega (arith, d.2)) (ih d.0 d.1)

pub speed_of_light_law : SpeedOfLight
speed_of_light_law rule S b g h =
    All-from_recursion (IsWithin (enlarged g b)) (after rule S g)
    (all-has (IsWithin (enlarged g b)) (after rule S g) (boxed-after rule S b g (λ c e. has-all (IsWithin b) S c (recursion_from_All (IsWithin b) S h) e)))

off_edge : (c : Cell) (n : ℕ) → n < plane_bound → is_within n c ≡ true → on_edge c ≡ false
unfolding on_edge
off_edge c n low h =
    let parts = and_parts (leb (unsigned_abs c.x) n) (leb (unsigned_abs c.y) n) h in
    let x : unsigned_abs c.x ≤ n = leb-true (unsigned_abs c.x) n parts.0 in
    let y : unsigned_abs c.y ≤ n = leb-true (unsigned_abs c.y) n parts.1 in
    rw (ne_eqb (unsigned_abs c.x) plane_bound (λ e. absurd (omega arith)), ne_eqb (unsigned_abs c.y) plane_bound (λ e. absurd (omega arith))) refl

-- a pattern within n of the origin doesn't touch the edge, if n is less than the bound of the plane
pub inside_edge : (S : List Cell) (n : ℕ) → n < plane_bound → lies_within n S ≡ true → touches_edge S ≡ false
inside_edge [] n low h = refl
inside_edge (c ∷ cs) n low h =
    let parts = and_parts (is_within n c) (lies_within n cs) h in
    rw (off_edge c n low parts.0, inside_edge cs n low parts.1) refl

-- if a pattern is at least n cells from the edge of the plane, generations 0 to n - 1 don't touch the edge
pub run_inside : (rule : Numbers) (S : List Cell) (reach g n : ℕ) → lies_within reach S ≡ true → reach + n ≤ plane_bound → g < n
    → touches_edge (after rule S g) ≡ false
run_inside rule S reach g n h far low = inside_edge (after rule S g) (reach + g) (omega arith) (within-after rule S reach g h)
