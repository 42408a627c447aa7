-- How fast the frontier of a pattern advances under a slow rule. The frontier is the largest depth, column plus row, of
-- a live cell.
use Rattle.std.proofs.Common.{◌≡◌, ◌+◌, ◌*◌, ◌/◌, ◌≤◌, ℕ, ℤ, pos, ◌+ℤ◌, ◌-ℤ◌, ◌*ℤ◌, ◌≤ℤ◌, ◌<ℤ◌, zero, suc, Bool, true, false}
use Rattle.std.proofs.Common.{not, ◌||◌, List, map, arith, cond, refl, ap, ◌∙◌, sym, subst, inl, inr, ◌⊎◌}
use Rattle.std.proofs.lemmas.Int.{ints}
use Rattle.std.proofs.lemmas.Bool.{false≢true}
use Rattle.plane_core.specs.declared.plane.cell.Cell.{Cell}
use Rattle.plane_core.specs.declared.plane.orientation.Orientation.{Orientation}
use Rattle.plane_core.specs.plane.Cells.{InOrder, cell_at, has}
use Rattle.plane_core.specs.plane.Frontiers.{FrontiersAreSlow, FrontiersGoOn, LiesUpTo, depth, is_slow}
use Rattle.plane_core.specs.plane.Generations.{after, around, next}
use Rattle.plane_core.specs.plane.Orientations.{image, turned_cell}
use Rattle.plane_core.specs.plane.Rules.{Numbers, is_birth, is_survival}
use Rattle.plane_core.proofs.lemmas.plane.CaseLemmas.{less_or_not}
use Rattle.plane_core.proofs.lemmas.plane.CommuteLemmas.{next-image}
use Rattle.plane_core.proofs.lemmas.plane.GenerationLemmas.{after-none, has-next, in_order-next, times_once}
use Rattle.plane_core.proofs.lemmas.plane.NeighbourhoodLemmas.{neighbourhood_total-around, times}
use Rattle.plane_core.proofs.lemmas.plane.OrientationLemmas.{has-map, has-map_from}
use Rattle.plane_core.proofs.lemmas.plane.RunLemmas.{in_order-after}
use Rattle.plane_core.proofs.lemmas.plane.SetLemmas.{has-set_of, in_order-set_of}
use Rattle.plane_core.proofs.lemmas.plane.SpeedLemmas.{after-suc}

-- ---- the nine cells of a neighbourhood

-- 1 if the pattern has the cell, and otherwise 0
abbrev pub live : List Cell → ℤ → ℤ → ℕ
live S x y = cond (has S (cell_at x y)) 1 0

live_low : (S : List Cell) (x y : ℤ) → live S x y ≤ 1
live_low S x y = elim (has S (cell_at x y)) as (λ b. cond {A = ℕ} b 1 0 ≤ 1) [ true ↦ omega arith | false ↦ omega arith ]

-- a pattern in order has the cell at (x, y) once or not at all, as `live` says
one_live : (S : List Cell) (c : Cell) (x y : ℤ) → InOrder S → c.x ≡ x → c.y ≡ y → times S c ≡ live S x y
one_live S c x y o p q = times_once S c o ∙ (λ i. cond (has S (cell_at (p i) (q i))) 1 0)

-- the live cells of a neighbourhood are counted cell by cell, in the columns a, x, b and the rows d, y, e
pub block : (S : List Cell) (x y a b d e : ℤ) → InOrder S → a ≡ x -ℤ pos 1 → b ≡ x +ℤ pos 1 → d ≡ y -ℤ pos 1 → e ≡ y +ℤ pos 1
    → around S (cell_at x y) + live S x y
    ≡ (live S b e + (live S x e + live S a e)) + ((live S b y + (live S x y + live S a y)) + (live S b d + (live S x d + live S a d)))
block S x y a b d e o p q r s =
    sums _ _ _ _ _ _ _ _ _ _ _ _ _ _ _ _ _ _ _ _ _ (sym (one_live S (cell_at x y) x y o refl refl)) (neighbourhood_total-around S (cell_at x y))
    (one_live S _ b e o (omega (arith, ints)) (omega (arith, ints))) (one_live S _ x e o (omega (arith, ints)) (omega (arith, ints)))
    (one_live S _ a e o (omega (arith, ints)) (omega (arith, ints))) (one_live S _ b y o (omega (arith, ints)) (omega (arith, ints)))
    (one_live S _ x y o (omega (arith, ints)) (omega (arith, ints))) (one_live S _ a y o (omega (arith, ints)) (omega (arith, ints)))
    (one_live S _ b d o (omega (arith, ints)) (omega (arith, ints))) (one_live S _ x d o (omega (arith, ints)) (omega (arith, ints)))
    (one_live S _ a d o (omega (arith, ints)) (omega (arith, ints)))
  where
    sums : (n m k a1 a2 a3 a4 a5 a6 a7 a8 a9 b1 b2 b3 b4 b5 b6 b7 b8 b9 : ℕ) → k ≡ m
        → (a1 + (a2 + a3)) + ((a4 + (a5 + a6)) + (a7 + (a8 + a9))) ≡ n + m → a1 ≡ b1 → a2 ≡ b2 → a3 ≡ b3 → a4 ≡ b4 → a5 ≡ b5 → a6 ≡ b6
        → a7 ≡ b7 → a8 ≡ b8 → a9 ≡ b9 → n + k ≡ (b1 + (b2 + b3)) + ((b4 + (b5 + b6)) + (b7 + (b8 + b9)))
    sums n m k a1 a2 a3 a4 a5 a6 a7 a8 a9 b1 b2 b3 b4 b5 b6 b7 b8 b9 e t p1 p2 p3 p4 p5 p6 p7 p8 p9 = omega arith

-- ---- one generation

-- the numbers of a slow rule: no birth below 3, and no survival on 4 or 5
pub record AnswersSlowly (rule : Numbers) : Type 0 where
  pub births : (n : ℕ) → is_birth rule n ≡ true → 3 ≤ n
  pub fours : is_survival rule 4 ≡ false
  pub fives : is_survival rule 5 ≡ false

four_false : (a b c d : Bool) → not (a || b || c || d) ≡ true → (a ≡ false) × (b ≡ false) × (c ≡ false) × (d ≡ false)
four_false true b c d h = absurd (false≢true h)
four_false false true c d h = absurd (false≢true h)
four_false false false true d h = absurd (false≢true h)
four_false false false false true h = absurd (false≢true h)
four_false false false false false h = (refl, refl, refl, refl)

pub answers_slowly : (rule : Numbers) → is_slow rule ≡ true → AnswersSlowly rule
answers_slowly rule slow = record {
  births = λ n e. at_least n e;
  fours = none.2;
  fives = none.3;
}
  where
    none : (is_birth rule 1 ≡ false) × (is_birth rule 2 ≡ false) × (is_survival rule 4 ≡ false) × (is_survival rule 5 ≡ false)
    none = four_false (is_birth rule 1) (is_birth rule 2) (is_survival rule 4) (is_survival rule 5) slow

    at_least : (n : ℕ) → is_birth rule n ≡ true → 3 ≤ n
    at_least zero e = absurd (false≢true e)
    at_least (suc zero) e = absurd (false≢true (sym none.0 ∙ e))
    at_least (suc (suc zero)) e = absurd (false≢true (sym none.1 ∙ e))
    at_least (suc (suc (suc n))) e = omega arith

-- no cell of the pattern is deeper than m
abbrev pub EndsAt : ℤ → List Cell → Type 0
EndsAt m S = (x y : ℤ) → has S (cell_at x y) ≡ true → (x +ℤ y) ≤ℤ m

live-one : (S : List Cell) (x y : ℤ) → live S x y ≡ 1 → has S (cell_at x y) ≡ true
live-one S x y e = go (has S (cell_at x y)) e
  where
    go : (b : Bool) → cond {A = ℕ} b 1 0 ≡ 1 → b ≡ true
    go true e = refl
    go false e = absurd (omega arith)

none-live : (S : List Cell) (x y : ℤ) → has S (cell_at x y) ≡ false → live S x y ≡ 0
none-live S x y e = ap (λ (b : Bool). cond {A = ℕ} b 1 0) e

past : (m : ℤ) (S : List Cell) (x y : ℤ) → EndsAt m S → m <ℤ (x +ℤ y) → has S (cell_at x y) ≡ false
past m S x y ends far = go (has S (cell_at x y)) refl
  where
    go : (b : Bool) → has S (cell_at x y) ≡ b → has S (cell_at x y) ≡ false
    go true e = absurd (let k = ends x y e in omega (arith, ints))
    go false e = e

dark : (m : ℤ) (S : List Cell) (x y : ℤ) → EndsAt m S → m <ℤ (x +ℤ y) → live S x y ≡ 0
dark m S x y ends far = none-live S x y (past m S x y ends far)

-- the three neighbours behind the cell are alive, and the cell is at most 1 deeper than the frontier m
pub record SawThree (m : ℤ) (S : List Cell) (x y : ℤ) : Type 0 where
  pub corner : live S (x -ℤ pos 1) (y -ℤ pos 1) ≡ 1
  pub left : live S (x -ℤ pos 1) y ≡ 1
  pub above : live S x (y -ℤ pos 1) ≡ 1
  pub depth : (x +ℤ y) ≤ℤ (m +ℤ pos 1)

born : (rule : Numbers) (S : List Cell) (x y : ℤ) → has S (cell_at x y) ≡ false → has (next rule S) (cell_at x y) ≡ true
    → is_birth rule (around S (cell_at x y)) ≡ true
born rule S x y dead e = sym (ap (λ b. cond b (is_survival rule (around S (cell_at x y))) (is_birth rule (around S (cell_at x y)))) dead)
    ∙ sym (has-next rule S (cell_at x y)) ∙ e

three : (n a b c d e f g h i : ℕ) → n + i ≡ (a + (b + c)) + ((d + (i + e)) + (f + (g + h))) → 3 ≤ n → a ≡ 0 → b ≡ 0 → c ≡ 0 → d ≡ 0 → f ≡ 0 → e ≤ 1
    → g ≤ 1 → h ≤ 1 → (e ≡ 1) × (g ≡ 1) × (h ≡ 1)
three n a b c d e f g h i s low p q r t u v w x = (omega arith, omega arith, omega arith)

pub saw_three : (rule : Numbers) (m : ℤ) (S : List Cell) (x y : ℤ) → InOrder S → AnswersSlowly rule → EndsAt m S → m <ℤ (x +ℤ y)
    → has (next rule S) (cell_at x y) ≡ true → SawThree m S x y
saw_three rule m S x y o slow ends far e = record {
  corner = seen.2;
  left = seen.0;
  above = seen.1;
  depth = let k = ends x (y -ℤ pos 1) (live-one S x (y -ℤ pos 1) seen.1) in omega (arith, ints);
}
  where
    seen : (live S (x -ℤ pos 1) y ≡ 1) × (live S x (y -ℤ pos 1) ≡ 1) × (live S (x -ℤ pos 1) (y -ℤ pos 1) ≡ 1)
    seen = three (around S (cell_at x y)) _ _ _ _ _ _ _ _ _
        (block S x y (x -ℤ pos 1) (x +ℤ pos 1) (y -ℤ pos 1) (y +ℤ pos 1) o refl refl refl refl)
        (slow.births (around S (cell_at x y)) (born rule S x y (past m S x y ends far) e))
        (dark m S (x +ℤ pos 1) (y +ℤ pos 1) ends (omega (arith, ints))) (dark m S x (y +ℤ pos 1) ends (omega (arith, ints)))
        (dark m S (x -ℤ pos 1) (y +ℤ pos 1) ends (omega (arith, ints))) (dark m S (x +ℤ pos 1) y ends (omega (arith, ints)))
        (dark m S (x +ℤ pos 1) (y -ℤ pos 1) ends (omega (arith, ints)))
        (live_low S (x -ℤ pos 1) y) (live_low S x (y -ℤ pos 1)) (live_low S (x -ℤ pos 1) (y -ℤ pos 1))

compare : (a b : ℤ) → (b ≤ℤ a) ⊎ (a <ℤ b)
compare a b = grind (arith, ints)

-- in one generation, the frontier advances by at most 1
pub ends-next : (rule : Numbers) (m : ℤ) (S : List Cell) → InOrder S → AnswersSlowly rule → EndsAt m S → EndsAt (m +ℤ pos 1) (next rule S)
ends-next rule m S o slow ends x y e = go (compare m (x +ℤ y))
  where
    go : ((x +ℤ y) ≤ℤ m) ⊎ (m <ℤ (x +ℤ y)) → (x +ℤ y) ≤ℤ (m +ℤ pos 1)
    go (inl low) = omega (arith, ints)
    go (inr far) = (saw_three rule m S x y o slow ends far e).depth

-- ---- two generations

-- a cell has 4 or 5 live neighbours if four of its neighbours are alive and three are dead, whatever the eighth is
crowded : (n a b c d e f g h i : ℕ) → n + i ≡ (a + (b + c)) + ((d + (i + e)) + (f + (g + h))) → a ≡ 0 → b ≡ 0 → d ≡ 0 → c ≡ 1 → e ≡ 1 → f ≡ 1
    → g ≡ 1 → h ≤ 1 → (n ≡ 4) ⊎ (n ≡ 5)
crowded n a b c d e f g h i s p q r t u v w low = elim (less_or_not n 5) [ inl four ↦ inl (omega arith) | inr five ↦ inr (omega arith) ]

survived : (rule : Numbers) (S : List Cell) (x y : ℤ) → has S (cell_at x y) ≡ true → has (next rule S) (cell_at x y) ≡ true
    → is_survival rule (around S (cell_at x y)) ≡ true
survived rule S x y alive e = sym (ap (λ b. cond b (is_survival rule (around S (cell_at x y))) (is_birth rule (around S (cell_at x y)))) alive)
    ∙ sym (has-next rule S (cell_at x y)) ∙ e

-- after two generations, no cell 2 deeper than the frontier is alive
none_two_past : (rule : Numbers) (m : ℤ) (S : List Cell) (x y : ℤ) → InOrder S → AnswersSlowly rule → EndsAt m S → x +ℤ y ≡ m +ℤ pos 2
    → has (next rule (next rule S)) (cell_at x y) ≡ true → ⊥
none_two_past rule m S x y o slow ends deep e = refused (crowded (around S (cell_at u v)) _ _ _ _ _ _ _ _ _
    (block S u v (u -ℤ pos 1) x (v -ℤ pos 1) y o refl (omega (arith, ints)) refl (omega (arith, ints)))
    (dark m S x y ends (omega (arith, ints))) (dark m S u y ends (omega (arith, ints))) (dark m S x v ends (omega (arith, ints)))
    by_left.left by_left.corner by_above.above by_above.corner (live_low S (u -ℤ pos 1) (v -ℤ pos 1)))
  where
    u : ℤ
    u = x -ℤ pos 1

    v : ℤ
    v = y -ℤ pos 1

    -- one generation earlier, the three neighbours behind the cell are alive; two generations earlier, so are the three
    -- neighbours behind its left neighbour, and the three behind its upper neighbour
    between : SawThree (m +ℤ pos 1) (next rule S) x y
    between = saw_three rule (m +ℤ pos 1) (next rule S) x y (in_order-next rule S) slow (ends-next rule m S o slow ends) (omega (arith, ints)) e

    by_left : SawThree m S u y
    by_left = saw_three rule m S u y o slow ends (omega (arith, ints)) (live-one (next rule S) u y between.left)

    by_above : SawThree m S x v
    by_above = saw_three rule m S x v o slow ends (omega (arith, ints)) (live-one (next rule S) x v between.above)

    survives : is_survival rule (around S (cell_at u v)) ≡ true
    survives = survived rule S u v (live-one S u v by_left.above) (live-one (next rule S) u v between.corner)

    refused : (around S (cell_at u v) ≡ 4) ⊎ (around S (cell_at u v) ≡ 5) → ⊥
    refused (inl four) = absurd (false≢true (sym slow.fours ∙ ap (is_survival rule) (sym four) ∙ survives))
    refused (inr five) = absurd (false≢true (sym slow.fives ∙ ap (is_survival rule) (sym five) ∙ survives))

ends-twice : (rule : Numbers) (m : ℤ) (S : List Cell) → InOrder S → AnswersSlowly rule → EndsAt m S → EndsAt (m +ℤ pos 1) (next rule (next rule S))
ends-twice rule m S o slow ends x y e = go (compare (m +ℤ pos 1) (x +ℤ y))
  where
    low : (x +ℤ y) ≤ℤ ((m +ℤ pos 1) +ℤ pos 1)
    low = ends-next rule (m +ℤ pos 1) (next rule S) (in_order-next rule S) slow (ends-next rule m S o slow ends) x y e

    go : ((x +ℤ y) ≤ℤ (m +ℤ pos 1)) ⊎ ((m +ℤ pos 1) <ℤ (x +ℤ y)) → (x +ℤ y) ≤ℤ (m +ℤ pos 1)
    go (inl within) = within
    go (inr far) = absurd (none_two_past rule m S x y o slow ends (omega (arith, ints, low)) e)

-- ---- many generations

two_more : (rule : Numbers) (S : List Cell) (k : ℕ) → after rule S (suc k + suc k) ≡ next rule (next rule (after rule S (k + k)))
two_more rule S k =
    ap (after rule S) twice ∙ after-suc rule S (suc (k + k)) ∙ ap (next rule) (after-suc rule S (k + k))
  where
    twice : suc k + suc k ≡ suc (suc (k + k))
    twice = omega arith

ends-later : (m : ℤ) (S T : List Cell) → S ≡ T → EndsAt m S → EndsAt m T
ends-later m S T same ends = subst (λ (V : List Cell). EndsAt m V) same ends

ends-further : (m n : ℤ) (S : List Cell) → m ≡ n → EndsAt m S → EndsAt n S
ends-further m n S same ends = subst (λ (d : ℤ). EndsAt d S) same ends

ends-after : (rule : Numbers) (m : ℤ) (S : List Cell) (k : ℕ) → InOrder S → AnswersSlowly rule → EndsAt m S → EndsAt (m +ℤ pos k) (after rule S (k + k))
ends-after rule m S zero o slow ends = ends-further m (m +ℤ pos 0) (after rule S 0) (omega (arith, ints)) (ends-later m S (after rule S 0)
    (sym (after-none rule S)) ends)
ends-after rule m S (suc k) o slow ends =
    ends-further ((m +ℤ pos k) +ℤ pos 1) (m +ℤ pos (suc k)) (after rule S (suc k + suc k)) (omega (arith, ints))
    (ends-later ((m +ℤ pos k) +ℤ pos 1) _ _ (sym (two_more rule S k))
    (ends-twice rule (m +ℤ pos k) (after rule S (k + k)) (in_order-after rule S (k + k) o) slow (ends-after rule m S k o slow ends)))

-- a cell that is alive after n generations is at most (n + 1) / 2 deeper than the frontier m, for even and for odd n
ends_by : (rule : Numbers) (m : ℤ) (S : List Cell) (n : ℕ) (x y : ℤ) → InOrder S → AnswersSlowly rule → EndsAt m S
    → has (after rule S n) (cell_at x y) ≡ true → (pos 2 *ℤ (x +ℤ y)) ≤ℤ ((pos 2 *ℤ m) +ℤ pos (n + 1))
ends_by rule m S n x y o slow ends e = within (n / 2) (halves (n / 2) refl)
  where
    halves : (k : ℕ) → k ≡ n / 2 → (k + k ≡ n) ⊎ (suc (k + k) ≡ n)
    halves k is = elim (less_or_not (k + k) n) [ inl odd ↦ inr (omega arith) | inr even ↦ inl (omega arith) ]

    within : (k : ℕ) → (k + k ≡ n) ⊎ (suc (k + k) ≡ n) → (pos 2 *ℤ (x +ℤ y)) ≤ℤ ((pos 2 *ℤ m) +ℤ pos (n + 1))
    within k (inl even) =
        let d = ends-after rule m S k o slow ends x y (ap (λ (g : ℕ). has (after rule S g) (cell_at x y)) even ∙ e) in omega (arith, ints)
    within k (inr odd) =
        let d = ends-next rule (m +ℤ pos k) (after rule S (k + k)) (in_order-after rule S (k + k) o) slow (ends-after rule m S k o slow ends) x y
        (ap (λ (V : List Cell). has V (cell_at x y)) (sym (after-suc rule S (k + k)))
        ∙ ap (λ (g : ℕ). has (after rule S g) (cell_at x y)) odd ∙ e) in omega (arith, ints)

-- ---- all orientations

pub after-image : (rule : Numbers) (o : Orientation) (S : List Cell) (n : ℕ) → InOrder S → after rule (image o S) n ≡ image o (after rule S n)
after-image rule o S zero order = after-none rule (image o S) ∙ ap (image o) (sym (after-none rule S))
after-image rule o S (suc n) order =
    after-suc rule (image o S) n ∙ ap (next rule) (after-image rule o S n order)
    ∙ next-image o rule (after rule S n) (in_order-after rule S n order) ∙ ap (image o) (sym (after-suc rule S n))

in_order-image : (o : Orientation) (S : List Cell) → InOrder (image o S)
unfolding image
in_order-image o S = in_order-set_of (map (turned_cell o) S)

has-turned : (o : Orientation) (S : List Cell) (c : Cell) → has S c ≡ true → has (image o S) (turned_cell o c) ≡ true
unfolding image
has-turned o S c e = has-set_of (map (turned_cell o) S) (turned_cell o c) ∙ has-map (turned_cell o) S c e

ends-image : (o : Orientation) (m : ℤ) (S : List Cell) → LiesUpTo o m S → EndsAt m (image o S)
unfolding image
ends-image o m S ends x y e =
    let d = has-map_from (turned_cell o) S (cell_at x y) (sym (has-set_of (map (turned_cell o) S) (cell_at x y)) ∙ e) in
    subst (λ (c : Cell). depth c ≤ℤ m) (sym d.2) (ends d.0 d.1)

pub frontiers_are_slow : FrontiersAreSlow
frontiers_are_slow rule o m S n order slow ends c e =
    ends_by rule m (image o S) n (turned_cell o c).x (turned_cell o c).y (in_order-image o S) (answers_slowly rule slow) (ends-image o m S ends)
    (ap (λ (V : List Cell). has V (turned_cell o c)) (after-image rule o S n order) ∙ has-turned o (after rule S n) c e)

pub frontiers_go_on : FrontiersGoOn
frontiers_go_on rule o m S k order slow ends c e =
    let d = frontiers_are_slow rule o m S (2 * k) order slow ends c e in omega (arith, ints)
