-- A pattern in two parts that don't meet: each runs as if it were alone.
use Rattle.std.proofs.Common.{◌≡◌, ◌==◌, ◌+◌, ◌-◌, ◌*◌, ◌<◌, ◌≤◌, ℕ, ℤ, ◌++◌, zero, suc, Bool, true, false, cond, not}
use Rattle.std.proofs.Common.{◌&&◌, ◌||◌, List, [], ◌∷◌, filter, max, min, Option, Some, None, Result, Ok, Err}
use Rattle.std.specs.Prelude.{IfOk, IfSome}
use Rattle.std.proofs.Common.{arith, refl, ap, ◌∙◌, sym, subst, inl, inr, ◌⊎◌, nat_lt}
use Rattle.std.proofs.lemmas.Int.{ints}
use Rattle.std.proofs.lemmas.Bool.{false≢true, eqb-true, ltb-true, ltb-false, and_parts}
use Rattle.plane_core.specs.declared.plane.cell.Cell.{Cell}
use Rattle.plane_core.specs.plane.Cells.{has, same_cell, set_of, king_distance, distance, on_plane, plane_bound, InOrder, IsPattern}
use Rattle.plane_core.specs.plane.Generations.{around, lives, next, after, lies_within, touches_edge}
use Rattle.plane_core.specs.plane.Parts.{FarPatternsRunAlone, HasRun}
use Rattle.plane_core.specs.plane.Rules.{Numbers, is_birth, is_survival}
use Rattle.plane_core.proofs.lemmas.plane.NeighbourhoodLemmas.{around-cons}
use Rattle.plane_core.proofs.lemmas.plane.GenerationLemmas.{a_neighbour, after-none, after-one, distance_itself, has-next, lives_cases}
use Rattle.plane_core.proofs.lemmas.plane.RunLemmas.{in_order-after}
use Rattle.plane_core.proofs.lemmas.plane.SearchLemmas.{has-list_all, list_all-has}
use Rattle.plane_core.proofs.lemmas.plane.SetLemmas.{has-append, has-cases, has-filter, has-head, has-set_of, in_order-filter, in_order-set_of, or_right, same_lists}
use Rattle.plane_core.proofs.lemmas.plane.SpeedLemmas.{after-suc, run_inside}
use Rattle.plane_core.proofs.lemmas.Between.{AreApart}

-- ---- the cells on which the next state of a cell depends

-- d is at king distance 1 from c
abbrev pub beside : Cell → Cell → Bool
beside c d = king_distance c d == 1

around-beside : (S : List Cell) (c : Cell) → around (filter (beside c) S) c ≡ around S c
around-beside [] c = refl
around-beside (d ∷ ds) c = go (king_distance c d == 1) refl (around-beside ds c)
  where
    go : (b : Bool) → (king_distance c d == 1) ≡ b → around (filter (beside c) ds) c ≡ around ds c
        → around (cond b (d ∷ filter (beside c) ds) (filter (beside c) ds)) c ≡ around (d ∷ ds) c
    go true e ih = omega (arith, around-cons d (filter (beside c) ds) c, around-cons d ds c, ih)
    go false e ih =
        let none : cond {A = ℕ} (king_distance c d == 1) 1 0 ≡ 0 = ap (λ (b : Bool). cond {A = ℕ} b 1 0) e in
        omega (arith, none, around-cons d ds c, ih)

-- two patterns agree in the neighbourhood of c
abbrev pub Agree : Cell → List Cell → List Cell → Type 0
Agree c S T = (d : Cell) → king_distance c d ≤ 1 → has S d ≡ has T d

pub around-local : (S T : List Cell) (c : Cell) → InOrder S → InOrder T → Agree c S T → around S c ≡ around T c
around-local S T c o u same =
    sym (around-beside S c)
    ∙ ap (λ (V : List Cell). around V c)
    (same_lists (filter (beside c) S) (filter (beside c) T) (in_order-filter (beside c) S o) (in_order-filter (beside c) T u) members)
    ∙ around-beside T c
  where
    members : (d : Cell) → has (filter (beside c) S) d ≡ has (filter (beside c) T) d
    members d = has-filter (beside c) S d ∙ go (king_distance c d == 1) refl ∙ sym (has-filter (beside c) T d)
      where
        and-false : (a : Bool) → (a && false) ≡ false
        and-false true = refl
        and-false false = refl

        go : (b : Bool) → (king_distance c d == 1) ≡ b → (has S d && b) ≡ (has T d && b)
        go true e = ap (λ (a : Bool). a && true) (same d (let one = eqb-true (king_distance c d) 1 e in omega arith))
        go false e = and-false (has S d) ∙ sym (and-false (has T d))

pub lives-local : (rule : Numbers) (S T : List Cell) (c : Cell) → InOrder S → InOrder T → Agree c S T → lives rule S c ≡ lives rule T c
lives-local rule S T c o u same =
    λ i. cond (same c (omega (arith, distance_itself c.x, distance_itself c.y)) i) (is_survival rule (around-local S T c o u same i))
    (is_birth rule (around-local S T c o u same i))

-- ---- near and far

-- no cell of the pattern is in the neighbourhood of c
abbrev pub IsFar : Cell → List Cell → Type 0
IsFar c S = (d : Cell) → has S d ≡ true → 1 < king_distance c d

pub far_or_near : (c : Cell) (S : List Cell) → IsFar c S ⊎ ((d : Cell) × (has S d ≡ true) × (king_distance c d ≤ 1))
far_or_near c [] = inl (λ d h. absurd (false≢true h))
far_or_near c (d ∷ ds) = go (nat_lt 1 (king_distance c d)) refl (far_or_near c ds)
  where
    go : (b : Bool) → nat_lt 1 (king_distance c d) ≡ b → IsFar c ds ⊎ ((e : Cell) × (has ds e ≡ true) × (king_distance c e ≤ 1))
        → IsFar c (d ∷ ds) ⊎ ((e : Cell) × (has (d ∷ ds) e ≡ true) × (king_distance c e ≤ 1))
    go false is _ = inr (d, has-head d ds, ltb-false 1 (king_distance c d) is)
    go true is (inr found) = inr (found.0, or_right (same_cell found.0 d) (has ds found.0) found.1, found.2)
    go true is (inl far) = inl (λ e h. elim (has-cases d ds e h) [
      | inl same ↦ subst (λ (x : Cell). 1 < king_distance c x) (sym same) (ltb-true 1 (king_distance c d) is)
      | inr more ↦ far e more
    ])

-- a Boolean that isn't true is false
pub false_unless : (b : Bool) → ¬ (b ≡ true) → b ≡ false
false_unless true h = absurd (h refl)
false_unless false h = refl

pub far-has : (c : Cell) (S : List Cell) → IsFar c S → (d : Cell) → king_distance c d ≤ 1 → has S d ≡ false
far-has c S far d near = false_unless (has S d) (λ h. let out = far d h in absurd (omega arith))

-- a cell with no live cell in its neighbourhood is dead in the next generation
pub far-lives : (rule : Numbers) (c : Cell) (S : List Cell) → IsFar c S → lives rule S c ≡ false
far-lives rule c S far = false_unless (lives rule S c) (λ h. elim (lives_cases rule S c h) [
  | inl alive ↦ let out = far c alive in absurd (omega (arith, out, distance_itself c.x, distance_itself c.y))
  | inr some ↦ let d = a_neighbour S c some in let out = far d.0 d.1 in absurd (omega (arith, out, d.2))
])

-- ---- where live cells come from

pub triangle : (c d e : Cell) (m n : ℕ) → king_distance c d ≤ m → king_distance d e ≤ n → king_distance c e ≤ m + n
triangle c d e m n h k =
    let x : distance c.x e.x ≤ m + n = one c.x d.x e.x (omega arith) (omega arith) in
    let y : distance c.y e.y ≤ m + n = one c.y d.y e.y (omega arith) (omega arith) in
    omega arith
  where
    one : (a b c : ℤ) → distance a b ≤ m → distance b c ≤ n → distance a c ≤ m + n
    one a b c h k = omega (arith, ints)

pub turned : (c d : Cell) → king_distance c d ≡ king_distance d c
turned c d = λ i. max (one c.x d.x i) (one c.y d.y i)
  where
    one : (a b : ℤ) → distance a b ≡ distance b a
    one a b = omega (arith, ints)

-- a cell that is alive after g generations is within king distance g of a cell that was alive at the start
pub near-after : (rule : Numbers) (S : List Cell) (g : ℕ) (c : Cell) → has (after rule S g) c ≡ true
    → (d : Cell) × (has S d ≡ true) × (king_distance c d ≤ g)
near-after rule S zero c e = (c, subst (λ (T : List Cell). has T c ≡ true) (after-none rule S) e, omega (arith, distance_itself c.x, distance_itself c.y))
near-after rule S (suc g) c e =
    go (λ d h. near-after rule S g d h) (lives_cases rule (after rule S g) c (sym (has-next rule (after rule S g) c)
    ∙ subst (λ (T : List Cell). has T c ≡ true) (after-suc rule S g) e))
  where
    go : ((d : Cell) → has (after rule S g) d ≡ true → (e : Cell) × (has S e ≡ true) × (king_distance d e ≤ g))
        → (has (after rule S g) c ≡ true) ⊎ (0 < around (after rule S g) c) → (e : Cell) × (has S e ≡ true) × (king_distance c e ≤ suc g)
    go ih (inl alive) = let e = ih c alive in (e.0, e.1, omega (arith, e.2))
    go ih (inr some) =
        let d = a_neighbour (after rule S g) c some in
        let e = ih d.0 d.1 in
        (e.0, e.1, omega (arith, triangle c d.0 e.0 1 g (omega (arith, d.2)) e.2))

-- ---- two parts

-- the cell doesn't pass the test
abbrev pub others : (Cell → Bool) → Cell → Bool
others test c = not (test c)

-- each cell of the pattern is in one of the two parts
has-parts : (test : Cell → Bool) (S : List Cell) (c : Cell) → has S c ≡ (has (filter test S) c || has (filter (others test) S) c)
has-parts test S c = both (has S c) (test c) ∙ sym (λ i. has-filter test S c i || has-filter (others test) S c i)
  where
    both : (a b : Bool) → a ≡ ((a && b) || (a && not b))
    both true true = refl
    both true false = refl
    both false b = refl

-- two parts that are further than 2n apart don't affect each other up to generation n
pub parts-after : (rule : Numbers) (S : List Cell) (test : Cell → Bool) (n g : ℕ) → InOrder S → AreApart (2 * n) test S → g ≤ n → (c : Cell)
    → has (after rule S g) c ≡ (has (after rule (filter test S) g) c || has (after rule (filter (others test) S) g) c)
parts-after rule S test n zero o apart low c =
    ap (λ (T : List Cell). has T c) (after-none rule S) ∙ has-parts test S c
    ∙ sym (λ i. has (after-none rule (filter test S) i) c || has (after-none rule (filter (others test) S) i) c)
parts-after rule S test n (suc g) o apart low c =
    ap (λ (T : List Cell). has T c) (after-suc rule S g) ∙ has-next rule whole c
    ∙ side (λ d. parts-after rule S test n g o apart (omega arith) d) (far_or_near c one) (far_or_near c other)
    ∙ sym (λ i. has-next rule one c i || has-next rule other c i)
    ∙ sym (λ i. has (after-suc rule (filter test S) g i) c || has (after-suc rule (filter (others test) S) g i) c)
  where
    whole : List Cell
    whole = after rule S g

    one : List Cell
    one = after rule (filter test S) g

    other : List Cell
    other = after rule (filter (others test) S) g

    ordered : (T : List Cell) → InOrder T → InOrder (after rule T g)
    ordered T u = in_order-after rule T g u

    or-false : (a : Bool) → (a || false) ≡ a
    or-false true = refl
    or-false false = refl

    side : ((d : Cell) → has whole d ≡ (has one d || has other d)) → IsFar c one ⊎ ((d : Cell) × (has one d ≡ true) × (king_distance c d ≤ 1))
        → IsFar c other ⊎ ((d : Cell) × (has other d ≡ true) × (king_distance c d ≤ 1))
        → lives rule whole c ≡ (lives rule one c || lives rule other c)
    side before first (inl far) =
        lives-local rule whole one c (ordered S o) (ordered (filter test S) (in_order-filter test S o))
        (λ d near. before d ∙ ap (λ (a : Bool). has one d || a) (far-has c other far d near) ∙ or-false (has one d))
        ∙ sym (ap (λ (a : Bool). lives rule one c || a) (far-lives rule c other far) ∙ or-false (lives rule one c))
    side before (inl far) second =
        lives-local rule whole other c (ordered S o) (ordered (filter (others test) S) (in_order-filter (others test) S o))
        (λ d near. before d ∙ ap (λ (a : Bool). a || has other d) (far-has c one far d near))
        ∙ sym (ap (λ (a : Bool). a || lives rule other c) (far-lives rule c one far))
    side before (inr d) (inr e) =
        let a = near-after rule (filter test S) g d.0 d.1 in
        let b = near-after rule (filter (others test) S) g e.0 e.1 in
        let in_one = and_parts (has S a.0) (test a.0) (sym (has-filter test S a.0) ∙ a.1) in
        let in_other = and_parts (has S b.0) (not (test b.0)) (sym (has-filter (others test) S b.0) ∙ b.1) in
        let out = apart a.0 b.0 in_one.0 in_other.0 in_one.1 (not_false (test b.0) in_other.1) in
        let there = triangle a.0 d.0 c g 1 (omega (arith, turned a.0 d.0, a.2)) (omega (arith, turned d.0 c, d.2)) in
        let back = triangle c e.0 b.0 1 g e.2 b.2 in
        let across = triangle a.0 c b.0 (g + 1) (1 + g) there back in
        absurd (omega (arith, out, across))
      where
        not_false : (b : Bool) → not b ≡ true → b ≡ false
        not_false true h = absurd (false≢true h)
        not_false false h = refl

-- ---- patterns

pub is_pattern-union : (S T : List Cell) → IsPattern S → IsPattern T → IsPattern (set_of (S ++ T))
is_pattern-union S T p q = record {
  in_order = in_order-set_of (S ++ T);
  on_plane = has-list_all on_plane (set_of (S ++ T)) (λ c e. either c (has S c) refl (sym (has-set_of (S ++ T) c ∙ has-append S T c) ∙ e));
}
  where
    either : (c : Cell) (b : Bool) → has S c ≡ b → (has S c || has T c) ≡ true → on_plane c ≡ true
    either c true is e = list_all-has on_plane S p.on_plane c is
    either c false is e = list_all-has on_plane T q.on_plane c (sym (ap (λ (a : Bool). a || has T c) is) ∙ e)

-- ---- two patterns that lie far apart

-- this is `parts-after` for the union of the two patterns, where the test is whether a cell is in the first pattern
pub far_patterns : FarPatternsRunAlone
far_patterns rule one other g o u far =
    same_lists (after rule both g) (set_of (after rule one g ++ after rule other g)) (in_order-after rule both g (in_order-set_of (one ++ other)))
    (in_order-set_of (after rule one g ++ after rule other g))
    (λ c. parts-after rule both (has one) g g (in_order-set_of (one ++ other)) apart (omega arith) c
    ∙ (λ i. has (after rule (first i) g) c || has (after rule (second i) g) c)
    ∙ sym (has-set_of (after rule one g ++ after rule other g) c ∙ has-append (after rule one g) (after rule other g) c))
  where
    both : List Cell
    both = set_of (one ++ other)

    has-both : (c : Cell) → has (set_of (one ++ other)) c ≡ (has one c || has other c)
    has-both c = has-set_of (one ++ other) c ∙ has-append one other c

    apart : AreApart (2 * g) (has one) (set_of (one ++ other))
    apart c d h k in_one out =
        far c d in_one (sym (ap (λ (a : Bool). a || has other d) out) ∙ sym (has-both d) ∙ k)

    absent : (c : Cell) → has one c ≡ true → has other c ≡ false
    absent c h = false_unless (has other c) (λ k. let out = far c c h k in omega (arith, out, distance_itself c.x, distance_itself c.y))

    take_first : (a b : Bool) → ((a || b) && a) ≡ a
    take_first true b = refl
    take_first false true = refl
    take_first false false = refl

    take_second : (a b : Bool) → (a ≡ true → b ≡ false) → ((a || b) && not a) ≡ b
    take_second true b h = sym (h refl)
    take_second false true h = refl
    take_second false false h = refl

    first : filter (has one) (set_of (one ++ other)) ≡ one
    first = same_lists (filter (has one) (set_of (one ++ other))) one (in_order-filter (has one) (set_of (one ++ other)) (in_order-set_of (one ++ other))) o
        (λ c. has-filter (has one) (set_of (one ++ other)) c ∙ ap (λ (a : Bool). a && has one c) (has-both c) ∙ take_first (has one c) (has other c))

    second : filter (others (has one)) (set_of (one ++ other)) ≡ other
    second =
        same_lists (filter (others (has one)) (set_of (one ++ other))) other
        (in_order-filter (others (has one)) (set_of (one ++ other)) (in_order-set_of (one ++ other))) u
        (λ c. has-filter (others (has one)) (set_of (one ++ other)) c ∙ ap (λ (a : Bool). a && not (has one c)) (has-both c)
        ∙ take_second (has one c) (has other c) (absent c))

-- ---- a run on a board

-- a run of n generations on a board is a run of the pattern that was laid on it, if this pattern is at least n cells
-- from the edge of the plane
pub ran_on_board : {E : Type 0} (ran : Result (Option (List Cell)) E) (laid rule : Numbers) (T S : List Cell) (n : ℕ) → laid ≡ rule → T ≡ S
    → lies_within (plane_bound - n) S ≡ true → IfOk ran (λ shown. IfSome shown (λ later. later ≡ after laid T n))
    → IfOk ran (λ shown. IfSome shown (HasRun rule S n))
ran_on_board (Ok (Some later)) laid rule T S n p q inside h = record { after = h ∙ (λ i. after (p i) (q i) n); inside = inside }
ran_on_board (Ok None) laid rule T S n p q inside h = tt
ran_on_board (Err e) laid rule T S n p q inside h = tt

-- ---- a stretch of generations

-- `later` is the pattern after `count` generations (1 to `most`), and no earlier generation touches the edge
pub record IsStretch (rule : Numbers) (cells : List Cell) (most count : ℕ) (later : List Cell) : Type 0 where
  pub some : 0 < count
  pub within : count ≤ most
  pub inside : (g : ℕ) → g < count → touches_edge (after rule cells g) ≡ false
  pub after : later ≡ after rule cells count

pub stretch_of_run : (rule : Numbers) (S : List Cell) (most count : ℕ) (later : List Cell) → 0 < most → count ≡ min most 256 → HasRun rule S count later
    → IsStretch rule S most count later
stretch_of_run rule S most count later some is ran = record {
  some = omega (arith, is);
  within = omega (arith, is);
  after = ran.after;
  inside = λ g low. run_inside rule S (plane_bound - count) g count ran.inside (omega (arith, is)) low;
}

pub stretch_of_step : (rule : Numbers) (S : List Cell) (most : ℕ) (later : List Cell) → 0 < most → later ≡ next rule S → touches_edge S ≡ false
    → IsStretch rule S most 1 later
stretch_of_step rule S most later some is off = record {
  some = omega arith;
  within = omega arith;
  after = is ∙ sym (after-one rule S);
  inside = λ g low. let first : g ≡ 0 = omega arith in ap (λ (n : ℕ). touches_edge (after rule S n)) first ∙ ap touches_edge (after-none rule S) ∙ off;
}
