-- The next generation, cell by cell.
use Rattle.std.proofs.Common.{◌≡◌, ◌==◌, ℕ, ℤ, pos, negsuc, ◌+ℤ◌, ◌+◌, ◌<◌, ◌≤◌, zero, suc, Bool, true, false, ◌||◌, ◌&&◌, List, [], ◌∷◌, ◌++◌}
use Rattle.std.proofs.Common.{arith, cond, refl, ap, ◌∙◌, sym, subst, inl, inr, ◌⊎◌, add-zero, add-one, unsigned_abs, leb, eqb}
use Rattle.std.specs.List.{flat_map}
use Rattle.std.proofs.lemmas.Int.{ints}
use Rattle.std.proofs.lemmas.Bool.{false≢true, eqb-true, eqb-false, leb-true, le-leb, and_parts, and_from}
use Rattle.plane_core.specs.declared.plane.cell.Cell.{Cell}
use Rattle.plane_core.specs.plane.Cells.{plane_bound, cell_at, same_cell, king_distance, distance, moved_by}
use Rattle.plane_core.specs.plane.Cells.{has, set_of, InOrder, on_plane, on_edge, IsPattern}
use Rattle.plane_core.specs.plane.Generations.{around, lives, lives_by, triple, neighbourhood, next, after, touches_edge}
use Rattle.plane_core.specs.plane.Rules.{Numbers, is_birth, is_survival}
use Rattle.plane_core.proofs.lemmas.plane.CellLemmas.{same_cell-same}
use Rattle.plane_core.proofs.lemmas.plane.SetLemmas.{has-head, has-append, has-filter, has-set_of, has-before, has-cases, in_order-head}
use Rattle.plane_core.proofs.lemmas.plane.SetLemmas.{in_order-tail, in_order-filter, in_order-set_of, or_right}
use Rattle.plane_core.proofs.lemmas.plane.SearchLemmas.{list_all-has, has-list_all}
use Rattle.plane_core.proofs.lemmas.plane.NeighbourhoodLemmas.{near, int_eq-true, still, around-cons, times}

-- ---- cells beside the pattern

or_left : (a b : Bool) → a ≡ true → (a || b) ≡ true
or_left true b e = refl
or_left false b e = absurd (false≢true e)

-- a number at most 1 from `a` is `a - 1`, `a` or `a + 1`
one_step : (a b : ℤ) → distance a b ≤ 1 → ((a +ℤ negsuc 0) ≡ b) ⊎ ((a ≡ b) ⊎ ((a +ℤ pos 1) ≡ b))
one_step a b h = elim (near a b) [
  | inl (p, q, r, s) ↦ inl (int_eq-true (a +ℤ negsuc 0) b p)
  | inr (inl (p, q, r, s)) ↦ inr (inl (int_eq-true a b q))
  | inr (inr (inl (p, q, r, s))) ↦ inr (inr (int_eq-true (a +ℤ pos 1) b r))
  | inr (inr (inr (p, q, r, s))) ↦ absurd (omega arith)
]

same_place : (c e : Cell) → e.x ≡ c.x → e.y ≡ c.y → c ≡ e
same_place c e p q i = cell_at (sym p i) (sym q i)

has-member : (e : Cell) (es : List Cell) (c : Cell) → c ≡ e → has (e ∷ es) c ≡ true
has-member e es c same = subst (λ (x : Cell). has (e ∷ es) x ≡ true) (sym same) (has-head e es)

in_triple : (e c : Cell) → e.y ≡ c.y → distance e.x c.x ≤ 1 → has (triple e) c ≡ true
in_triple e c q h =
    let left = moved_by (negsuc 0) (pos 0) e in
    let right = moved_by (pos 1) (pos 0) e in
    elim (one_step e.x c.x h) [
      | inl p ↦ has-member left (e ∷ right ∷ []) c (same_place c left p (still e.y ∙ q))
      | inr (inl p) ↦ or_right (same_cell c left) (has (e ∷ right ∷ []) c) (has-member e (right ∷ []) c (same_place c e p q))
      | inr (inr p) ↦ or_right (same_cell c left) (has (e ∷ right ∷ []) c)
          (or_right (same_cell c e) (has (right ∷ []) c) (has-member right [] c (same_place c right p (still e.y ∙ q))))
    ]

beside_still : (a b : ℤ) → distance a b ≤ 1 → distance (a +ℤ pos 0) b ≤ 1
beside_still a b h = rw (still a) h

-- each cell at king distance at most 1 from d is in the neighbourhood of d
pub in_neighbourhood : (d c : Cell) → king_distance c d ≤ 1 → has (neighbourhood d) c ≡ true
in_neighbourhood d c h =
    let x : distance d.x c.x ≤ 1 = turned c.x d.x (omega arith) in
    let y : distance d.y c.y ≤ 1 = turned c.y d.y (omega arith) in
    let above = moved_by (pos 0) (negsuc 0) d in
    let below = moved_by (pos 0) (pos 1) d in
    let last = triple below ++ [] in
    has-append (triple above) (triple d ++ last) c ∙ elim (one_step d.y c.y y) [
      | inl p ↦ or_left (has (triple above) c) (has (triple d ++ last) c) (in_triple above c p (beside_still d.x c.x x))
      | inr (inl p) ↦ or_right (has (triple above) c) (has (triple d ++ last) c) (has-append (triple d) last c
          ∙ or_left (has (triple d) c) (has last c) (in_triple d c p x))
      | inr (inr p) ↦ or_right (has (triple above) c) (has (triple d ++ last) c) (has-append (triple d) last c
          ∙ or_right (has (triple d) c) (has last c) (has-append (triple below) [] c
          ∙ or_left (has (triple below) c) (has [] c) (in_triple below c p (beside_still d.x c.x x))))
    ]
  where
    turned : (a b : ℤ) → distance a b ≤ 1 → distance b a ≤ 1
    turned a b h = omega (arith, ints)

pub has-flat_map : (S : List Cell) (d c : Cell) → has S d ≡ true → has (neighbourhood d) c ≡ true → has (flat_map neighbourhood S) c ≡ true
has-flat_map [] d c h k = absurd (false≢true h)
has-flat_map (e ∷ es) d c h k = has-append (neighbourhood e) (flat_map neighbourhood es) c ∙ elim (has-cases e es d h) [
  | inl same ↦ or_left (has (neighbourhood e) c) (has (flat_map neighbourhood es) c) (subst (λ (b : Cell). has (neighbourhood b) c ≡ true) same k)
  | inr more ↦ or_right (has (neighbourhood e) c) (has (flat_map neighbourhood es) c) (has-flat_map es d c more k)
]

-- a cell with a positive number of live neighbours has a live neighbour
pub a_neighbour : (S : List Cell) (c : Cell) → 0 < around S c → (d : Cell) × (has S d ≡ true) × (king_distance c d ≡ 1)
a_neighbour [] c h = absurd (omega arith)
a_neighbour (d ∷ ds) c h = go (king_distance c d == 1) refl (a_neighbour ds c)
  where
    go : (b : Bool) → (king_distance c d == 1) ≡ b → (0 < around ds c → (e : Cell) × (has ds e ≡ true) × (king_distance c e ≡ 1))
        → (e : Cell) × (has (d ∷ ds) e ≡ true) × (king_distance c e ≡ 1)
    go true is ih = (d, has-head d ds, eqb-true _ _ is)
    go false is ih =
        let none : cond {A = ℕ} (king_distance c d == 1) 1 0 ≡ 0 = ap (λ (b : Bool). cond {A = ℕ} b 1 0) is in
        let found = ih (omega (arith, around-cons d ds c)) in
        (found.0, or_right (same_cell found.0 d) (has ds found.0) found.1, found.2)

born_beside : (rule : Numbers) (n : ℕ) → is_birth rule n ≡ true → 0 < n
born_beside rule zero e = absurd (false≢true e)
born_beside rule (suc n) e = omega arith

-- a cell that is alive next is alive now or has a live neighbour
pub lives_cases : (rule : Numbers) (S : List Cell) (c : Cell) → lives rule S c ≡ true → (has S c ≡ true) ⊎ (0 < around S c)
lives_cases rule S c e = go (has S c) refl e
  where
    go : (b : Bool) → has S c ≡ b → cond b (is_survival rule (around S c)) (is_birth rule (around S c)) ≡ true → (has S c ≡ true) ⊎ (0 < around S c)
    go true is e = inl is
    go false is e = inr (born_beside rule (around S c) e)

pub distance_itself : (a : ℤ) → distance a a ≡ 0
distance_itself a = omega (arith, ints)

lives_near : (rule : Numbers) (S : List Cell) (c : Cell) → lives rule S c ≡ true → has (flat_map neighbourhood S) c ≡ true
lives_near rule S c e = elim (lives_cases rule S c e) [
  | inl alive ↦ has-flat_map S c c alive (in_neighbourhood c c (omega (arith, distance_itself c.x, distance_itself c.y)))
  | inr beside ↦ let d = a_neighbour S c beside in has-flat_map S d.0 c d.1 (in_neighbourhood d.0 c (omega (arith, d.2)))
]

-- a cell is in the next generation exactly if the rule's numbers say so
pub has-next : (rule : Numbers) (S : List Cell) (c : Cell) → has (next rule S) c ≡ lives rule S c
unfolding next
has-next rule S c = has-filter (lives rule S) (set_of (flat_map neighbourhood S)) c ∙ ap (λ b. b && lives rule S c) (has-set_of (flat_map neighbourhood S) c)
    ∙ go (lives rule S c) refl
  where
    and-false : (a : Bool) → (a && false) ≡ false
    and-false true = refl
    and-false false = refl

    go : (b : Bool) → lives rule S c ≡ b → (has (flat_map neighbourhood S) c && b) ≡ b
    go true is = and_from _ true (lives_near rule S c is) refl
    go false is = and-false _

pub in_order-next : (rule : Numbers) (S : List Cell) → InOrder (next rule S)
unfolding next
in_order-next rule S = in_order-filter (lives rule S) (set_of (flat_map neighbourhood S)) (in_order-set_of (flat_map neighbourhood S))

-- ---- counting

-- an ordered list has a cell at most once
pub times_once : (S : List Cell) (c : Cell) → InOrder S → times S c ≡ cond (has S c) 1 0
times_once [] c o = refl
times_once (d ∷ ds) c o = go (same_cell c d) refl (times_once ds c (in_order-tail d ds o))
  where
    go : (b : Bool) → same_cell c d ≡ b → times ds c ≡ cond (has ds c) 1 0 → cond b 1 0 + times ds c ≡ cond (b || has ds c) 1 0
    go true is ih =
        let absent : has ds c ≡ false = subst (λ (e : Cell). has ds e ≡ false) (sym (same_cell-same c d is)) (has-before d ds (in_order-head d ds o)) in
        let none : cond {A = ℕ} (has ds c) 1 0 ≡ 0 = ap (λ (b : Bool). cond {A = ℕ} b 1 0) absent in
        omega arith
    go false is ih = omega arith

-- `lives_by`, which counts the cell itself, gives the same answer as the rule's numbers do for the live neighbours
pub lives_by-around : (rule : Numbers) (S : List Cell) (c : Cell) (b : Bool)
    → lives_by rule (around S c + cond b 1 0) b ≡ cond b (is_survival rule (around S c)) (is_birth rule (around S c))
lives_by-around rule S c true = ap (λ (n : ℕ). is_survival rule n) (omega arith)
lives_by-around rule S c false = ap (λ (n : ℕ). is_birth rule n) (add-zero (around S c))

-- ---- on the plane

-- a neighbour of a cell that isn't on the edge lies on the plane
on_plane-beside : (c d : Cell) → king_distance c d ≡ 1 → on_plane d ≡ true → on_edge d ≡ false → on_plane c ≡ true
unfolding on_plane on_edge
on_plane-beside c d near on off =
    let inside = and_parts (leb (unsigned_abs d.x) plane_bound) (leb (unsigned_abs d.y) plane_bound) on in
    let inner = or_parts (eqb (unsigned_abs d.x) plane_bound) (eqb (unsigned_abs d.y) plane_bound) off in
    and_from (leb (unsigned_abs c.x) plane_bound) (leb (unsigned_abs c.y) plane_bound)
    (le-leb (unsigned_abs c.x) plane_bound
    (within c.x d.x (omega arith) (leb-true (unsigned_abs d.x) plane_bound inside.0) (eqb-false (unsigned_abs d.x) plane_bound inner.0)))
    (le-leb (unsigned_abs c.y) plane_bound
    (within c.y d.y (omega arith) (leb-true (unsigned_abs d.y) plane_bound inside.1) (eqb-false (unsigned_abs d.y) plane_bound inner.1)))
  where
    or_parts : (a b : Bool) → (a || b) ≡ false → (a ≡ false) × (b ≡ false)
    or_parts true b e = absurd (false≢true (sym e))
    or_parts false b e = (refl, e)

    within : (a b : ℤ) → distance a b ≤ 1 → unsigned_abs b ≤ plane_bound → (unsigned_abs b ≡ plane_bound → ⊥) → unsigned_abs a ≤ plane_bound
    within a b h k apart = let less : unsigned_abs b < plane_bound = omega arith in omega (arith, ints)

not_touching : (S : List Cell) (d : Cell) → touches_edge S ≡ false → has S d ≡ true → on_edge d ≡ false
not_touching [] d none h = absurd (false≢true h)
not_touching (e ∷ es) d none h = parts (on_edge e) refl none (not_touching es d)
  where
    parts : (b : Bool) → on_edge e ≡ b → (b || touches_edge es) ≡ false → (touches_edge es ≡ false → has es d ≡ true → on_edge d ≡ false) → on_edge d ≡ false
    parts true is none ih = absurd (false≢true (sym none))
    parts false is none ih = elim (has-cases e es d h) [ inl same ↦ subst (λ (x : Cell). on_edge x ≡ false) (sym same) is | inr more ↦ ih none more ]

pub is_pattern-next : (rule : Numbers) (S : List Cell) → IsPattern S → touches_edge S ≡ false → IsPattern (next rule S)
is_pattern-next rule S p off = record {
  in_order = in_order-next rule S;
  on_plane = has-list_all on_plane (next rule S) (λ c h. inside c (lives_cases rule S c (sym (has-next rule S c) ∙ h)));
}
  where
    inside : (c : Cell) → (has S c ≡ true) ⊎ (0 < around S c) → on_plane c ≡ true
    inside c (inl alive) = list_all-has on_plane S p.on_plane c alive
    inside c (inr beside) = let d =
        a_neighbour S c beside in on_plane-beside c d.0 d.2 (list_all-has on_plane S p.on_plane d.0 d.1) (not_touching S d.0 off d.1)

-- ---- many generations

pub after-none : (rule : Numbers) (S : List Cell) → after rule S 0 ≡ S
unfolding after
after-none rule S = refl

pub after-more : (rule : Numbers) (S : List Cell) (g : ℕ) → after rule S (g + 1) ≡ next rule (after rule S g)
unfolding after
after-more rule S g = rw add-one refl

pub after-one : (rule : Numbers) (S : List Cell) → after rule S 1 ≡ next rule S
after-one rule S = after-more rule S 0 ∙ ap (next rule) (after-none rule S)
