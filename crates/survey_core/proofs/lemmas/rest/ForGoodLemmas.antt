-- The empty pattern, patterns that recur in their places, and clusters that keep apart forever.
use Rattle.std.proofs.Common.{◌≡◌, ◌∙◌, ap, sym, refl, subst, ℕ, ℤ, pos, ◌+ℤ◌, zero, suc, ◌+◌, ◌*◌, ◌/◌, ◌%◌, ◌≤◌, add-one}
use Rattle.std.proofs.Common.{List, [], ◌∷◌, map, All, drop, get_or, arith}
use Rattle.std.specs.List.{list_any}
use Rattle.std.proofs.lemmas.Int.{ints}
use Rattle.std.proofs.Math.Nat.{div-add-mod, mul_comm, suc-mul, zero-mul}
use Rattle.plane_core.specs.declared.plane.cell.Cell.{Cell}
use Rattle.plane_core.specs.plane.Bounds.{shifted}
use Rattle.plane_core.specs.plane.Cells.{InOrder, has}
use Rattle.plane_core.specs.clusters.Clusters.{Partition}
use Rattle.plane_core.specs.plane.Generations.{after, next}
use Rattle.plane_core.specs.plane.Rules.{Numbers}
use Rattle.plane_core.proofs.lemmas.plane.GenerationLemmas.{after-none, after-more}
use Rattle.plane_core.proofs.lemmas.plane.SetLemmas.{same_lists}
use Rattle.code_core.proofs.MovedCodes.{in_order-after}
use Rattle.survey_core.specs.rest.Rest.{KeepApart}
use Rattle.survey_core.proofs.lemmas.FindingLemmas.{after-then}

-- ---- the empty pattern

next-empty : (rule : Numbers) → next rule [] ≡ []
unfolding next
next-empty rule = refl

pub after-empty : (rule : Numbers) (g : ℕ) → after rule [] g ≡ []
after-empty rule zero = after-none rule []
after-empty rule (suc g) = ap (after rule []) (sym (add-one g)) ∙ after-more rule [] g ∙ ap (next rule) (after-empty rule g) ∙ next-empty rule

-- ---- a pattern that recurs in its place

-- after any number of periods the pattern is itself again
after_periods : (rule : Numbers) (cells : List Cell) (p k : ℕ) → after rule cells p ≡ cells → after rule cells (k * p) ≡ cells
after_periods rule cells p zero back = ap (after rule cells) (zero-mul p) ∙ after-none rule cells
after_periods rule cells p (suc k) back =
    ap (after rule cells) (suc-mul k p) ∙ sym (after-then rule cells (k * p) p)
    ∙ ap (λ (state : List Cell). after rule state p) (after_periods rule cells p k back) ∙ back

-- generation g is the same as the generation g % p, the remainder modulo the period
pub after_remainder : (rule : Numbers) (cells : List Cell) (p g : ℕ) → after rule cells p ≡ cells → after rule cells g ≡ after rule cells (g % p)
after_remainder rule cells p g back =
    ap (after rule cells) (sym (div-add-mod g p) ∙ ap (λ (n : ℕ). n + g % p) (mul_comm p (g / p)))
    ∙ sym (after-then rule cells ((g / p) * p) (g % p))
    ∙ ap (λ (state : List Cell). after rule state (g % p)) (after_periods rule cells p (g / p) back)

unmoved : (x : ℤ) → x +ℤ pos 0 ≡ x
unmoved x = omega (arith, ints)

pub shifted-none : (cells : List Cell) → shifted (pos 0) (pos 0) cells ≡ cells
shifted-none [] = refl
shifted-none (c ∷ cs) = λ i. record { y = unmoved c.y i; x = unmoved c.x i } ∷ shifted-none cs i

-- ---- at rest for good

map_same : (f g : List Cell → List Cell) (parts : List (List Cell)) → All (λ part. f part ≡ g part) parts → map f parts ≡ map g parts
map_same f g [] same = refl
map_same f g (part ∷ parts) same = λ i. same 0 part (omega arith) i ∷ map_same f g parts (λ k d low. same (suc k) d (omega arith)) i

map_itself : (parts : List (List Cell)) → map (λ part. part) parts ≡ parts
map_itself [] = refl
map_itself (part ∷ parts) = λ i. part ∷ map_itself parts i

-- clusters that keep apart up to a generation L, in which each of them is itself again
module _ (rule : Numbers) (cells : List Cell) (clusters : List (List Cell)) (L : ℕ) (some : 1 ≤ L) (order : InOrder cells)
    (are : Partition cells clusters) (each : All (λ part. after rule part L ≡ part) clusters) (apart : (g : ℕ) → g ≤ L → KeepApart rule cells clusters g)
  where
    -- the whole is itself again in generation L, too
    pub whole_back : after rule cells L ≡ cells
    whole_back =
        let later : Partition (after rule cells L) (map (λ part. after rule part L) clusters) = apart L (omega arith) in
        let same : map (λ part. after rule part L) clusters ≡ clusters =
        map_same (λ part. after rule part L) (λ part. part) clusters each ∙ map_itself clusters in
        same_lists (after rule cells L) cells (in_order-after rule cells L order) order
        (λ c. sym (later.union c) ∙ ap (λ (parts : List (List Cell)). list_any (λ part. has part c) parts) same ∙ are.union c)

    -- the clusters keep apart forever
    pub apart_forever : (g : ℕ) → KeepApart rule cells clusters g
    apart_forever g =
        let inside : g % L ≤ L = omega arith in
        subst (λ (parts : List (List Cell)). Partition (after rule cells g) parts)
        (map_same (λ part. after rule part (g % L)) (λ part. after rule part g) clusters
        (λ k d there. sym (after_remainder rule (get_or clusters k d) L g (each k d there))))
        (subst (λ (whole : List Cell). Partition whole (map (λ part. after rule part (g % L)) clusters)) (sym (after_remainder rule cells L g whole_back))
        (apart (g % L) inside))

map_fixed : (f : List Cell → List Cell) (parts : List (List Cell)) → map f parts ≡ parts → All (λ part. f part ≡ part) parts
map_fixed f [] same k d low = absurd (omega arith)
map_fixed f (part ∷ parts) same zero d low = ap (λ (list : List (List Cell)). get_or list 0 part) same
map_fixed f (part ∷ parts) same (suc k) d low = map_fixed f parts (ap (λ (list : List (List Cell)). drop 1 list) same) k d (omega arith)

-- if clusters keep apart up to a generation in which each of them is itself again, they keep apart forever
pub apart_once_back : (rule : Numbers) (cells : List Cell) (clusters alone : List (List Cell)) (L : ℕ) → 1 ≤ L → InOrder cells → Partition cells clusters
    → alone ≡ map (λ part. after rule part L) clusters → alone ≡ clusters → ((g : ℕ) → g ≤ L → KeepApart rule cells clusters g)
    → (g : ℕ) → KeepApart rule cells clusters g
apart_once_back rule cells clusters alone L some order are run back apart =
    apart_forever rule cells clusters L some order are (map_fixed (λ part. after rule part L) clusters (sym run ∙ back)) apart
