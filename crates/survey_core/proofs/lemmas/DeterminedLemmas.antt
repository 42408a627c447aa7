-- A pattern has at most one finding.
use Rattle.std.proofs.Common.{◌≡◌, ◌≢◌, ◌∙◌, ◌↔◌, IsTrue, ap, sym, refl, subst, ℕ, suc, ◌≤◌, Bool, false, List, [], ◌∷◌, All, get_or}
use Rattle.std.proofs.Common.{arith, count_by, Some, unwrap_or, inl, inr, eq-or-lt_of_le, cond}
use Rattle.std.specs.Cmp.{both_ways as both_true, tied_itself}
use Rattle.std.specs.Cmp.Lexicographic.{nat_list_cmp_total, slice_cmp}
use Rattle.std.specs.List.{AllByRecursion, AllZip}
use Rattle.std.specs.List.Sorted.{IsStrictlySortedBy}
use Rattle.std.specs.Map.{keys_of, lookup}
use Rattle.std.specs.Ordering.{is_eq, nat_cmp, ordering_reverse}
use Rattle.std.specs.declared.cmp.Ordering.{Ordering}
use Rattle.std.specs.declared.cmp.Ordering.TheVariants.{Less, Equal, Greater}
use Rattle.std.proofs.lemmas.Bool.{cases_lt}
use Rattle.plane_core.specs.declared.plane.cell.Cell.{Cell}
use Rattle.plane_core.specs.plane.Generations.{after}
use Rattle.plane_core.specs.plane.Rules.{Numbers}
use Rattle.plane_core.proofs.lemmas.clusters.ClusterLaws.{determined_law}
use Rattle.code_core.specs.Names.{IsCode}
use Rattle.code_core.proofs.CodeLaws.{codes_are_determined}
use Rattle.survey_core.specs.declared.finding.Finding.TheVariants.{Settled, Unsettled}
use Rattle.survey_core.specs.FindingLaws.{FindingsAreDetermined}
use Rattle.survey_core.specs.Findings.{IsSettled}
use Rattle.survey_core.specs.shapes.ForGood.{ClustersStayForGood}
use Rattle.survey_core.specs.shapes.Objects.{AreObjects, AreObjectsOf, count_of, is_code}
use Rattle.survey_core.specs.Profiles.{Settling}
use Rattle.survey_core.proofs.lemmas.shapes.ObjectLemmas.{same_code}
use Rattle.survey_core.proofs.lemmas.rest.RestLemmas.{cluster_some}

-- ---- objects

-- a list of nonempty clusters has only one list of codes
one_list_of_codes : (rule : Numbers) (limit : ℕ) (clusters : List (List Cell)) (one other : List (List ℕ)) → All (λ cluster. cluster ≢ []) clusters
    → AllZip (λ cluster code. IsCode rule cluster limit code) clusters one → AllZip (λ cluster code. IsCode rule cluster limit code) clusters other
    → one ≡ other
one_list_of_codes rule limit [] [] [] some h k = refl
one_list_of_codes rule limit [] [] (z ∷ zs) some h k = absurd k
one_list_of_codes rule limit [] (y ∷ ys) other some h k = absurd h
one_list_of_codes rule limit (x ∷ xs) [] other some h k = absurd h
one_list_of_codes rule limit (x ∷ xs) (y ∷ ys) [] some h k = absurd k
one_list_of_codes rule limit (x ∷ xs) (y ∷ ys) (z ∷ zs) some h k =
    let first : y ≡ z = codes_are_determined rule x limit y z (some 0 x (omega arith)) h.0 k.0 in
    let others : ys ≡ zs = one_list_of_codes rule limit xs ys zs (λ i d low. some (suc i) d (omega arith)) h.1 k.1 in
    λ i. first i ∷ others i

abbrev pub code_cmp : List ℕ → List ℕ → Ordering
code_cmp a b = slice_cmp nat_cmp a b

-- the code comes before the code of each object
abbrev pub CodeBefore : List ℕ → List (List ℕ × ℕ) → Type 0
CodeBefore code [] = Unit {0}
CodeBefore code (object ∷ objects) = (code_cmp code object.0 ≡ Less) × CodeBefore code objects

pub before-trans : (a b : List ℕ) (objects : List (List ℕ × ℕ)) → code_cmp a b ≡ Less → CodeBefore b objects → CodeBefore a objects
before-trans a b [] e h = tt
before-trans a b (object ∷ objects) e h = (nat_list_cmp_total.trans a b object.0 e h.0, before-trans a b objects e h.1)

pub in_order-head : (object : List ℕ × ℕ) (objects : List (List ℕ × ℕ)) → IsStrictlySortedBy (slice_cmp nat_cmp) (keys_of (object ∷ objects))
    → CodeBefore object.0 objects
unfolding IsStrictlySortedBy
in_order-head object objects h = go objects h.0
  where
    go : (objects : List (List ℕ × ℕ)) → AllByRecursion (λ code. code_cmp object.0 code ≡ Less) (keys_of objects) → CodeBefore object.0 objects
    go [] h = tt
    go (other ∷ objects) h = (h.0, go objects h.1)

pub in_order-tail : (object : List ℕ × ℕ) (objects : List (List ℕ × ℕ)) → IsStrictlySortedBy (slice_cmp nat_cmp) (keys_of (object ∷ objects))
    → IsStrictlySortedBy (slice_cmp nat_cmp) (keys_of objects)
unfolding IsStrictlySortedBy
in_order-tail object objects h = h.1

-- a code that comes before the code of each object has the count 0
pub count-before : (code : List ℕ) (objects : List (List ℕ × ℕ)) → CodeBefore code objects → count_of objects code ≡ 0
count-before code [] h = refl
count-before code (object ∷ objects) h =
    ap (λ (o : Ordering). unwrap_or (cond (is_eq o) (Some object.1) (lookup (is_code code) objects)) 0) h.0 ∙ count-before code objects h.1

pub count-head : (object : List ℕ × ℕ) (objects : List (List ℕ × ℕ)) → count_of (object ∷ objects) object.0 ≡ object.1
count-head object objects =
    ap (λ (b : Bool). unwrap_or (cond b (Some object.1) (lookup (is_code object.0) objects)) 0) (ap is_eq (tied_itself nat_list_cmp_total object.0))

-- if the list x ∷ xs and the sorted list y ∷ ys have the same count for the code of x, and the count of x is at least
-- 1, the code of x doesn't come before the code of y
not_before : (x y : List ℕ × ℕ) (xs ys : List (List ℕ × ℕ)) → 1 ≤ x.1 → IsStrictlySortedBy (slice_cmp nat_cmp) (keys_of (y ∷ ys))
    → count_of (x ∷ xs) x.0 ≡ count_of (y ∷ ys) x.0 → code_cmp x.0 y.0 ≢ Less
not_before x y xs ys some order same less =
    let none : count_of (y ∷ ys) x.0 ≡ 0 = count-before x.0 (y ∷ ys) (less, before-trans x.0 y.0 ys less (in_order-head y ys order)) in
    let one : x.1 ≡ 0 = sym (count-head x xs) ∙ same ∙ none in
    absurd (omega arith)

-- sorted lists of objects with the same counts, none of which is 0, are equal
one_list : (one other : List (List ℕ × ℕ)) → IsStrictlySortedBy (slice_cmp nat_cmp) (keys_of one) → IsStrictlySortedBy (slice_cmp nat_cmp) (keys_of other)
    → All (λ object. 1 ≤ object.1) one → All (λ object. 1 ≤ object.1) other
    → ((code : List ℕ) → count_of one code ≡ count_of other code) → one ≡ other
one_list [] [] o p h k same = refl
one_list [] (y ∷ ys) o p h k same =
    let some : 1 ≤ y.1 = k 0 y (omega arith) in
    let none : 0 ≡ y.1 = same y.0 ∙ count-head y ys in
    absurd (omega arith)
one_list (x ∷ xs) [] o p h k same =
    let some : 1 ≤ x.1 = h 0 x (omega arith) in
    let none : x.1 ≡ 0 = sym (count-head x xs) ∙ same x.0 in
    absurd (omega arith)
one_list (x ∷ xs) (y ∷ ys) o p h k same = go (code_cmp x.0 y.0) refl (one_list xs ys (in_order-tail x xs o) (in_order-tail y ys p)
    (λ i d low. h (suc i) d (omega arith)) (λ i d low. k (suc i) d (omega arith)))
  where
    past : (code : List ℕ) → is_code code x.0 ≡ false → is_code code y.0 ≡ false → count_of xs code ≡ count_of ys code
    past code one other =
        sym (ap (λ (b : Bool). unwrap_or (cond b (Some x.1) (lookup (is_code code) xs)) 0) one) ∙ same code
        ∙ ap (λ (b : Bool). unwrap_or (cond b (Some y.1) (lookup (is_code code) ys)) 0) other

    tails : (code : List ℕ) (r : Ordering) → code_cmp code x.0 ≡ r → x.0 ≡ y.0 → count_of xs code ≡ count_of ys code
    tails code Equal e first =
        let here : code ≡ x.0 = same_code code x.0 e in
        ap (count_of xs) here ∙ count-before x.0 xs (in_order-head x xs o) ∙ sym (count-before y.0 ys (in_order-head y ys p))
        ∙ sym (ap (count_of ys) (here ∙ first))
    tails code Less e first = past code (ap is_eq e) (ap is_eq (ap (code_cmp code) (sym first) ∙ e))
    tails code Greater e first = past code (ap is_eq e) (ap is_eq (ap (code_cmp code) (sym first) ∙ e))

    go : (r : Ordering) → code_cmp x.0 y.0 ≡ r → (((code : List ℕ) → count_of xs code ≡ count_of ys code) → xs ≡ ys) → x ∷ xs ≡ y ∷ ys
    go Less e ih = absurd (not_before x y xs ys (h 0 x (omega arith)) p (same x.0) e)
    go Greater e ih =
        absurd (not_before y x ys xs (k 0 y (omega arith)) o (sym (same y.0)) (nat_list_cmp_total.antisymm y.0 x.0 ∙ ap ordering_reverse e))
    go Equal e ih =
        let first : x.0 ≡ y.0 = same_code x.0 y.0 e in
        let count : x.1 ≡ y.1 = sym (count-head x xs) ∙ same x.0 ∙ ap (count_of (y ∷ ys)) first ∙ count-head y ys in
        let others : xs ≡ ys = ih (λ code. tails code (code_cmp code x.0) refl first) in
        λ i. (first i, count i) ∷ others i

pub one_list_of_objects : (one other : List (List ℕ × ℕ)) → AreObjects one → AreObjects other → ((code : List ℕ) → count_of one code ≡ count_of other code)
    → one ≡ other
one_list_of_objects one other h k same = one_list one other h.in_order k.in_order h.some k.some same

-- ---- findings

-- a pattern at rest has only one list of objects
same_objects : (rule : Numbers) (profile : Settling) (cells : List Cell) (one other : List (List ℕ × ℕ)) (good fine : Bool)
    → IsSettled rule profile cells one good → IsSettled rule profile cells other fine → one ≡ other
same_objects rule profile cells one other good fine h k =
    let clusters : h.clusters ≡ k.clusters = determined_law cells h.clusters k.clusters h.rest.parts k.rest.parts in
    let counted : AreObjectsOf rule profile.period h.clusters other =
    subst (λ (parts : List (List Cell)). AreObjectsOf rule profile.period parts other) (sym clusters) k.counted in
    let codes : h.counted.codes ≡ counted.codes = one_list_of_codes rule profile.period h.clusters h.counted.codes counted.codes
    (λ i d low. cluster_some cells (get_or h.clusters i d) (h.rest.parts.each i d low)) h.counted.named counted.named in
    one_list_of_objects one other h.counted.lawful counted.lawful
    (λ code. h.counted.counts code ∙ ap (λ (list : List (List ℕ)). count_by (is_code code) list) codes ∙ sym (counted.counts code))

-- the mark that says whether the objects stay for good is unique, too
same_mark : (rule : Numbers) (profile : Settling) (cells : List Cell) (objects : List (List ℕ × ℕ)) (good fine : Bool)
    → IsSettled rule profile cells objects good → IsSettled rule profile cells objects fine → good ≡ fine
same_mark rule profile cells objects good fine h k =
    let clusters : h.clusters ≡ k.clusters = determined_law cells h.clusters k.clusters h.rest.parts k.rest.parts in
    let there : IsTrue good ↔ ClustersStayForGood rule profile.period profile.horizon k.clusters =
    subst (λ (parts : List (List Cell)). IsTrue good ↔ ClustersStayForGood rule profile.period profile.horizon parts) clusters h.good in
    both_true good fine (λ e. k.good.1 (there.0 e)) (λ e. there.1 (k.good.0 e))

settled_alike : (rule : Numbers) (profile : Settling) (cells : List Cell) (t : ℕ) (one other : List (List ℕ × ℕ)) (good fine : Bool)
    → IsSettled rule profile cells one good → IsSettled rule profile cells other fine → Settled t one good ≡ Settled t other fine
settled_alike rule profile cells t one other good fine h k =
    let objects : one ≡ other = same_objects rule profile cells one other good fine h k in
    let there : IsSettled rule profile cells one fine =
    subst (λ (list : List (List ℕ × ℕ)). IsSettled rule profile cells list fine) (sym objects) k in
    let mark : good ≡ fine = same_mark rule profile cells one good fine h there in
    λ i. Settled t (objects i) (mark i)

pub findings_determined : FindingsAreDetermined
findings_determined rule profile cells Unsettled Unsettled h k = refl
findings_determined rule profile cells Unsettled (Settled u other fine) h k = absurd (h u k.0 (k.2.clusters, k.2.rest))
findings_determined rule profile cells (Settled t one good) Unsettled h k = absurd (k t h.0 (h.2.clusters, h.2.rest))
findings_determined rule profile cells (Settled t one good) (Settled u other fine) h k = elim (cases_lt t u) [
  | inl less ↦ absurd (k.1 t h.0 less (h.2.clusters, h.2.rest))
  | inr least ↦ elim (eq-or-lt_of_le least) [
    | inl same ↦
        let there : IsSettled rule profile (after rule cells t) other fine =
        subst (λ (v : ℕ). IsSettled rule profile (after rule cells v) other fine) same k.2 in
        settled_alike rule profile (after rule cells t) t one other good fine h.2 there ∙ ap (λ (v : ℕ). Settled v other fine) (sym same)
    | inr less ↦ absurd (h.1 u k.0 less (k.2.clusters, k.2.rest))
  ]
]
