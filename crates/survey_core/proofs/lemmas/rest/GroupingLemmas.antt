-- Joining the groups of envelopes that may meet.
use Rattle.std.proofs.Common.{◌≡◌, ◌≢◌, ◌==◌, ◌∙◌, ◌<◌, ap, sym, refl, subst, ℕ, Bool, true, false, List, arith, cond, get_or, inl, inr, length, IfNone, IfSome}
use Rattle.std.proofs.Common.{[], ◌∷◌, ◌+◌, AllPairs, eq-or-lt_of_le, get_or-set_other, get_or-set_same, nat_lt, set, ◌≤◌}
use Rattle.std.specs.Bool.{then_some}
use Rattle.std.proofs.lemmas.Bool.{cases_eq, eqb-true, ltb-false, ltb-true}
use Rattle.std.proofs.lemmas.Bool.Decides.{Decides-eqb}
use Rattle.std.proofs.lemmas.List.{get_or_default, length-set}
use Rattle.plane_core.specs.declared.plane.cell.Cell.{Cell}
use Rattle.plane_core.specs.plane.Cells.{InOrder, king_distance}
use Rattle.plane_core.specs.clusters.Clusters.{AreClusters, LieApart}
use Rattle.plane_core.specs.plane.Generations.{after}
use Rattle.plane_core.specs.plane.Rules.{Numbers}
use Rattle.plane_core.proofs.lemmas.clusters.ClusterLaws.{apart_law, partition_law}
use Rattle.plane_core.proofs.lemmas.plane.PartLemmas.{turned}
use Rattle.survey_core.specs.declared.shapes.envelope_bounds.EnvelopeBounds.{EnvelopeBounds}
use Rattle.survey_core.specs.rest.Grouping.{AreGroups, AreNumbers, AreRenamed, Coarser, PairIsRight}
use Rattle.survey_core.specs.rest.Groups.{GroupKeeps, GroupsStayApart, renamed}
use Rattle.survey_core.specs.Profiles.{Settling}
use Rattle.survey_core.specs.rest.Rest.{RestsAs}
use Rattle.survey_core.specs.shapes.Envelopes.{AreEnvelopes, StayApart}
use Rattle.survey_core.proofs.lemmas.rest.GroupLemmas.{group_keeps, whole_keeps}

-- at places of the list, `StayApart` doesn't depend on the default of `get_or`
pub stay_default : (horizon : ℕ) (envelopes : List EnvelopeBounds) (i j : ℕ) (d e f : EnvelopeBounds) → i < length envelopes → j < length envelopes
    → StayApart horizon (get_or envelopes i e) (get_or envelopes j f) → StayApart horizon (get_or envelopes i d) (get_or envelopes j d)
stay_default horizon envelopes i j d e f one other apart =
    subst (λ (s : EnvelopeBounds). StayApart horizon s (get_or envelopes j d)) (get_or_default envelopes i e d one)
    (subst (λ (s : EnvelopeBounds). StayApart horizon (get_or envelopes i e) s) (get_or_default envelopes j f d other) apart)

pub renamed_from : (from to k : ℕ) → k ≡ from → renamed from to k ≡ to
renamed_from from to k is = ap (λ (b : Bool). cond {A = ℕ} b to k) ((Decides-eqb k from).1 is)

renamed_to : (from to k : ℕ) → k ≡ to → renamed from to k ≡ to
renamed_to from to k is = go (k == from)
  where
    go : (b : Bool) → cond {A = ℕ} b to k ≡ to
    go true = refl
    go false = is

renamed_below : (from to k n : ℕ) → to < n → k < n → renamed from to k < n
renamed_below from to k n low there = go (k == from)
  where
    go : (b : Bool) → cond {A = ℕ} b to k < n
    go true = low
    go false = there

le_of_lt_one : (k i : ℕ) → k < i + 1 → k ≤ i
le_of_lt_one k i low = omega arith

below_differs : (k i : ℕ) → k < i → k ≢ i
below_differs k i low = omega arith

above_differs : (k i : ℕ) → i + 1 ≤ k → k ≢ i
above_differs k i low = omega arith

pub renamed_other : (from to k : ℕ) → k ≢ from → k ≡ renamed from to k
renamed_other from to k differs = go (k == from) refl
  where
    go : (b : Bool) → (k == from) ≡ b → k ≡ cond {A = ℕ} b to k
    go true e = absurd (differs (eqb-true _ _ e))
    go false e = refl

-- if the entries before place i are renamed, and entry i is set to its new number, the first i + 1 entries are renamed
pub renamed_more : (from to i : ℕ) (old now : List ℕ) (number : ℕ) → i < length now → number ≡ renamed from to (get_or now i 0)
    → ((k : ℕ) → k < i → get_or now k 0 ≡ renamed from to (get_or old k 0)) → ((k : ℕ) → i ≤ k → get_or now k 0 ≡ get_or old k 0)
    → (k : ℕ) → k < i + 1 → get_or (set now i number) k 0 ≡ renamed from to (get_or old k 0)
renamed_more from to i old now number there is done left k low = elim (eq-or-lt_of_le (le_of_lt_one k i low)) [
  | inl same ↦ ap (λ (j : ℕ). get_or (set now i number) j 0) same ∙ get_or-set_same now i number 0 there ∙ is
      ∙ ap (renamed from to) (left i (omega arith) ∙ ap (λ (j : ℕ). get_or old j 0) (sym same))
  | inr before ↦ get_or-set_other now i k number 0 (below_differs k i before) ∙ done k before
]

pub left_after : (i : ℕ) (old now : List ℕ) (number : ℕ) → ((k : ℕ) → i ≤ k → get_or now k 0 ≡ get_or old k 0)
    → (k : ℕ) → i + 1 ≤ k → get_or (set now i number) k 0 ≡ get_or old k 0
left_after i old now number left k low = get_or-set_other now i k number 0 (above_differs k i low) ∙ left k (omega (arith, low))

pub renamed_numbers : (envelopes : List EnvelopeBounds) (groups later : List ℕ) (from to : ℕ) → AreRenamed from to groups later → length later ≡ length groups
    → to < length envelopes → AreNumbers envelopes groups → AreNumbers envelopes later
renamed_numbers envelopes groups later from to made long low are = record {
  count = long ∙ are.count;
  below = λ i d there.
      let old : i < length groups = subst (λ (n : ℕ). i < n) long there in
      subst (λ (k : ℕ). k < length envelopes) (sym (made i old) ∙ get_or_default later i 0 d there)
      (renamed_below from to (get_or groups i 0) (length envelopes) low (are.below i 0 old));
}

pub renamed_coarser : (groups later : List ℕ) (from to : ℕ) → AreRenamed from to groups later → Coarser groups later
renamed_coarser groups later from to made a b low there ne = λ same.
    ne (made a low ∙ ap (renamed from to) same ∙ sym (made b there))

-- after group `from` is renamed to `to`, the places i and j, which were in these two groups, are in the same group
pub renamed_pair : (groups later : List ℕ) (from to i j : ℕ) → AreRenamed from to groups later → i < length groups → j < length groups
    → get_or groups i 0 ≡ from → get_or groups j 0 ≡ to → get_or later i 0 ≡ get_or later j 0
renamed_pair groups later from to i j made low there one other =
    made i low ∙ renamed_from from to (get_or groups i 0) one ∙ sym (made j there ∙ renamed_to from to (get_or groups j 0) other)

-- if `PairIsRight` holds for all pairs of places before `place`, and for `place` and each earlier place, it holds for
-- all pairs of places up to `place`
pub pairs_more : (horizon : ℕ) (envelopes : List EnvelopeBounds) (old new : List ℕ) (place : ℕ) → place < length envelopes → length old ≡ length envelopes
    → Coarser old new → ((i j : ℕ) → j < i → i < place → PairIsRight horizon envelopes old i j)
    → ((j : ℕ) → j < place → PairIsRight horizon envelopes new place j) → (i j : ℕ) → j < i → i < place + 1 → PairIsRight horizon envelopes new i j
pairs_more horizon envelopes old new place there count coarser before here i j lt low = elim (eq-or-lt_of_le (le_of_lt_one i place low)) [
  | inl is ↦ subst (λ (k : ℕ). PairIsRight horizon envelopes new k j) (sym is) (here j (subst (λ (k : ℕ). j < k) is lt))
  | inr less ↦ λ d ne. before i j lt less d (coarser i j (in_old i less) (in_old j (omega (arith, lt, less))) ne)
]
  where
    in_old : (k : ℕ) → k < place → k < length old
    in_old k less = subst (λ (n : ℕ). k < n) (sym count) (omega (arith, less, there))

-- `AreNumbers` still holds after an envelope gets a group of its own, whose number is the envelope's place
pub numbered : (envelopes : List EnvelopeBounds) (groups : List ℕ) (place : ℕ) → place < length envelopes → AreNumbers envelopes groups
    → AreNumbers envelopes (set groups place place)
numbered envelopes groups place there are = record {
  count = length-set groups place place ∙ are.count;
  below = λ i d low. elim (cases_eq i place) [
    | inl same ↦ subst (λ (k : ℕ). k < length envelopes)
        (sym (ap (λ (k : ℕ). get_or (set groups place place) k d) same
        ∙ get_or-set_same groups place place d (subst (λ (n : ℕ). place < n) (sym are.count) there))) there
    | inr other ↦ subst (λ (k : ℕ). k < length envelopes) (sym (get_or-set_other groups place i place d other))
        (are.below i d (subst (λ (n : ℕ). i < n) (length-set groups place place) low))
  ];
}

-- giving the envelope at `place` a group of its own keeps `PairIsRight` true for all pairs of places before `place`
pub numbered_pairs : (horizon : ℕ) (envelopes : List EnvelopeBounds) (groups : List ℕ) (place : ℕ)
    → ((i j : ℕ) → j < i → i < place → PairIsRight horizon envelopes groups i j)
    → (i j : ℕ) → j < i → i < place → PairIsRight horizon envelopes (set groups place place) i j
numbered_pairs horizon envelopes groups place before i j lt low d ne =
    before i j lt low d (λ same. ne (get_or-set_other groups place i place 0 (below_differs i place low) ∙ same
    ∙ sym (get_or-set_other groups place j place 0 (below_differs j place (omega (arith, lt, low))))))

-- if `PairIsRight` holds for `place` and each place before `other`, and for `place` and `other`, it holds for `place`
-- and each place up to `other`
pub places_more : (horizon : ℕ) (envelopes : List EnvelopeBounds) (old new : List ℕ) (place other : ℕ) → place < length envelopes → length old ≡ length envelopes
    → other < place → Coarser old new → ((j : ℕ) → j < other → PairIsRight horizon envelopes old place j) → PairIsRight horizon envelopes new place other
    → (j : ℕ) → j < other + 1 → PairIsRight horizon envelopes new place j
places_more horizon envelopes old new place other there count before coarser each here j low = elim (eq-or-lt_of_le (le_of_lt_one j other low)) [
  | inl is ↦ subst (λ (k : ℕ). PairIsRight horizon envelopes new place k) (sym is) here
  | inr less ↦ λ d ne. each j less d (coarser place j (subst (λ (n : ℕ). place < n) (sym count) there)
      (subst (λ (n : ℕ). j < n) (sym count) (omega (arith, less, before, there))) ne)
]

-- the first element of a nonempty list
pub first_of : (envelopes : List EnvelopeBounds) (i : ℕ) → i < length envelopes → EnvelopeBounds
first_of [] i low = absurd (omega arith)
first_of (s ∷ ss) i low = s

-- parts whose envelopes are in different groups stay apart, whichever of the two parts comes first in the list
pub groups_stay_apart : (rule : Numbers) (limit horizon : ℕ) (parts : List (List Cell)) (envelopes : List EnvelopeBounds) (groups : List ℕ)
    → AllPairs LieApart parts → AreEnvelopes rule limit parts envelopes → AreGroups horizon envelopes groups → GroupsStayApart rule groups parts horizon
groups_stay_apart rule limit horizon parts envelopes groups apart are right i j d g one other ne low = go (nat_lt i j) refl
  where
    in_envelopes : (k : ℕ) → k < length parts → k < length envelopes
    in_envelopes k there = subst (λ (n : ℕ). k < n) (sym are.count) there

    any : EnvelopeBounds
    any = get_or envelopes i (first_of envelopes i (in_envelopes i one))

    begun : (a b : ℕ) → b < a → a < length parts → b < length parts → LieApart (get_or parts a d) (get_or parts b d)
    begun a b lt low_a low_b c f h k =
        let far : 3 ≤ king_distance f c = apart b a d lt low_a f c k h in
        let same : king_distance f c ≡ king_distance c f = turned f c in
        omega arith

    later_first : (a b : ℕ) → b < a → a < length parts → b < length parts → get_or groups a 0 ≢ get_or groups b 0
        → LieApart (after rule (get_or parts a d) g) (after rule (get_or parts b d) g)
    later_first a b lt low_a low_b differ =
        right.apart a b lt (in_envelopes a low_a) any differ rule limit (get_or parts a d) (get_or parts b d) (are.each a d any low_a)
        (are.each b d any low_b) (begun a b lt low_a low_b) g low

    go : (b : Bool) → nat_lt i j ≡ b → LieApart (after rule (get_or parts i d) g) (after rule (get_or parts j d) g)
    go true e = λ c f h k.
        let far : 3 ≤ king_distance f c = later_first j i (ltb-true i j e) other one (λ is. ne (sym is)) f c k h in
        let same : king_distance f c ≡ king_distance c f = turned f c in
        omega arith
    go false e = later_first i j (before (ltb-false i j e)) one other ne
      where
        before : j ≤ i → j < i
        before le = elim (eq-or-lt_of_le le) [ inl same ↦ absurd (ne (ap (λ (n : ℕ). get_or groups n 0) (sym same))) | inr lt ↦ lt ]

-- ---- the test of rest by groups

pub rest_by_groups : (rule : Numbers) (profile : Settling) (cells : List Cell) (clusters : List (List Cell)) (envelopes : List EnvelopeBounds) (groups : List ℕ)
    → InOrder cells → AreClusters cells clusters → AreEnvelopes rule profile.period clusters envelopes → AreGroups profile.horizon envelopes groups
    → ((k : ℕ) → k < length clusters → GroupKeeps rule groups clusters profile.horizon k) → RestsAs rule profile cells clusters
rest_by_groups rule profile cells clusters envelopes groups order are found right each = record {
  parts = are;
  back = λ k d low.
      let there : k < length envelopes = subst (λ (n : ℕ). k < n) (sym found.count) low in
      let is = found.each k d (first_of envelopes k there) low in
      ((get_or envelopes k (first_of envelopes k there)).recurrence, is.recurs);
  apart = whole_keeps rule cells groups clusters profile.horizon order (right.numbers.count ∙ found.count)
      (groups_stay_apart rule profile.period profile.horizon clusters envelopes groups (apart_law cells clusters are) found right) (partition_law cells clusters are)
      (λ i there. each (get_or groups i 0) (subst (λ (n : ℕ). get_or groups i 0 < n) found.count
      (right.numbers.below i 0 (subst (λ (n : ℕ). i < n) (sym (right.numbers.count ∙ found.count)) there))));
}

pub groups_of_rest : (rule : Numbers) (profile : Settling) (cells : List Cell) (clusters : List (List Cell)) (envelopes : List EnvelopeBounds) (groups : List ℕ)
    → InOrder cells → AreEnvelopes rule profile.period clusters envelopes → AreGroups profile.horizon envelopes groups
    → RestsAs rule profile cells clusters → (k : ℕ) → GroupKeeps rule groups clusters profile.horizon k
groups_of_rest rule profile cells clusters envelopes groups order found right rest k =
    group_keeps rule cells groups clusters profile.horizon order (right.numbers.count ∙ found.count)
    (groups_stay_apart rule profile.period profile.horizon clusters envelopes groups (apart_law cells clusters rest.parts) found right) (partition_law cells clusters rest.parts) rest.apart k

-- the value of `then_some` has a property that follows from the test
pub some_if : {X : Type 0} (b : Bool) (x : X) (P : X → Type 0) → (b ≡ true → P x) → IfSome (then_some b x) P
some_if true x P given = given refl
some_if false x P given = tt

pub none_if : {X : Type 0} (b : Bool) (x : X) (P : Type 0) → (b ≡ false → P) → IfNone (then_some b x) P
none_if true x P given = tt
none_if false x P given = given refl
