-- The code of a cluster says whether the cluster recurs in its place, and with which period. So the objects, judged by
-- their codes, stay for good if and only if the clusters themselves do.
use Rattle.std.proofs.Common.{◌≡◌, ◌≢◌, ◌∙◌, ap, sym, refl, subst, ℕ, pos, zero, suc, ◌+◌, ◌≤◌, ◌==◌, ◌&&◌, ◌↔◌, Bool, true, false, cond}
use Rattle.std.proofs.Common.{IsTrue, List, [], ◌∷◌, All, Some, unwrap_or, count_by, arith, get_or}
use Rattle.std.specs.List.{AllZip}
use Rattle.std.specs.Map.{lookup}
use Rattle.std.specs.Ordering.{int_eq, is_eq, nat_cmp}
use Rattle.std.specs.Cmp.Lexicographic.{nat_list_cmp_total, slice_cmp}
use Rattle.std.specs.Cmp.{tied_itself}
use Rattle.std.specs.declared.cmp.Ordering.{Ordering}
use Rattle.std.specs.declared.cmp.Ordering.TheVariants.{Less, Equal, Greater}
use Rattle.std.proofs.lemmas.Bool.{and_parts, eqb-true}
use Rattle.std.proofs.lemmas.Bool.Decides.{Decides-int_eq}
use Rattle.std.proofs.lemmas.List.Sums.{sum_by-append}
use Rattle.plane_core.specs.declared.plane.cell.Cell.{Cell}
use Rattle.plane_core.specs.plane.Rules.{Numbers}
use Rattle.code_core.specs.declared.apgcode.Kind.{Kind}
use Rattle.code_core.specs.declared.apgcode.Kind.TheVariants.{Still, Oscillator, Ship}
use Rattle.code_core.specs.declared.recurrence.Recurrence.{Recurrence}
use Rattle.code_core.specs.Apgcodes.{code_text, kind_in, number_in}
use Rattle.code_core.specs.Names.{IsCode, kind_of, number_of}
use Rattle.code_core.specs.Recurrences.{Recurs}
use Rattle.code_core.proofs.ApgcodeLemmas.{kind_of_name, number_of_name}
use Rattle.survey_core.specs.Findings.{IsSettled}
use Rattle.survey_core.specs.Profiles.{Settling}
use Rattle.survey_core.specs.shapes.Objects.{AreObjectsOf, IsCommonMultiple, IsMultiple, StayForGood, count_of, is_code, period_in, period_of_kind}
use Rattle.survey_core.proofs.lemmas.shapes.ObjectLemmas.{same_code}
use Rattle.survey_core.proofs.lemmas.DeterminedLemmas.{count-head}
use Rattle.survey_core.proofs.lemmas.rest.RestLemmas.{clusters_some}
use Rattle.survey_core.specs.shapes.ForGood.{ClustersStayForGood, IsCommonPeriod, RecursInPlace}
use Rattle.code_core.proofs.CodeLaws.{recurs_once}

-- ---- what a code says about the cluster that has it

pub code_kind : (rule : Numbers) (cells : List Cell) (limit : ℕ) (code : List ℕ) (named : IsCode rule cells limit code)
    → kind_in code ≡ kind_of named.recurrence
code_kind rule cells limit code named =
    ap kind_in named.spelled
    ∙ kind_of_name (kind_of named.recurrence) (number_of (kind_of named.recurrence) cells named.recurrence) named.least

-- the period of a still life is 1
still_period : (r : Recurrence) → kind_of r ≡ Still → r.period ≡ 1
still_period r is = eqb-true r.period 1 (only (int_eq r.dx (pos 0) && int_eq r.dy (pos 0)) (r.period == 1) is)
  where
    only : (stays one : Bool) → cond stays (cond one Still Oscillator) Ship ≡ Still → one ≡ true
    only true true is = refl
    only true false is = cc
    only false one is = cc

-- the code tells the period
pub code_period : (rule : Numbers) (cells : List Cell) (limit : ℕ) (code : List ℕ) → limit ≤ 64 → (named : IsCode rule cells limit code)
    → period_in code ≡ named.recurrence.period
code_period rule cells limit code low named = go (kind_of named.recurrence) refl
  where
    number : number_of (kind_of named.recurrence) cells named.recurrence ≡ named.recurrence.period → number_in code ≡ named.recurrence.period
    number e =
        let within : named.recurrence.period ≤ limit = named.recurs.within in
        ap number_in (named.spelled ∙ ap (λ (m : ℕ). code_text (kind_of named.recurrence) m named.least) e)
        ∙ number_of_name (kind_of named.recurrence) named.recurrence.period named.least (omega arith)

    go : (kind : Kind) → kind_of named.recurrence ≡ kind → period_in code ≡ named.recurrence.period
    go Still is = ap (λ (kind : Kind). period_of_kind kind (number_in code)) (code_kind rule cells limit code named ∙ is)
        ∙ sym (still_period named.recurrence is)
    go Oscillator is = ap (λ (kind : Kind). period_of_kind kind (number_in code)) (code_kind rule cells limit code named ∙ is)
        ∙ number (ap (λ (kind : Kind). number_of kind cells named.recurrence) is)
    go Ship is = ap (λ (kind : Kind). period_of_kind kind (number_in code)) (code_kind rule cells limit code named ∙ is)
        ∙ number (ap (λ (kind : Kind). number_of kind cells named.recurrence) is)

-- an object that isn't a spaceship recurs in its place
pub stays_in_place : (r : Recurrence) → kind_of r ≢ Ship → (r.dx ≡ pos 0) × (r.dy ≡ pos 0)
stays_in_place r stays = go (int_eq r.dx (pos 0) && int_eq r.dy (pos 0)) refl
  where
    go : (b : Bool) → (int_eq r.dx (pos 0) && int_eq r.dy (pos 0)) ≡ b → (r.dx ≡ pos 0) × (r.dy ≡ pos 0)
    go false e = absurd (stays (ap (λ (b : Bool). cond b (cond (r.period == 1) Still Oscillator) Ship) e))
    go true e =
        let parts = and_parts (int_eq r.dx (pos 0)) (int_eq r.dy (pos 0)) e in
        ((Decides-int_eq r.dx (pos 0)).0 parts.0, (Decides-int_eq r.dy (pos 0)).0 parts.1)

-- an object that recurs in its place isn't a spaceship
no_ship : (period : ℕ) → kind_of (record { period = period; dx = pos 0; dy = pos 0 }) ≢ Ship
no_ship period is = go (period == 1) is
  where
    go : (b : Bool) → cond b Still Oscillator ≡ Ship → ⊥
    go true e = cc
    go false e = cc

-- ---- codes among objects and among clusters

-- if the code of each object has a property, each code with a count of at least 1 has this property
pub listed_code : (objects : List (List ℕ × ℕ)) (code : List ℕ) → 1 ≤ count_of objects code → (P : List ℕ → Type 0)
    → All (λ object. P object.0) objects → P code
listed_code [] code some P all = absurd (omega arith)
listed_code (object ∷ objects) code some P all =
    go (slice_cmp nat_cmp code object.0) refl some (λ h. listed_code objects code h P (λ k d low. all (suc k) d (omega arith)))
  where
    go : (o : Ordering) → slice_cmp nat_cmp code object.0 ≡ o → 1 ≤ unwrap_or (cond (is_eq o) (Some object.1) (lookup (is_code code) objects)) 0
        → (1 ≤ unwrap_or (lookup (is_code code) objects) 0 → P code) → P code
    go Equal e h more = subst P (sym (same_code code object.0 e)) (all 0 object (omega arith))
    go Less e h more = more h
    go Greater e h more = more h

-- the code of each object has a count of at least 1
listed_some : (objects : List (List ℕ × ℕ)) → All (λ object. 1 ≤ object.1) objects → All (λ object. 1 ≤ count_of objects object.0) objects
listed_some [] some k d low = absurd (omega arith)
listed_some (object ∷ objects) some zero d low = subst (λ (n : ℕ). 1 ≤ n) (sym (count-head object objects)) (some 0 object (omega arith))
listed_some (object ∷ objects) some (suc k) d low =
    go (is_code (get_or objects k d).0 object.0) (listed_some objects (λ j e less. some (suc j) e (omega arith)) k d (omega arith))
  where
    go : (b : Bool) → 1 ≤ count_of objects (get_or objects k d).0
        → 1 ≤ unwrap_or (cond b (Some object.1) (lookup (is_code (get_or objects k d).0) objects)) 0
    go true h = some 0 object (omega arith)
    go false h = h

count_by-cons : (p : List ℕ → Bool) (y : List ℕ) (ys : List (List ℕ)) → count_by p (y ∷ ys) ≡ (0 + cond (p y) 1 0) + count_by p ys
count_by-cons p y ys = sum_by-append (λ x. cond (p x) 1 0) (y ∷ []) ys

-- if each counted code has a property, each cluster has a code with this property
pub each_listed : (rule : Numbers) (limit : ℕ) (clusters : List (List Cell)) (codes : List (List ℕ))
    → AllZip (λ cluster code. IsCode rule cluster limit code) clusters codes
    → (Q : List ℕ → Type 0) → ((code : List ℕ) → 1 ≤ count_by (is_code code) codes → Q code)
    → All (λ cluster. (code : List ℕ) × IsCode rule cluster limit code × Q code) clusters
each_listed rule limit [] codes all Q h k d low = absurd (omega arith)
each_listed rule limit (x ∷ xs) [] all Q h k d low = absurd all
each_listed rule limit (x ∷ xs) (y ∷ ys) all Q h zero d low =
    let itself : is_code y y ≡ true = ap is_eq (tied_itself nat_list_cmp_total y) in (
      y,
      all.0,
      h y (subst (λ (n : ℕ). 1 ≤ n) (sym (count_by-cons (is_code y) y ys
          ∙ ap (λ (b : Bool). (0 + cond b 1 0) + count_by (is_code y) ys) itself)) (omega arith)),
    )
each_listed rule limit (x ∷ xs) (y ∷ ys) all Q h (suc k) d low =
    each_listed rule limit xs ys all.1 Q (λ code some. h code
    (subst (λ (n : ℕ). 1 ≤ n) (sym (count_by-cons (is_code code) y ys)) (more (is_code code y) (count_by (is_code code) ys) some))) k d (omega arith)
  where
    more : (b : Bool) (n : ℕ) → 1 ≤ n → 1 ≤ (0 + cond b 1 0) + n
    more true n some = omega arith
    more false n some = omega arith

-- each counted code is the code of a cluster, so it has each property that all codes of clusters have
of_a_cluster : (rule : Numbers) (limit : ℕ) (clusters : List (List Cell)) (codes : List (List ℕ))
    → AllZip (λ cluster code. IsCode rule cluster limit code) clusters codes → (code : List ℕ) → 1 ≤ count_by (is_code code) codes
    → (Q : List ℕ → Type 0) → All (λ cluster. (code : List ℕ) → IsCode rule cluster limit code → Q code) clusters → Q code
of_a_cluster rule limit [] [] all code some Q each = absurd (omega arith)
of_a_cluster rule limit [] (y ∷ ys) all code some Q each = absurd all
of_a_cluster rule limit (x ∷ xs) [] all code some Q each = absurd all
of_a_cluster rule limit (x ∷ xs) (y ∷ ys) all code some Q each =
    go (slice_cmp nat_cmp code y) refl (subst (λ (n : ℕ). 1 ≤ n) (count_by-cons (is_code code) y ys) some)
    (λ h. of_a_cluster rule limit xs ys all.1 code h Q (λ k d low. each (suc k) d (omega arith)))
  where
    go : (o : Ordering) → slice_cmp nat_cmp code y ≡ o → 1 ≤ (0 + cond (is_eq o) 1 0) + count_by (is_code code) ys
        → (1 ≤ count_by (is_code code) ys → Q code) → Q code
    go Equal e h more = subst Q (sym (same_code code y e)) (each 0 x (omega arith) y all.0)
    go Less e h more = more (omega (arith, h))
    go Greater e h more = more (omega (arith, h))

module _ (rule : Numbers) (limit : ℕ) (clusters : List (List Cell)) (objects : List (List ℕ × ℕ)) (counted : AreObjectsOf rule limit clusters objects)
  where
    -- if the code of each object has a property, each cluster has a code with this property
    pub of_clusters : (Q : List ℕ → Type 0) → All (λ object. Q object.0) objects
        → All (λ cluster. (code : List ℕ) × IsCode rule cluster limit code × Q code) clusters
    of_clusters Q all = each_listed rule limit clusters counted.codes counted.named Q
        (λ code some. listed_code objects code (subst (λ (n : ℕ). 1 ≤ n) (sym (counted.counts code)) some) Q all)

    -- if all codes of each cluster have a property, the code of each object has it
    pub of_objects : (Q : List ℕ → Type 0) → All (λ cluster. (code : List ℕ) → IsCode rule cluster limit code → Q code) clusters
        → All (λ object. Q object.0) objects
    of_objects Q all k d low = of_a_cluster rule limit clusters counted.codes counted.named (get_or objects k d).0
        (subst (λ (n : ℕ). 1 ≤ n) (counted.counts (get_or objects k d).0) (listed_some objects counted.lawful.some k d low)) Q all

-- ---- what stays for good

module _ (rule : Numbers) (limit : ℕ) (clusters : List (List Cell)) (objects : List (List ℕ × ℕ)) (low : limit ≤ 64)
    (some : All (λ cluster. cluster ≢ []) clusters) (counted : AreObjectsOf rule limit clusters objects)
  where
    -- the code of a cluster that recurs in its place isn't the code of a spaceship, and tells the cluster's period
    told : (cluster : List Cell) (code : List ℕ) (period : ℕ) → cluster ≢ [] → IsCode rule cluster limit code
        → RecursInPlace rule limit cluster period → (kind_in code ≢ Ship) × (period_in code ≡ period)
    told cluster code period full named recurs =
        let same : named.recurrence ≡ record { period = period; dx = pos 0; dy = pos 0 } =
        recurs_once rule cluster limit named.recurrence (record { period = period; dx = pos 0; dy = pos 0 }) full named.recurs recurs in (
          λ ship. no_ship period (sym (ap kind_of same) ∙ sym (code_kind rule cluster limit code named) ∙ ship),
          code_period rule cluster limit code low named ∙ ap (λ (r : Recurrence). r.period) same,
        )

    common_there : (m : ℕ) → IsCommonMultiple objects m → IsCommonPeriod rule limit clusters m
    common_there m common = record {
      some = common.some;
      each = λ k d there period recurs.
          let found = of_clusters rule limit clusters objects counted (λ code. IsMultiple m (period_in code)) common.each k d there in
          subst (IsMultiple m) (told (get_or clusters k d) found.0 period (some k d there) found.1 recurs).1 found.2;
    }

    common_back : All (λ cluster. (period : ℕ) × RecursInPlace rule limit cluster period) clusters → (m : ℕ) → IsCommonPeriod rule limit clusters m
        → IsCommonMultiple objects m
    common_back in_place m common = record {
      some = common.some;
      each = of_objects rule limit clusters objects counted (λ code. IsMultiple m (period_in code)) (λ k d there code named.
          let placed = in_place k d there in
          subst (IsMultiple m) (sym (told (get_or clusters k d) code placed.0 (some k d there) named placed.1).1)
          (common.each k d there placed.0 placed.1));
    }

    placed : All (λ object. kind_in object.0 ≢ Ship) objects → All (λ cluster. (period : ℕ) × RecursInPlace rule limit cluster period) clusters
    placed none k d there =
        let found = of_clusters rule limit clusters objects counted (λ code. kind_in code ≢ Ship) none k d there in
        let r = found.1.recurrence in
        let still = stays_in_place found.1.recurrence
        (λ ship. found.2 (code_kind rule (get_or clusters k d) limit found.0 found.1 ∙ ship)) in (
          found.1.recurrence.period,
          subst (Recurs rule (get_or clusters k d) limit)
              (λ i. record { period = found.1.recurrence.period; dx = still.0 i; dy = still.1 i }) found.1.recurs,
        )

    stay_there : (horizon : ℕ) → StayForGood horizon objects → ClustersStayForGood rule limit horizon clusters
    stay_there horizon good = record {
      in_place = placed good.none;
      multiple = good.multiple;
      common = common_there good.multiple good.least.common;
      least = λ m common. good.least.least m (common_back (placed good.none) m common);
      within = good.within;
    }

    stay_back : (horizon : ℕ) → ClustersStayForGood rule limit horizon clusters → StayForGood horizon objects
    stay_back horizon good = record {
      none = of_objects rule limit clusters objects counted (λ code. kind_in code ≢ Ship) (λ k d there code named.
          let placed = good.in_place k d there in
          (told (get_or clusters k d) code placed.0 (some k d there) named placed.1).0);
      multiple = good.multiple;
      least = record {
        common = common_back good.in_place good.multiple good.common;
        least = λ m common. good.least m (common_there m common);
      };
      within = good.within;
    }

-- the objects of some clusters stay for good if and only if the clusters do
pub marks_match : (rule : Numbers) (limit horizon : ℕ) (clusters : List (List Cell)) (objects : List (List ℕ × ℕ))
    → limit ≤ 64 → All (λ cluster. cluster ≢ []) clusters → AreObjectsOf rule limit clusters objects
    → StayForGood horizon objects ↔ ClustersStayForGood rule limit horizon clusters
marks_match rule limit horizon clusters objects low some counted =
    (stay_there rule limit clusters objects low some counted horizon, stay_back rule limit clusters objects low some counted horizon)

-- for a pattern at rest, `good` is true if and only if its objects, judged by their codes, stay for good
pub settled_mark : (rule : Numbers) (profile : Settling) (cells : List Cell) (objects : List (List ℕ × ℕ)) (good : Bool) → profile.period ≤ 64
    → IsSettled rule profile cells objects good → IsTrue good ↔ StayForGood profile.horizon objects
settled_mark rule profile cells objects good low settled =
    let law = marks_match rule profile.period profile.horizon settled.clusters objects low
    (clusters_some cells settled.clusters settled.rest.parts) settled.counted in
    (λ marked. law.1 (settled.good.0 marked), λ stay. settled.good.1 (law.0 stay))
