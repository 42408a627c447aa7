-- Clusters that are run alone, and clusters that are the same as at the start.
use Rattle.std.proofs.Common.{◌≡◌, ◌∙◌, ◌+◌, ◌<◌, ◌≤◌, ◌++◌, ap, sym, refl, subst, ℕ, List, [], ◌∷◌, All, append_assoc, arith, drop, get_or, length, map, set}
use Rattle.std.proofs.Common.{take, true}
use Rattle.std.proofs.lemmas.List.Elements.{All-map}
use Rattle.std.proofs.lemmas.List.{append-nil, map-append, drop_all, drop_more, get_or-map, get_or_at, length-map, length-take-le, map_more, set_at, take_all}
use Rattle.plane_core.specs.declared.plane.cell.Cell.{Cell}
use Rattle.plane_core.specs.plane.Generations.{after, lies_within, next}
use Rattle.plane_core.specs.plane.Rules.{Numbers}
use Rattle.plane_core.proofs.lemmas.plane.GenerationLemmas.{after-more}
use Rattle.survey_core.specs.declared.rest.alone.Alone.{Alone}
use Rattle.survey_core.specs.rest.Alone.{alone_at, clusters_of, latest_of, stepped}
use Rattle.survey_core.specs.rest.Groups.{members}
use Rattle.survey_core.specs.UnderWay.{survey_reach}
use Rattle.survey_core.proofs.lemmas.rest.GroupLemmas.{members_one}
use Rattle.survey_core.proofs.lemmas.PlaneLemmas.{within_later}

-- if the lists `latest_of` and `clusters_of` are equal, each cluster is the same as at the start
pub back_at : (list : List Alone) (i : ℕ) (alone : Alone) → i < length list → alone ≡ get_or list i alone → latest_of list ≡ clusters_of list
    → alone.latest ≡ alone.cluster
back_at list i alone low is same =
    ap (λ (a : Alone). a.latest) is ∙ sym (get_or-map (λ (a : Alone). a.latest) list i alone [] low)
    ∙ ap (λ (all : List (List Cell)). get_or all i []) same
    ∙ get_or-map (λ (a : Alone). a.cluster) list i alone [] low ∙ ap (λ (a : Alone). a.cluster) (sym is)

-- if the first i clusters and cluster i are the same as at the start, the first i + 1 clusters are
pub back_more : (list : List Alone) (i : ℕ) (alone : Alone) → i < length list → alone ≡ get_or list i alone
    → latest_of (take i list) ≡ clusters_of (take i list) → alone.latest ≡ alone.cluster
    → latest_of (take (i + 1) list) ≡ clusters_of (take (i + 1) list)
back_more list i alone low is before same =
    map_more (λ (a : Alone). a.latest) list i alone low
    ∙ (λ j. before j ++ (ap (λ (a : Alone). a.latest) (sym is) ∙ same ∙ ap (λ (a : Alone). a.cluster) is) j ∷ [])
    ∙ sym (map_more (λ (a : Alone). a.cluster) list i alone low)

-- for clusters that are run alone for g generations, `clusters_of` gives the clusters, and `latest_of` gives the
-- clusters g generations later
pub clusters_alone : (rule : Numbers) (g : ℕ) (clusters : List (List Cell)) → clusters_of (map (alone_at rule g) clusters) ≡ clusters
clusters_alone rule g [] = refl
clusters_alone rule g (cluster ∷ clusters) = ap (λ (more : List (List Cell)). cluster ∷ more) (clusters_alone rule g clusters)

latest_alone : (rule : Numbers) (g : ℕ) (clusters : List (List Cell))
    → latest_of (map (alone_at rule g) clusters) ≡ map (λ part. after rule part g) clusters
latest_alone rule g [] = refl
latest_alone rule g (cluster ∷ clusters) = ap (λ (more : List (List Cell)). after rule cluster g ∷ more) (latest_alone rule g clusters)

stepped_alone : (rule : Numbers) (g : ℕ) (clusters : List (List Cell))
    → map (stepped rule) (map (alone_at rule g) clusters) ≡ map (alone_at rule (g + 1)) clusters
stepped_alone rule g [] = refl
stepped_alone rule g (cluster ∷ clusters) = λ i.
    record { cluster = cluster; first = next rule cluster; latest = sym (after-more rule cluster g) i } ∷ stepped_alone rule g clusters i

pub latest_is : (rule : Numbers) (g : ℕ) (clusters : List (List Cell)) (list : List Alone) → list ≡ map (alone_at rule g) clusters
    → latest_of list ≡ map (λ part. after rule part g) clusters
latest_is rule g clusters list is = ap latest_of is ∙ latest_alone rule g clusters

pub clusters_are : (rule : Numbers) (g : ℕ) (clusters : List (List Cell)) (list : List Alone) → list ≡ map (alone_at rule g) clusters
    → clusters_of list ≡ clusters
clusters_are rule g clusters list is = ap clusters_of is ∙ clusters_alone rule g clusters

-- stepping clusters that are run alone for g generations gives the clusters run alone for g + 1 generations
pub later_is : (rule : Numbers) (g : ℕ) (clusters : List (List Cell)) (list later : List Alone) → list ≡ map (alone_at rule g) clusters
    → later ≡ map (stepped rule) list → later ≡ map (alone_at rule (g + 1)) clusters
later_is rule g clusters list later is stepped_is = stepped_is ∙ ap (map (stepped rule)) is ∙ stepped_alone rule g clusters

-- `first` is the generation after the start, and if the clusters start near the origin, `latest` lies far from the edge
-- of the plane for up to 4096 generations
pub first_known : (rule : Numbers) (g : ℕ) (clusters : List (List Cell)) (list : List Alone) → list ≡ map (alone_at rule g) clusters
    → All (λ (a : Alone). a.first ≡ next rule a.cluster) list
first_known rule g clusters list is =
    subst (All (λ (a : Alone). a.first ≡ next rule a.cluster)) (sym is)
    (All-map (λ (a : Alone). a.first ≡ next rule a.cluster) (alone_at rule g) clusters (λ k d low. refl))

pub latest_near : (rule : Numbers) (g : ℕ) (clusters : List (List Cell)) (list : List Alone) → list ≡ map (alone_at rule g) clusters → g ≤ 4096
    → All (λ part. lies_within survey_reach part ≡ true) clusters → All (λ (a : Alone). lies_within 999999 a.latest ≡ true) list
latest_near rule g clusters list is low near =
    subst (All (λ (a : Alone). lies_within 999999 a.latest ≡ true)) (sym is)
    (All-map (λ (a : Alone). lies_within 999999 a.latest ≡ true) (alone_at rule g) clusters
    (λ k d there. within_later survey_reach 999999 rule (get_or clusters k d) g (omega arith) (near k d there)))

-- The list has the parts of group k among the first i parts, each as a cluster that is run for 0 generations. If part i
-- is in group k, adding part i to the list gives the list for the first i + 1 parts.
pub start_more : (rule : Numbers) (k : ℕ) (gs : List ℕ) (parts : List (List Cell)) (i : ℕ) (d : List Cell) (list : List Alone) (alone : Alone)
    → i < length parts → length gs ≡ length parts → get_or gs i 0 ≡ k → list ≡ map (alone_at rule 0) (members k (take i gs) (take i parts))
    → alone ≡ alone_at rule 0 (get_or parts i d) → list ++ alone ∷ [] ≡ map (alone_at rule 0) (members k (take (i + 1) gs) (take (i + 1) parts))
start_more rule k gs parts i d list alone low same number are is =
    (λ j. are j ++ is j ∷ [])
    ∙ sym (ap (map (alone_at rule 0)) (members_one k gs parts i d low same number)
    ∙ map-append (alone_at rule 0) (members k (take i gs) (take i parts)) (get_or parts i d ∷ []))

prefix : (rule : Numbers) (list : List Alone) (i : ℕ) → i < length list → length (map (stepped rule) (take i list)) ≡ i
prefix rule list i low = length-map _ _ ∙ length-take-le i list (omega arith)

-- while the clusters are stepped one after another, cluster i is unchanged until it is stepped
pub as_it_was : (rule : Numbers) (list now : List Alone) (i : ℕ) (d : Alone) → i < length list → now ≡ map (stepped rule) (take i list) ++ drop i list
    → get_or now i d ≡ get_or list i d
as_it_was rule list now i d low is =
    ap (λ (all : List Alone). get_or all i d) (is ∙ ap (λ (more : List Alone). map (stepped rule) (take i list) ++ more) (drop_more list i d low))
    ∙ get_or_at (map (stepped rule) (take i list)) (get_or list i d) (drop (i + 1) list) d i (prefix rule list i low)

pub step_more : (rule : Numbers) (list now : List Alone) (i : ℕ) (d : Alone) (latest : List Cell) → i < length list
    → now ≡ map (stepped rule) (take i list) ++ drop i list → latest ≡ next rule (get_or now i d).latest
    → set now i (record { cluster = (get_or now i d).cluster; first = (get_or now i d).first; latest = latest })
    ≡ map (stepped rule) (take (i + 1) list) ++ drop (i + 1) list
step_more rule list now i d latest low is later =
    let here : get_or now i d ≡ get_or list i d = as_it_was rule list now i d low is in
    let one : record { cluster = (get_or now i d).cluster; first = (get_or now i d).first; latest = latest } ≡ stepped rule (get_or list i d) =
    (λ j. record { cluster = (here j).cluster; first = (here j).first; latest = (later ∙ ap (λ (a : Alone). next rule a.latest) here) j }) in
    (λ j. set (is j) i (one j))
    ∙ ap (λ (more : List Alone). set (map (stepped rule) (take i list) ++ more) i (stepped rule (get_or list i d))) (drop_more list i d low)
    ∙ set_at (map (stepped rule) (take i list)) (get_or list i d) (drop (i + 1) list) (stepped rule (get_or list i d)) i (prefix rule list i low)
    ∙ sym (append_assoc (map (stepped rule) (take i list)) (stepped rule (get_or list i d) ∷ []) (drop (i + 1) list))
    ∙ ap (λ (all : List Alone). all ++ drop (i + 1) list) (sym (map_more (stepped rule) list i d low))

-- after the loop of `step_each`, all clusters are stepped
pub all_stepped : (rule : Numbers) (list now : List Alone) (i : ℕ) → length list ≤ i → now ≡ map (stepped rule) (take i list) ++ drop i list
    → now ≡ map (stepped rule) list
all_stepped rule list now i end is =
    is ∙ (λ j. map (stepped rule) (take_all i list end j) ++ drop_all i list end j) ∙ append-nil (map (stepped rule) list)
