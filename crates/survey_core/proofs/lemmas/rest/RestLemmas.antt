-- Lemmas for the test whether a pattern is at rest: on its clusters, on clusters run alone, and on groups of clusters.
use Rattle.std.proofs.Common.{◌≡◌, ◌≢◌, ◌∙◌, ap, sym, refl, subst, ℕ, ◌+◌, ◌≤◌, true, List, [], ◌∷◌, All, map, flat_map}
use Rattle.std.proofs.Common.{arith, get_or, eq-or-lt_of_le, inl, inr}
use Rattle.std.proofs.lemmas.Bool.{false≢true}
use Rattle.std.proofs.lemmas.List.Elements.{All-map}
use Rattle.plane_core.specs.declared.plane.cell.Cell.{Cell}
use Rattle.plane_core.specs.plane.Cells.{InOrder, has, is_within}
use Rattle.plane_core.specs.clusters.Clusters.{AreClusters, IsCluster, Partition}
use Rattle.plane_core.specs.plane.Generations.{after, lies_within}
use Rattle.plane_core.specs.plane.Rules.{Numbers}
use Rattle.plane_core.proofs.lemmas.clusters.ClusterLemmas.{linked-has, linked-itself}
use Rattle.plane_core.proofs.lemmas.clusters.ClusterLaws.{determined_law, partition_law}
use Rattle.plane_core.proofs.lemmas.plane.GenerationLemmas.{after-none}
use Rattle.plane_core.proofs.lemmas.plane.SearchLemmas.{has-list_all, list_all-has}
use Rattle.code_core.proofs.MovedCodes.{in_order-after}
use Rattle.plane_core.proofs.lemmas.plane.SetLemmas.{has-set_of}
use Rattle.survey_core.specs.UnderWay.{survey_reach}
use Rattle.survey_core.proofs.lemmas.PlaneLemmas.{within_all, within_later}
use Rattle.survey_core.specs.rest.Groups.{ShareNoCell, union_of}
use Rattle.survey_core.specs.Profiles.{Settling}
use Rattle.survey_core.specs.rest.Rest.{IsAtRest, KeepApart, RestsAs}

-- a cluster has a cell
pub cluster_some : (cells cluster : List Cell) → IsCluster cells cluster → cluster ≢ []
cluster_some cells cluster is none =
    false≢true (ap (λ (c : List Cell). has c is.start) (sym none) ∙ (is.members is.start).1 (linked-itself cells is.start is.has_start))

-- if a pattern lies within a reach, each of its clusters does, too
pub cluster_within : (reach : ℕ) (cells cluster : List Cell) → lies_within reach cells ≡ true → IsCluster cells cluster → lies_within reach cluster ≡ true
cluster_within reach cells cluster within is =
    has-list_all _ cluster (λ c e. list_all-has _ cells within c (linked-has cells is.start c ((is.members c).0 e)))

pub alone_at_once : (rule : Numbers) (clusters : List (List Cell)) → map (λ part. after rule part 0) clusters ≡ clusters
alone_at_once rule [] = refl
alone_at_once rule (part ∷ parts) = λ i. after-none rule part i ∷ alone_at_once rule parts i

-- the parts of a partition keep apart in generation 0
pub apart_at_once : (rule : Numbers) (cells : List Cell) (clusters : List (List Cell)) → Partition cells clusters → KeepApart rule cells clusters 0
apart_at_once rule cells clusters are =
    subst (λ (parts : List (List Cell)). Partition (after rule cells 0) parts) (sym (alone_at_once rule clusters))
    (subst (λ (whole : List Cell). Partition whole clusters) (sym (after-none rule cells)) are)

-- ---- clusters run alone

-- each generation of each cluster is in order
pub alone_in_order : (rule : Numbers) (clusters : List (List Cell)) (g : ℕ) → All InOrder clusters
    → All InOrder (map (λ part. after rule part g) clusters)
alone_in_order rule clusters g order =
    All-map InOrder (λ part. after rule part g) clusters (λ k d low. in_order-after rule (get_or clusters k d) g (order k d low))

-- clusters near the origin don't reach the edge of the plane in up to 4096 generations
pub alone_near : (rule : Numbers) (clusters : List (List Cell)) (g : ℕ) → All (λ part. lies_within survey_reach part ≡ true) clusters → g ≤ 4096
    → All (λ part. lies_within 999999 part ≡ true) (map (λ part. after rule part g) clusters)
alone_near rule clusters g near low =
    All-map (λ part. lies_within 999999 part ≡ true) (λ part. after rule part g) clusters
    (λ k d there. within_later survey_reach 999999 rule (get_or clusters k d) g (omega arith) (near k d there))

-- if clusters keep apart up to generation g, and partition the whole in generation g + 1, they keep apart up to
-- generation g + 1
pub apart_more : (rule : Numbers) (cells : List Cell) (clusters : List (List Cell)) (g : ℕ) (whole : List Cell) (alone : List (List Cell))
    → whole ≡ after rule cells (g + 1) → alone ≡ map (λ part. after rule part (g + 1)) clusters
    → ((k : ℕ) → k ≤ g → KeepApart rule cells clusters k) → Partition whole alone → (k : ℕ) → k ≤ g + 1 → KeepApart rule cells clusters k
apart_more rule cells clusters g whole alone is_whole is_alone before now k low = elim (eq-or-lt_of_le low) [
  | inl e ↦ subst (λ (h : ℕ). KeepApart rule cells clusters h) (sym e)
      (subst (λ (parts : List (List Cell)). Partition (after rule cells (g + 1)) parts) is_alone (subst (λ (w : List Cell). Partition w alone) is_whole now))
  | inr less ↦ before k (omega arith)
]

-- a pattern has only one list of clusters, so if the pattern is at rest, `RestsAs` holds for this list
pub same_clusters : (rule : Numbers) (profile : Settling) (cells : List Cell) (clusters : List (List Cell)) → AreClusters cells clusters
    → IsAtRest rule profile cells → RestsAs rule profile cells clusters
same_clusters rule profile cells clusters are (others, rest) =
    subst (λ (c : List (List Cell)). RestsAs rule profile cells c) (determined_law cells others clusters rest.parts are) rest

-- ---- groups of clusters

pub union_near : (reach : ℕ) (parts : List (List Cell)) → All (λ part. lies_within reach part ≡ true) parts → lies_within reach (union_of parts) ≡ true
union_near reach parts near =
    has-list_all (is_within reach) (union_of parts)
    (λ c e. list_all-has (is_within reach) (flat_map (λ part. part) parts) (within_all reach parts near) c (sym (has-set_of (flat_map (λ part. part) parts) c) ∙ e))

pub clusters_near : (reach : ℕ) (cells : List Cell) (clusters : List (List Cell)) → AreClusters cells clusters → lies_within reach cells ≡ true
    → All (λ part. lies_within reach part ≡ true) clusters
clusters_near reach cells clusters are near k d low = cluster_within reach cells (get_or clusters k d) near (are.each k d low)

pub clusters_some : (cells : List Cell) (clusters : List (List Cell)) → AreClusters cells clusters → All (λ (part : List Cell). part ≢ []) clusters
clusters_some cells clusters are k d low = cluster_some cells (get_or clusters k d) (are.each k d low)

pub clusters_off : (cells : List Cell) (clusters : List (List Cell)) → AreClusters cells clusters → ShareNoCell clusters
clusters_off cells clusters are = (partition_law cells clusters are).disjoint
