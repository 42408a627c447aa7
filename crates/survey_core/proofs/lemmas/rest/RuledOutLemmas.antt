-- A cluster that diverges or never recurs is no part of a pattern at rest.
use Rattle.std.proofs.Common.{◌≡◌, ◌∙◌, ◌⊎◌, ℕ, true, List, Any, sym, subst, inl, inr}
use Rattle.std.specs.Cmp.{both_ways}
use Rattle.std.proofs.lemmas.Bool.{false≢true}
use Rattle.std.proofs.lemmas.List.Folds.{list_any-from_Any}
use Rattle.plane_core.specs.declared.plane.cell.Cell.{Cell}
use Rattle.plane_core.specs.plane.Cells.{has}
use Rattle.plane_core.specs.clusters.Clusters.{AreClusters, IsCluster, Linked}
use Rattle.plane_core.specs.plane.Generations.{NeverRecurs, after}
use Rattle.plane_core.specs.one_sided.RestlessClusters.{HasRestlessCluster, Diverges}
use Rattle.plane_core.specs.plane.Rules.{Numbers}
use Rattle.plane_core.proofs.lemmas.clusters.ClusterLemmas.{linked-sym, linked-trans}
use Rattle.plane_core.proofs.lemmas.plane.SetLemmas.{same_lists}
use Rattle.survey_core.specs.Profiles.{Settling}
use Rattle.survey_core.specs.rest.Rest.{IsAtRest}
use Rattle.survey_core.specs.shapes.RecurringShapes.{RecursWithin}
use Rattle.survey_core.proofs.lemmas.rest.GroupLemmas.{keeps_adds}
use Rattle.survey_core.proofs.lemmas.shapes.MemoLemmas.{never_recurs}

-- each cluster of a pattern is in the pattern's list of clusters
is_one_of : (cells cluster : List Cell) (clusters : List (List Cell)) → AreClusters cells clusters → IsCluster cells cluster
    → Any (λ one. one ≡ cluster) clusters
is_one_of cells cluster clusters are is = go (are.every is.start is.has_start)
  where
    go : Any (λ one. has one is.start ≡ true) clusters → Any (λ one. one ≡ cluster) clusters
    go (k, one, low, at, e) = (k, one, low, at, same)
      where
        other : IsCluster cells one
        other = subst (IsCluster cells) at (are.each k one low)

        way : Linked cells other.start is.start
        way = (other.members is.start).0 e

        same : one ≡ cluster
        same =
            same_lists one cluster other.in_order is.in_order
            (λ x. both_ways (has one x) (has cluster x)
            (λ h. (is.members x).1 (linked-trans cells is.start other.start x (linked-sym cells other.start is.start way) ((other.members x).0 h)))
            (λ h. (other.members x).1 (linked-trans cells other.start is.start x way ((is.members x).0 h))))

-- each cluster of a pattern at rest recurs
rest_recurs : (rule : Numbers) (profile : Settling) (cells cluster : List Cell) → IsAtRest rule profile cells → IsCluster cells cluster
    → RecursWithin rule profile.period cluster
rest_recurs rule profile cells cluster (clusters, rest) is = go (is_one_of cells cluster clusters rest.parts is)
  where
    go : Any (λ one. one ≡ cluster) clusters → RecursWithin rule profile.period cluster
    go (k, one, low, at, same) = subst (RecursWithin rule profile.period) same (subst (RecursWithin rule profile.period) at (rest.back k one low))

-- no cluster of a pattern at rest diverges
rest_holds : (rule : Numbers) (profile : Settling) (cells cluster : List Cell) → IsAtRest rule profile cells → IsCluster cells cluster
    → Diverges rule cells cluster profile.horizon → ⊥
rest_holds rule profile cells cluster (clusters, rest) is strays = go (is_one_of cells cluster clusters rest.parts is)
  where
    g : ℕ
    g = strays.generation

    go : Any (λ one. one ≡ cluster) clusters → ⊥
    go (k, one, low, at, same) =
        let there = subst (λ (part : List Cell). has (after rule part g) strays.cell ≡ true) (sym same) strays.alone in
        let some = list_any-from_Any (λ (part : List Cell). has (after rule part g) strays.cell) clusters (k, one, low, at, there) in
        false≢true (sym strays.missing ∙ keeps_adds rule cells clusters g (rest.apart g strays.early) strays.cell ∙ some)

-- a pattern with a restless cluster isn't at rest
pub ruled_out_moves : (rule : Numbers) (profile : Settling) (cells : List Cell) → HasRestlessCluster rule cells profile.horizon profile.period
    → ¬ IsAtRest rule profile cells
ruled_out_moves rule profile cells refused rest = go refused.why
  where
    go : Diverges rule cells refused.cluster profile.horizon ⊎ NeverRecurs rule refused.cluster profile.period → ⊥
    go (inl strays) = rest_holds rule profile cells refused.cluster rest refused.is strays
    go (inr never) = never_recurs rule profile.period refused.cluster never (rest_recurs rule profile cells refused.cluster rest refused.is)

-- a restless cluster carries over to equal rules, patterns and numbers
pub ruled_out_same : (r q : Numbers) (S T : List Cell) (h k p n : ℕ) → r ≡ q → S ≡ T → h ≡ k → p ≡ n → HasRestlessCluster r S h p → HasRestlessCluster q T k n
ruled_out_same r q S T h k p n a b d e refused =
    subst (λ (v : ℕ). HasRestlessCluster q T k v) e
    (subst (λ (v : ℕ). HasRestlessCluster q T v p) d
    (subst (λ (v : List Cell). HasRestlessCluster q v h p) b (subst (λ (v : Numbers). HasRestlessCluster v S h p) a refused)))
