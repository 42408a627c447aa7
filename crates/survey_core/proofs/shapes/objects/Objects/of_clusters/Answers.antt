use Rattle.std.proofs.Common.{arith, rules, sum, ◌≡◌, ◌≢◌, true, ◌∙◌, ◌+◌, ap, sym, subst, ℕ, List, [], ◌∷◌, ◌++◌, if◌then◌else◌}
use Rattle.std.proofs.lemmas.Result.{IfOk-from_err}
use Rattle.std.proofs.lemmas.List.{take_all}
use Rattle.std.specs.List.{AllZip}
use Rattle.std.specs.Map.{values_of}
use Rattle.code_core.specs.Names.{IsCode}
use Rattle.plane_core.specs.declared.plane.cell.Cell.{Cell}
use Rattle.plane_core.specs.plane.Generations.{lies_within}
use Rattle.survey_core.specs.shapes.Objects.{AreObjects, count_of, is_code}
use Rattle.survey_core.specs.shapes.RecurringShapes.{RecursWithin}
use Rattle.survey_core.specs.UnderWay.{survey_reach}
use Rattle.survey_core.proofs.lemmas.shapes.ObjectLemmas.{codes_more, count_by_more, entries_are_objects, length_more}
use Rattle.survey_core.proofs.shapes.objects.Objects.of_clusters.Goals as goal

pub count_cluster-requires-clause-recurs : goal.count_cluster-requires-clause-recurs
count_cluster-requires-clause-recurs c =
    subst (RecursWithin c.args.rule.now c.args.limit) (sym c.cluster-item.is)
    (c.requires.recurs c.loop-cluster.cluster-index c.cluster-item.result c.loop-cluster-test.true)

pub count_cluster-requires-clause-some : goal.count_cluster-requires-clause-some
count_cluster-requires-clause-some c =
    subst (λ (cluster : List Cell). cluster ≢ []) (sym c.cluster-item.is)
    (c.requires.some c.loop-cluster.cluster-index c.cluster-item.result c.loop-cluster-test.true)

pub count_cluster-requires-clause-near : goal.count_cluster-requires-clause-near
count_cluster-requires-clause-near c =
    subst (λ (cluster : List Cell). lies_within survey_reach cluster ≡ true) (sym c.cluster-item.is)
    (c.requires.near c.loop-cluster.cluster-index c.cluster-item.result c.loop-cluster-test.true)

-- before each iteration, fewer objects have been counted than there are clusters
pub count_cluster-requires-clause-few : goal.count_cluster-requires-clause-few
count_cluster-requires-clause-few c = omega (arith, c.loop-cluster.invariant.5, c.loop-cluster-test.true)

-- an iteration counts one more cluster under its code
pub loop-cluster-preserved : goal.loop-cluster-preserved
loop-cluster-preserved c =
    let codes : List (List ℕ) = c.loop-cluster.invariant.0 in
    let told = c.in_ok-count_cluster.ensures in
    let more = told.more in (
      codes ++ told.code ∷ [],
      codes_more c.args.rule.now c.args.limit c.args.clusters.now c.loop-cluster.cluster-index c.cluster-item.result codes told.code c.loop-cluster-test.true
          c.cluster-item.is c.loop-cluster.invariant.1 told.named,
      length_more codes told.code c.loop-cluster.cluster-index c.loop-cluster.invariant.2,
      (λ code. more.counts code
          ∙ ap (λ n. n + (if is_code code told.code then 1 else 0)) (c.loop-cluster.invariant.3 code)
          ∙ sym (count_by_more (is_code code) codes told.code)),
      more.some c.loop-cluster.invariant.4,
      more.number ∙ ap (λ n. n + 1) c.loop-cluster.invariant.5,
    )

pub returns-in_err-count_cluster-clause-objects : goal.returns-in_err-count_cluster-clause-objects
returns-in_err-count_cluster-clause-objects c = IfOk-from_err _ _ c.from_residual.ensures.0

pub returns-in_err-count_cluster-clause-number : goal.returns-in_err-count_cluster-clause-number
returns-in_err-count_cluster-clause-number c = IfOk-from_err _ _ c.from_residual.ensures.0

-- the list has the entries of the map
same : (c : goal.In_ok-counted) → c.in_ok-counted.counted.items ≡ c.loop-cluster.counts.entries
same c = search rules

lawful : (c : goal.In_ok-counted) → AreObjects c.in_ok-counted.counted.items
lawful c =
    subst AreObjects (sym (same c))
    (entries_are_objects c.loop-cluster.counts c.into_iter.ensures.into_iter_gives.5 c.loop-cluster.invariant.4)

pub invariant_of-result : goal.invariant_of-result
invariant_of-result c = lawful c

pub returns-clause-objects : goal.returns-clause-objects
returns-clause-objects c = record {
  lawful = lawful c;
  codes = c.loop-cluster.invariant.0;
  named = subst (λ (clusters : List (List Cell)). AllZip (λ cluster code. IsCode c.args.rule.now cluster c.args.limit code)
      clusters c.loop-cluster.invariant.0)
      (take_all c.loop-cluster.cluster-index c.args.clusters.now c.loop-cluster-test.false) c.loop-cluster.invariant.1;
  counts = λ code. ap (λ (os : List (List ℕ × ℕ)). count_of os code) (same c) ∙ c.loop-cluster.invariant.3 code;
}

pub returns-clause-number : goal.returns-clause-number
returns-clause-number c = ap (λ (os : List (List ℕ × ℕ)). sum (values_of os)) (same c) ∙ c.loop-cluster.invariant.5 ∙ omega arith
