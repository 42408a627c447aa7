use Rattle.std.proofs.Common.{◌≡◌, ◌==◌, ◌∙◌, ◌≤◌, ◌++◌, [], ℕ, ap, arith, flat_map, get_or, length, sym, take, List}
use Rattle.std.proofs.lemmas.Bool.{eqb-true, false≢true}
use Rattle.std.proofs.lemmas.Bool.Decides.{Decides-eqb}
use Rattle.std.proofs.lemmas.List.{flat_map_more, map_more, take_all}
use Rattle.plane_core.specs.declared.plane.cell.Cell.{Cell}
use Rattle.plane_core.specs.plane.Cells.{InOrder, set_of}
use Rattle.plane_core.specs.clusters.Clusters.{Partition}
use Rattle.plane_core.specs.plane.Generations.{lies_within}
use Rattle.survey_core.specs.declared.rest.alone.Alone.{Alone}
use Rattle.survey_core.specs.rest.Alone.{latest_of}
use Rattle.survey_core.specs.rest.Groups.{union_of}
use Rattle.survey_core.proofs.lemmas.rest.GroupingLemmas.{none_if, some_if}
use Rattle.survey_core.proofs.lemmas.PartitionLemmas.{joined, length-partition, partition_from, set_of-joined}
use Rattle.survey_core.proofs.lemmas.PlaneLemmas.{within_all}
use Rattle.survey_core.proofs.rest.alone.joined.Goals as goal

pub loop-alone-preserved : goal.loop-alone-preserved
loop-alone-preserved c =
    let n = c.loop-alone.alone-index in
    let clusters = c.args.clusters.now in
    let item = c.alone-item.result in
    c.in_ok-extend_from_slice.ensures.items
    ∙ (λ i. c.loop-alone.invariant i ++ (c.cells.ensures.cells ∙ ap (λ (alone : Alone). alone.latest) c.alone-item.is) i)
    ∙ flat_map_more (λ (cells : List Cell). cells) [] (latest_of (take n clusters)) (get_or clusters n item).latest
    ∙ ap (flat_map (λ (cells : List Cell). cells)) (sym (map_more (λ (alone : Alone). alone.latest) clusters n item c.loop-alone-test.true))

-- after the loop, the gathered cells are the cells of all clusters
gathered : (clusters : List Alone) (k : ℕ) (cells : List Cell) → cells ≡ joined (latest_of (take k clusters)) → length clusters ≤ k
    → cells ≡ joined (latest_of clusters)
gathered clusters k cells are end = are ∙ ap (λ (all : List Alone). joined (latest_of all)) (take_all k clusters end)

pub pattern_of-requires : goal.pattern_of-requires
pattern_of-requires c =
    ap (lies_within 999999) (c.as_slice.ensures.value
    ∙ gathered c.args.clusters.now c.loop-alone.alone-index c.loop-alone.cells.items c.loop-alone.invariant c.loop-alone-test.false)
    ∙ within_all 999999 (latest_of c.args.clusters.now) c.requires.near

-- the result is `None` only if two of the clusters share a cell, so that they aren't a partition
pub returns-clause-shared : goal.returns-clause-shared
returns-clause-shared c =
    let parts = latest_of c.args.clusters.now in
    let cells = c.loop-alone.cells.items in
    let all : cells ≡ joined parts =
    gathered c.args.clusters.now c.loop-alone.alone-index c.loop-alone.cells.items c.loop-alone.invariant c.loop-alone-test.false in
    rw c.then_some.ensures (none_if (c.population.result == c.len.result) c.in_ok-union.union ((whole : List Cell) → InOrder whole → ¬ Partition whole parts)
    (λ no whole order is.
    let union : c.in_ok-union.union ≡ whole =
    c.in_ok-union.ensures ∙ ap set_of (c.as_slice.ensures.value ∙ all) ∙ set_of-joined whole parts order is in
    let one : length c.in_ok-union.union ≡ length whole = ap length union in
    let long : length (joined parts) ≡ length whole = length-partition whole parts order c.requires.order is in
    let items : length cells ≡ length (joined parts) = ap length all in
    let same : c.population.result ≡ c.len.result = omega arith in
    false≢true (sym no ∙ (Decides-eqb c.population.result c.len.result).1 same)))

pub returns-clause-off : goal.returns-clause-off
returns-clause-off c =
    let parts = latest_of c.args.clusters.now in
    let cells = c.loop-alone.cells.items in
    let all : cells ≡ joined parts =
    gathered c.args.clusters.now c.loop-alone.alone-index c.loop-alone.cells.items c.loop-alone.invariant c.loop-alone-test.false in
    let items : length cells ≡ length (joined parts) = ap length all in
    rw c.then_some.ensures (some_if (c.population.result == c.len.result) c.in_ok-union.union (λ whole. Partition whole parts) (λ yes.
    let same : c.population.result ≡ c.len.result = eqb-true c.population.result c.len.result yes in
    partition_from c.in_ok-union.union parts (omega arith)
    (sym (c.in_ok-union.ensures ∙ ap set_of (c.as_slice.ensures.value ∙ all)))))

pub returns-clause-union : goal.returns-clause-union
returns-clause-union c =
    rw c.then_some.ensures (some_if (c.population.result == c.len.result) c.in_ok-union.union (λ whole. whole ≡ union_of (latest_of c.args.clusters.now)) (λ yes.
    c.in_ok-union.ensures ∙ ap set_of (c.as_slice.ensures.value
    ∙ gathered c.args.clusters.now c.loop-alone.alone-index c.loop-alone.cells.items c.loop-alone.invariant c.loop-alone-test.false)))
