use Rattle.std.proofs.Common.{◌≡◌, ◌≢◌, ◌∙◌, ◌<◌, ◌≤◌, ap, sym, subst, ℕ, List, [], All, length, true}
use Rattle.std.proofs.lemmas.Bool.{false≢true}
use Rattle.std.proofs.lemmas.Result.{IfOk-from_err}
use Rattle.plane_core.specs.declared.plane.cell.Cell.{Cell}
use Rattle.plane_core.specs.plane.Cells.{InOrder}
use Rattle.plane_core.specs.plane.Generations.{lies_within}
use Rattle.survey_core.specs.declared.shapes.envelope_bounds.EnvelopeBounds.{EnvelopeBounds}
use Rattle.survey_core.specs.rest.Grouping.{AreGroups}
use Rattle.survey_core.specs.rest.Groups.{GroupKeeps, ShareNoCell}
use Rattle.survey_core.specs.rest.Rest.{IsAtRest, RestsAs}
use Rattle.survey_core.specs.shapes.RecurringShapes.{RecursWithin}
use Rattle.survey_core.specs.shapes.Envelopes.{AreEnvelopes}
use Rattle.survey_core.specs.UnderWay.{survey_reach}
use Rattle.survey_core.proofs.lemmas.rest.GroupingLemmas.{groups_of_rest, none_if, rest_by_groups, some_if}
use Rattle.survey_core.proofs.lemmas.rest.RestLemmas.{clusters_near, clusters_off, clusters_some, same_clusters}
use Rattle.survey_core.proofs.rest.clusters_at_rest.Goals as goal

pub envelopes-requires-clause-some : goal.envelopes-requires-clause-some
envelopes-requires-clause-some c =
    subst (All (λ (part : List Cell). part ≢ [])) (sym c.as_slice-parts.ensures.value)
    (clusters_some c.args.pattern.now c.in_ok-clusters.clusters.items c.in_ok-clusters.ensures.clusters)

pub envelopes-requires-clause-near : goal.envelopes-requires-clause-near
envelopes-requires-clause-near c =
    subst (All (λ (part : List Cell). lies_within survey_reach part ≡ true)) (sym c.as_slice-parts.ensures.value)
    (clusters_near survey_reach c.args.pattern.now c.in_ok-clusters.clusters.items c.in_ok-clusters.ensures.clusters c.requires)

-- if some cluster doesn't recur, the pattern isn't at rest
pub returns-in_default-clause-moves : goal.returns-in_default-clause-moves
returns-in_default-clause-moves c = λ rest.
    let same : RestsAs c.args.rule.now c.args.profile.now c.args.pattern.now c.in_ok-clusters.clusters.items =
    same_clusters c.args.rule.now c.args.profile.now c.args.pattern.now c.in_ok-clusters.clusters.items c.in_ok-clusters.ensures.clusters rest in
    let never : ¬ All (RecursWithin c.args.rule.now c.period-limit.result) c.as_slice-parts.result.now = rw c.in_default.is at c.in_ok-envelopes.ensures.never in
    never (subst (λ (p : ℕ). All (RecursWithin c.args.rule.now p) c.as_slice-parts.result.now) (sym c.period-limit.ensures.period)
    (subst (All (RecursWithin c.args.rule.now c.args.profile.now.period)) (sym c.as_slice-parts.ensures.value) same.back))

pub groups_keep_apart-requires-clause-near : goal.groups_keep_apart-requires-clause-near
groups_keep_apart-requires-clause-near c =
    subst (All (λ (part : List Cell). lies_within survey_reach part ≡ true)) (sym c.as_slice-parts.ensures.value)
    (clusters_near survey_reach c.args.pattern.now c.in_ok-clusters.clusters.items c.in_ok-clusters.ensures.clusters c.requires)

pub groups_keep_apart-requires-clause-off : goal.groups_keep_apart-requires-clause-off
groups_keep_apart-requires-clause-off c =
    subst ShareNoCell (sym c.as_slice-parts.ensures.value)
    (clusters_off c.args.pattern.now c.in_ok-clusters.clusters.items c.in_ok-clusters.ensures.clusters)

-- the envelopes and the groups are those of the clusters
enveloped : (c : goal.After-drop-envelopes-2)
    → AreEnvelopes c.args.rule.now c.args.profile.now.period c.in_ok-clusters.clusters.items c.in-Some.envelopes.items
enveloped c =
    subst (λ (p : ℕ). AreEnvelopes c.args.rule.now p c.in_ok-clusters.clusters.items c.in-Some.envelopes.items) c.period-limit.ensures.period
    (subst (λ (parts : List (List Cell)). AreEnvelopes c.args.rule.now c.period-limit.result parts c.in-Some.envelopes.items) c.as_slice-parts.ensures.value
    (rw c.in-Some.is at c.in_ok-envelopes.ensures.envelopes))

grouped : (c : goal.After-drop-envelopes-2) → AreGroups c.args.profile.now.horizon c.in-Some.envelopes.items c.in_ok-groups.groups.items
grouped c =
    subst (λ (h : ℕ). AreGroups h c.in-Some.envelopes.items c.in_ok-groups.groups.items) c.horizon-horizon.ensures.horizon
    (subst (λ (envelopes : List EnvelopeBounds). AreGroups c.horizon-horizon.result envelopes c.in_ok-groups.groups.items) c.as_slice.ensures.value c.in_ok-groups.ensures)

-- if the clusters of some group don't keep apart, the pattern isn't at rest
pub returns-clause-moves : goal.returns-clause-moves
returns-clause-moves c =
    rw c.then_some.ensures (none_if c.in_ok-apart.apart c.in_ok-clusters.clusters (¬ IsAtRest c.args.rule.now c.args.profile.now c.args.pattern.now) (λ not_apart rest.
    let order : InOrder c.args.pattern.now = c.recall_order.ensures.in_order in
    let same : RestsAs c.args.rule.now c.args.profile.now c.args.pattern.now c.in_ok-clusters.clusters.items =
    same_clusters c.args.rule.now c.args.profile.now c.args.pattern.now c.in_ok-clusters.clusters.items c.in_ok-clusters.ensures.clusters rest in
    false≢true (sym not_apart ∙ c.in_ok-apart.ensures.1 (λ k low.
    subst (λ (h : ℕ). GroupKeeps c.args.rule.now c.as_slice-2.result.now c.as_slice-parts.result.now h k) (sym c.horizon-horizon.ensures.horizon)
    (subst (λ (parts : List (List Cell)). GroupKeeps c.args.rule.now c.as_slice-2.result.now parts c.args.profile.now.horizon k) (sym c.as_slice-parts.ensures.value)
    (subst (λ (gs : List ℕ). GroupKeeps c.args.rule.now gs c.in_ok-clusters.clusters.items c.args.profile.now.horizon k) (sym c.as_slice-2.ensures.value)
    (groups_of_rest c.args.rule.now c.args.profile.now c.args.pattern.now c.in_ok-clusters.clusters.items c.in-Some.envelopes.items
    c.in_ok-groups.groups.items order (enveloped c) (grouped c) same k)))))))

-- if the clusters of each group keep apart, the pattern is at rest with these clusters
pub returns-clause-rest : goal.returns-clause-rest
returns-clause-rest c =
    rw c.then_some.ensures (some_if c.in_ok-apart.apart c.in_ok-clusters.clusters
    (λ clusters. RestsAs c.args.rule.now c.args.profile.now c.args.pattern.now clusters.items) (λ apart.
    let order : InOrder c.args.pattern.now = c.recall_order.ensures.in_order in
    let each = c.in_ok-apart.ensures.0 apart in
    rest_by_groups c.args.rule.now c.args.profile.now c.args.pattern.now c.in_ok-clusters.clusters.items c.in-Some.envelopes.items
    c.in_ok-groups.groups.items order c.in_ok-clusters.ensures.clusters (enveloped c) (grouped c) (λ k low.
    subst (λ (h : ℕ). GroupKeeps c.args.rule.now c.in_ok-groups.groups.items c.in_ok-clusters.clusters.items h k) c.horizon-horizon.ensures.horizon
    (subst (λ (parts : List (List Cell)). GroupKeeps c.args.rule.now c.in_ok-groups.groups.items parts c.horizon-horizon.result k) c.as_slice-parts.ensures.value
    (subst (λ (gs : List ℕ). GroupKeeps c.args.rule.now gs c.as_slice-parts.result.now c.horizon-horizon.result k) c.as_slice-2.ensures.value
    (each k (subst (λ (parts : List (List Cell)). k < length parts) (sym c.as_slice-parts.ensures.value) low)))))))

pub envelopes-requires-clause-least : goal.envelopes-requires-clause-least
envelopes-requires-clause-least c =
    subst (λ n. 1 ≤ n) (sym c.period-limit.ensures.period) c.period-limit.ensures.profile.some

pub envelopes-requires-clause-most : goal.envelopes-requires-clause-most
envelopes-requires-clause-most c =
    subst (λ n. n ≤ 64) (sym c.period-limit.ensures.period) c.period-limit.ensures.profile.period

pub envelopes-requires-clause-order : goal.envelopes-requires-clause-order
envelopes-requires-clause-order c =
    subst (All InOrder) (sym c.as_slice-parts.ensures.value) (λ k d low. (c.in_ok-clusters.ensures.patterns k d low).in_order)

pub groups-requires : goal.groups-requires
groups-requires c = subst (λ n. n ≤ 4096) (sym c.horizon-horizon.ensures.horizon) c.horizon-horizon.ensures.profile.horizon

pub groups_keep_apart-requires-clause-horizon : goal.groups_keep_apart-requires-clause-horizon
groups_keep_apart-requires-clause-horizon c =
    subst (λ n. n ≤ 4096) (sym c.horizon-horizon.ensures.horizon) c.horizon-horizon.ensures.profile.horizon

pub groups_keep_apart-requires-clause-order : goal.groups_keep_apart-requires-clause-order
groups_keep_apart-requires-clause-order c =
    subst (All InOrder) (sym c.as_slice-parts.ensures.value)
    (λ k d low. (c.in_ok-clusters.ensures.patterns k d low).in_order)

pub groups_keep_apart-requires-clause-count : goal.groups_keep_apart-requires-clause-count
groups_keep_apart-requires-clause-count c =
    let found : AreEnvelopes c.args.rule.now c.period-limit.result c.as_slice-parts.result.now c.in-Some.envelopes.items =
    rw c.in-Some.is at c.in_ok-envelopes.ensures.envelopes in
    ap length c.as_slice-2.ensures.value ∙ c.in_ok-groups.ensures.numbers.count ∙ ap length c.as_slice.ensures.value
    ∙ found.count
    ∙ ap length (c.as_slice-parts.ensures.value ∙ sym c.as_slice-parts.ensures.value)

pub returns-in_err-clusters-clause-rest : goal.returns-in_err-clusters-clause-rest
returns-in_err-clusters-clause-rest c = IfOk-from_err _ _ c.from_residual.ensures.0

pub returns-in_err-clusters-clause-moves : goal.returns-in_err-clusters-clause-moves
returns-in_err-clusters-clause-moves c = IfOk-from_err _ _ c.from_residual.ensures.0

pub returns-in_err-envelopes-clause-rest : goal.returns-in_err-envelopes-clause-rest
returns-in_err-envelopes-clause-rest c = IfOk-from_err _ _ c.from_residual-in_err-envelopes.ensures.0

pub returns-in_err-envelopes-clause-moves : goal.returns-in_err-envelopes-clause-moves
returns-in_err-envelopes-clause-moves c = IfOk-from_err _ _ c.from_residual-in_err-envelopes.ensures.0

pub returns-in_err-groups-clause-rest : goal.returns-in_err-groups-clause-rest
returns-in_err-groups-clause-rest c = IfOk-from_err _ _ c.from_residual-in_err-groups.ensures.0

pub returns-in_err-groups-clause-moves : goal.returns-in_err-groups-clause-moves
returns-in_err-groups-clause-moves c = IfOk-from_err _ _ c.from_residual-in_err-groups.ensures.0

pub returns-in_err-apart-clause-rest : goal.returns-in_err-apart-clause-rest
returns-in_err-apart-clause-rest c = IfOk-from_err _ _ c.from_residual-in_err-apart.ensures.0

pub returns-in_err-apart-clause-moves : goal.returns-in_err-apart-clause-moves
returns-in_err-apart-clause-moves c = IfOk-from_err _ _ c.from_residual-in_err-apart.ensures.0
