use Rattle.std.proofs.Common.{◌≡◌, ◌∙◌, ◌<◌, ◌≤◌, ap, map, refl, sym, subst, ℕ, arith, length, true, All, List}
use Rattle.std.proofs.lemmas.Bool.{false≢true}
use Rattle.plane_core.specs.declared.plane.cell.Cell.{Cell}
use Rattle.plane_core.specs.plane.Cells.{InOrder}
use Rattle.plane_core.specs.plane.Generations.{lies_within}
use Rattle.survey_core.specs.rest.Alone.{alone_at}
use Rattle.survey_core.specs.rest.Groups.{GroupKeeps, ShareNoCell, members, union_of}
use Rattle.survey_core.specs.rest.Rest.{KeepApart}
use Rattle.survey_core.specs.UnderWay.{survey_reach}
use Rattle.survey_core.proofs.lemmas.rest.GroupLemmas.{alone_keeps, below_more, members_all, members_few, members_off}
use Rattle.survey_core.proofs.lemmas.rest.RunLemmas.{clusters_are}
use Rattle.survey_core.proofs.rest.groups_keep_apart.Goals as goal

-- the case of a group of fewer than two clusters, which keep apart
pub loop-number-preserved-then-count_of-lt2 : goal.loop-number-preserved-then-count_of-lt2
loop-number-preserved-then-count_of-lt2 c =
    let few = members_few c.loop-number.number c.args.groups.now c.args.clusters.now in
    let all = c.count_of.ensures in
    let less = c.if-count_of-lt2.true in
    let low : length (members c.loop-number.number c.args.groups.now c.args.clusters.now) < 2 = omega (arith, few, all, less) in
    below_more (GroupKeeps c.args.rule.now c.args.groups.now c.args.clusters.now c.args.horizon) c.loop-number.number c.loop-number.invariant
    (λ g there. alone_keeps c.args.rule.now (members c.loop-number.number c.args.groups.now c.args.clusters.now) g low
    (members_all InOrder c.loop-number.number c.args.groups.now c.args.clusters.now c.requires.order))

pub keep_apart-requires-clause-start : goal.keep_apart-requires-clause-start
keep_apart-requires-clause-start c =
    let found = c.as_mut_slice.ensures.value ∙ c.in_ok-members.ensures in
    found ∙ ap (map (alone_at c.args.rule.now 0))
    (sym (clusters_are c.args.rule.now 0 (members c.loop-number.number c.args.groups.now c.args.clusters.now) c.as_mut_slice.result.now found))

pub keep_apart-requires-clause-near : goal.keep_apart-requires-clause-near
keep_apart-requires-clause-near c =
    subst (All (λ part. lies_within survey_reach part ≡ true))
    (sym (clusters_are c.args.rule.now 0 (members c.loop-number.number c.args.groups.now c.args.clusters.now) c.as_mut_slice.result.now
    (c.as_mut_slice.ensures.value ∙ c.in_ok-members.ensures)))
    (members_all (λ part. lies_within survey_reach part ≡ true) c.loop-number.number c.args.groups.now c.args.clusters.now c.requires.near)

pub keep_apart-requires-clause-order : goal.keep_apart-requires-clause-order
keep_apart-requires-clause-order c =
    subst (All InOrder)
    (sym (clusters_are c.args.rule.now 0 (members c.loop-number.number c.args.groups.now c.args.clusters.now) c.as_mut_slice.result.now
    (c.as_mut_slice.ensures.value ∙ c.in_ok-members.ensures)))
    (members_all InOrder c.loop-number.number c.args.groups.now c.args.clusters.now c.requires.order)

pub keep_apart-requires-clause-off : goal.keep_apart-requires-clause-off
keep_apart-requires-clause-off c =
    subst ShareNoCell
    (sym (clusters_are c.args.rule.now 0 (members c.loop-number.number c.args.groups.now c.args.clusters.now) c.as_mut_slice.result.now
    (c.as_mut_slice.ensures.value ∙ c.in_ok-members.ensures)))
    (members_off c.loop-number.number c.args.groups.now c.args.clusters.now c.requires.off)

-- the case of a group whose clusters don't keep apart
pub returns-then-not-keeps : goal.returns-then-not-keeps
returns-then-not-keeps c = (
  λ e. absurd (false≢true e),
  λ all. absurd (false≢true (sym c.if-not-keeps.true ∙ c.in_ok-keeps.ensures.1 (subst (λ (parts : List (List Cell)).
      (g : ℕ) → g ≤ c.args.horizon → KeepApart c.args.rule.now (union_of parts) parts g)
      (sym (clusters_are c.args.rule.now 0 (members c.loop-number.number c.args.groups.now c.args.clusters.now) c.as_mut_slice.result.now
      (c.as_mut_slice.ensures.value ∙ c.in_ok-members.ensures)))
      (all c.loop-number.number c.loop-number-test.true)))),
)

pub loop-number-preserved : goal.loop-number-preserved
loop-number-preserved c =
    below_more (GroupKeeps c.args.rule.now c.args.groups.now c.args.clusters.now c.args.horizon) c.loop-number.number c.loop-number.invariant
    (subst (λ (parts : List (List Cell)). (g : ℕ) → g ≤ c.args.horizon → KeepApart c.args.rule.now (union_of parts) parts g)
    (clusters_are c.args.rule.now 0 (members c.loop-number.number c.args.groups.now c.args.clusters.now) c.as_mut_slice.result.now
    (c.as_mut_slice.ensures.value ∙ c.in_ok-members.ensures))
    (c.in_ok-keeps.ensures.0 c.if-not-keeps.false))

pub returns : goal.returns
returns c = (λ e k low. c.loop-number.invariant k (omega arith), λ all. refl)
