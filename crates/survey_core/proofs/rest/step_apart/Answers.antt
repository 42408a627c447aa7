use Rattle.std.proofs.Common.{◌≡◌, ◌∙◌, ap, sym, refl, subst, All, true, List}
use Rattle.std.proofs.lemmas.Bool.{false≢true}
use Rattle.std.proofs.lemmas.List.Elements.{All-map}
use Rattle.plane_core.specs.declared.plane.cell.Cell.{Cell}
use Rattle.plane_core.specs.plane.Cells.{InOrder}
use Rattle.plane_core.specs.clusters.Clusters.{Partition}
use Rattle.plane_core.specs.plane.Generations.{lies_within, next}
use Rattle.plane_core.proofs.lemmas.plane.SetLemmas.{in_order-set_of}
use Rattle.survey_core.specs.declared.rest.alone.Alone.{Alone}
use Rattle.survey_core.specs.rest.Alone.{latest_of}
use Rattle.survey_core.specs.rest.Groups.{union_of}
use Rattle.survey_core.proofs.lemmas.PartitionLemmas.{joined, set_of-joined}
use Rattle.survey_core.proofs.lemmas.rest.ApartLemmas.{ArePartsLater, apart_keeps, parts_later, stepped_latest}
use Rattle.survey_core.proofs.lemmas.rest.GroupLemmas.{union_partition}
use Rattle.survey_core.proofs.lemmas.rest.RestLemmas.{alone_in_order, union_near}
use Rattle.survey_core.proofs.rest.step_apart.Goals.{In-Some, In_default, In_ok-step_each-2}
use Rattle.survey_core.proofs.rest.step_apart.Goals as goal

-- the case of clusters that lie apart
pub returns-then-lie_apart-clause-apart : goal.returns-then-lie_apart-clause-apart
returns-then-lie_apart-clause-apart c = (
  λ _. apart_keeps c.args.rule.now (latest_of c.args.clusters.now) c.requires.order (c.lie_apart.ensures c.if-lie_apart.true),
  λ _. refl,
)

pub joined-requires-clause-near : goal.joined-requires-clause-near
joined-requires-clause-near c =
    All-map (λ part. lies_within 999999 part ≡ true) (λ (alone : Alone). alone.latest) c.args.clusters.now c.requires.near

-- before the step the clusters share no cell, so the first call of `joined` doesn't return `None`
never : (c : In_default) → ⊥
never c =
    let latest = latest_of c.args.clusters.now in
    (rw c.in_default.is at c.in_ok-whole.ensures.shared) (union_of latest) (in_order-set_of (joined latest)) (union_partition latest c.requires.off)

pub returns-in_default-clause-stepped : goal.returns-in_default-clause-stepped
returns-in_default-clause-stepped c = absurd (never (goal.at.returns-in_default-clause-stepped c).In_default)

pub returns-in_default-clause-apart : goal.returns-in_default-clause-apart
returns-in_default-clause-apart c = absurd (never (goal.at.returns-in_default-clause-apart c).In_default)

whole_is : (c : In-Some) → c.in-Some.whole ≡ union_of (latest_of c.args.clusters.now)
whole_is c = rw c.in-Some.is at c.in_ok-whole.ensures.union

pub next-requires : goal.next-requires
next-requires c =
    ap (lies_within 999999) (whole_is (goal.at.next-requires c).In-Some)
    ∙ union_near 999999 (latest_of c.args.clusters.now)
    (All-map (λ part. lies_within 999999 part ≡ true) (λ (alone : Alone). alone.latest) c.args.clusters.now c.requires.near)

pub joined-requires-2-clause-order : goal.joined-requires-2-clause-order
joined-requires-2-clause-order c =
    subst (All InOrder) (sym (stepped_latest c.args.rule.now c.args.clusters.now c.step_each-2.new.clusters c.in_ok-step_each-2.ensures))
    (alone_in_order c.args.rule.now (latest_of c.args.clusters.now) 1 c.requires.order)

pub joined-requires-2-clause-near : goal.joined-requires-2-clause-near
joined-requires-2-clause-near c =
    subst (All (λ part. lies_within 999999 part ≡ true))
    (sym (stepped_latest c.args.rule.now c.args.clusters.now c.step_each-2.new.clusters c.in_ok-step_each-2.ensures)) c.requires.later

parts : (c : In_ok-step_each-2) → ArePartsLater c.args.rule.now c.args.clusters.now c.step_each-2.new.clusters c.in_ok-later.later
parts c =
    parts_later c.args.rule.now c.args.clusters.now c.step_each-2.new.clusters c.in_ok-later.later c.in_ok-step_each-2.ensures
    (c.in_ok-later.ensures ∙ ap (next c.args.rule.now) (rw c.in-Some.is at c.in_ok-whole.ensures.union))

-- the case of two clusters that share a cell in the next generation
pub returns-in_default-2-clause-apart : goal.returns-in_default-2-clause-apart
returns-in_default-2-clause-apart c =
    let are = parts (goal.at.returns-in_default-2-clause-apart c).In_ok-step_each-2 in
    let shared : (w : List Cell) → InOrder w → ¬ Partition w (latest_of c.step_each-2.new.clusters) =
    rw c.in_default-2.is at c.in_ok-together.ensures.shared in
    (λ e. absurd (false≢true e), λ kept. absurd (shared c.in_ok-later.later are.in_order (are.back kept)))

pub returns-clause-apart : goal.returns-clause-apart
returns-clause-apart c =
    let are = parts (goal.at.returns-clause-apart c).In_ok-step_each-2 in
    let latest = latest_of c.step_each-2.new.clusters in
    let union : c.in-Some-2.together ≡ union_of latest = rw c.in-Some-2.is at c.in_ok-together.ensures.union in
    let off : Partition c.in-Some-2.together latest = rw c.in-Some-2.is at c.in_ok-together.ensures.off in (
      λ e. are.there (subst (λ (w : List Cell). Partition w latest)
          (sym c.cells.ensures.cells ∙ c.are_same-same.ensures.0 e ∙ c.cells-2.ensures.cells) off),
      λ kept. c.are_same-same.ensures.1 (c.cells.ensures.cells ∙ union ∙ set_of-joined c.in_ok-later.later latest are.in_order (are.back kept)
          ∙ sym c.cells-2.ensures.cells),
    )
