use Rattle.std.proofs.Common.{FitsSigned, List, refl, rules, subst, sym, w32, ℤ}
use Rattle.std.proofs.lemmas.Int.{to_z-of_z}
use Rattle.plane_core.specs.declared.plane.cell.Cell.{Cell}
use Rattle.survey_core.specs.evolution.EscapedSpaceships.{BeginsPast, IsForemost}
use Rattle.survey_core.specs.shapes.Envelopes.{IsEnvelope}
use Rattle.survey_core.proofs.lemmas.evolution.SplitPatternLemmas.{small_by_envelope}
use Rattle.survey_core.proofs.lemmas.evolution.SpaceshipLemmas.{ahead_by_envelope}
use Rattle.survey_core.proofs.evolution.escaped_spaceships.spaceship_of.Goals as goal

pub envelope-requires-clause-least : goal.envelope-requires-clause-least
envelope-requires-clause-least c = c.requires.least

pub envelope-requires-clause-most : goal.envelope-requires-clause-most
envelope-requires-clause-most c = c.requires.most

pub envelope-requires-clause-order : goal.envelope-requires-clause-order
envelope-requires-clause-order c = c.recall_order.ensures.in_order

pub envelope-requires-clause-some : goal.envelope-requires-clause-some
envelope-requires-clause-some c = c.requires.some

pub envelope-requires-clause-near : goal.envelope-requires-clause-near
envelope-requires-clause-near c = c.requires.near

pub returns-clause-foremost : goal.returns-clause-foremost
returns-clause-foremost c =
    let rule = c.args.rule.now in
    let envelope = c.in-Some.envelope in
    let is : IsEnvelope rule c.args.limit c.args.part.now envelope = rw c.in-Some.is at c.in_ok-envelope.ensures.envelope in
    let way = c.way_of-way.result in
    let m = c.in-Some-frontier_without.frontier in
    let fits : FitsSigned w32 m = search rules in
    let room : BeginsPast way m envelope =
    subst (λ (d : ℤ). BeginsPast way d envelope) (to_z-of_z w32 m fits) (c.begins_past-is_ahead.ensures c.if-not-is_ahead.false) in
    subst (λ (S : List Cell). IsForemost rule c.args.board.now.cells envelope.recurrence S) (sym c.in_ok-cells.ensures) (record {
      part = c.requires.part;
      way = way;
      m = m;
      ahead = ahead_by_envelope rule c.args.limit c.args.part.now envelope way m is (c.is_fast-fast.ensures c.if-not-fast.false) room;
      behind = c.in-Some-frontier_without.ensures;
    })

pub returns-clause-cells : goal.returns-clause-cells
returns-clause-cells c = c.in_ok-cells.ensures

pub returns-clause-small : goal.returns-clause-small
returns-clause-small c =
    small_by_envelope c.args.rule.now c.args.limit _ c.args.part.now c.in-Some.envelope c.requires.most c.requires.some c.requires.near
    c.in_ok-cells.ensures refl
    (rw c.in-Some.is at c.in_ok-envelope.ensures.envelope)

pub returns-clause-since : goal.returns-clause-since
returns-clause-since c = refl
