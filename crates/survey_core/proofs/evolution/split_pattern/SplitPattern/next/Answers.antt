use Rattle.std.proofs.Common.{◌≡◌, ◌∙◌, ◌+◌, All, IfOk, List, ap, arith, subst, sym}
use Rattle.plane_core.specs.declared.plane.cell.Cell.{Cell}
use Rattle.plane_core.specs.plane.Generations.{lies_within, next}
use Rattle.survey_core.specs.declared.evolution.escaped_spaceships.Spaceship.{Spaceship}
use Rattle.survey_core.specs.evolution.SplitPatterns.{IsTraced, whole_at, whole_of}
use Rattle.survey_core.specs.UnderWay.{survey_reach}
use Rattle.survey_core.proofs.lemmas.PlaneLemmas.{within_more}
use Rattle.survey_core.proofs.lemmas.evolution.SplitPatternLemmas.{next_whole, traced_later}
use Rattle.survey_core.proofs.evolution.split_pattern.SplitPattern.next.Goals as goal

pub next-requires : goal.next-requires
next-requires c =
    ap (lies_within 999999) (c.in_ok-pattern.ensures
    ∙ ap (whole_at c.args.rule.now c.args.self.now.time c.args.self.now.board.cells) c.as_slice-spaceships.ensures.value)
    ∙ within_more survey_reach 999999 (whole_of c.args.rule.now c.args.self.now) (omega arith) c.requires.near

pub returns-in_default : goal.returns-in_default
returns-in_default c =
    subst (λ (S : List Cell). IfOk c.next.result (λ later. later ≡ next c.args.rule.now S)) (c.in_ok-pattern.ensures
    ∙ ap (whole_at c.args.rule.now c.args.self.now.time c.args.self.now.board.cells) c.as_slice-spaceships.ensures.value) c.next.ensures

pub with_spaceships-requires-clause-traced : goal.with_spaceships-requires-clause-traced
with_spaceships-requires-clause-traced c =
    let split = c.args.self.now in
    subst (λ (spaceships : List Spaceship). All (IsTraced c.args.rule.now (split.time + 1)) spaceships) (sym c.as_slice-spaceships.ensures.value)
    (traced_later c.args.rule.now split.time 1 split.board.cells split.spaceships.items c.requires.is_split.1)

pub returns : goal.returns
returns c =
    let split = c.args.self.now in
    let board : c.in-Some.board ≡ next split.board.rule split.board.cells = rw c.in-Some.is at c.in_ok-board.ensures in
    subst (λ (S : List Cell). IfOk c.with_spaceships.result (λ pattern. pattern ≡ S))
    (ap (whole_at c.args.rule.now (split.time + 1) c.in-Some.board) c.as_slice-spaceships.ensures.value
    ∙ next_whole c.args.rule.now split c.in-Some.board c.requires.is_split board) c.with_spaceships.ensures
