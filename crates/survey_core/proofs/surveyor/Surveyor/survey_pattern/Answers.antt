use Rattle.std.proofs.Common.{◌≡◌, ◌∙◌, ◌+◌, ◌≤◌, ap, sym, subst, subst₂, ℕ, Fits, w32, List, arith}
use Rattle.std.proofs.lemmas.Result.{IfOk-from_err}
use Rattle.plane_core.specs.declared.plane.cell.Cell.{Cell}
use Rattle.plane_core.specs.plane.Generations.{after, lies_within}
use Rattle.plane_core.proofs.lemmas.plane.GenerationLemmas.{after-none}
use Rattle.survey_core.specs.evolution.Evolutions.{kept}
use Rattle.survey_core.specs.Findings.{NoRestBefore}
use Rattle.survey_core.specs.rest.KnownRestless.{AreKnownRestless}
use Rattle.survey_core.specs.Profiles.{IsCheckpoint}
use Rattle.survey_core.specs.UnderWay.{survey_reach}
use Rattle.survey_core.proofs.lemmas.evolution.EvolutionLemmas.{stays_near}
use Rattle.survey_core.proofs.lemmas.FindingLemmas.{after-then, finding_from, first_checkpoint, next_checkpoint, no_rest_more, no_room, none_at_last, room_for_more}
use Rattle.survey_core.proofs.lemmas.rest.KnownRestlessLemmas.{known_later, none_known}
use Rattle.survey_core.proofs.lemmas.PlaneLemmas.{within_later, within_more}
use Rattle.survey_core.proofs.surveyor.Surveyor.survey_pattern.Goals as goal

pub loop-evolution-init : goal.loop-evolution-init
loop-evolution-init c = record {
  by_rule = within_more 1000 survey_reach c.args.pattern (omega arith) c.requires;
  here = first_checkpoint c.args.profile.now;
  latest = sym (after-none c.args.rule.now c.args.pattern);
  known_restless = none_known c.args.rule.now c.args.profile.now c.args.pattern 0;
  before = λ u check low rest. absurd (omega (arith, low));
}

pub examine-requires-clause-kept : goal.examine-requires-clause-kept
examine-requires-clause-kept c = c.loop-evolution.invariant.by_rule

pub examine-requires-clause-near : goal.examine-requires-clause-near
examine-requires-clause-near c =
    let within : c.loop-evolution.checkpoint ≤ c.args.profile.now.limit = c.loop-evolution.invariant.here.within in
    let most : c.args.profile.now.limit ≤ 100000 = c.stride-stride.ensures.profile.limit in
    ap (lies_within survey_reach) c.loop-evolution.invariant.latest
    ∙ within_later 1000 survey_reach c.args.rule.now c.args.pattern c.loop-evolution.checkpoint (omega (arith, within, most)) c.requires

pub examine-requires-clause-known_restless : goal.examine-requires-clause-known_restless
examine-requires-clause-known_restless c = c.loop-evolution.invariant.known_restless

-- the case of a pattern that is at rest for the first time
pub returns-in-Some : goal.returns-in-Some
returns-in-Some c = record {
  few = rw c.in-Some.is at c.in_ok-found.ensures.few;
  finding = finding_from c.args.rule.now c.args.profile.now c.args.pattern (kept c.args.rule.now c.loop-evolution.evolution) c.loop-evolution.checkpoint c.in-Some.finding
      (rw c.in-Some.is at c.in_ok-found.ensures.settled) c.loop-evolution.invariant.latest c.loop-evolution.invariant.here c.loop-evolution.invariant.before;
}

pub overflow_sub-limit : goal.overflow_sub-limit
overflow_sub-limit c = subst (λ (n : ℕ). c.loop-evolution.checkpoint ≤ n) (sym c.limit-limit.ensures.limit) c.loop-evolution.invariant.here.within

-- the case of a pattern that isn't at rest at the last checkpoint
pub returns-then-limit-checkpoint : goal.returns-then-limit-checkpoint
returns-then-limit-checkpoint c = record {
  few = omega arith;
  finding = none_at_last c.args.rule.now c.args.profile.now c.args.pattern (kept c.args.rule.now c.loop-evolution.evolution) c.loop-evolution.checkpoint
      (rw c.in_default.is at c.in_ok-found.ensures.moves) c.loop-evolution.invariant.latest c.stride-stride.ensures.profile.onward
      c.loop-evolution.invariant.here
      (no_room c.args.profile.now.limit c.args.profile.now.stride c.limit-limit.result c.stride-stride.result c.loop-evolution.checkpoint
      c.limit-limit.ensures.limit c.stride-stride.ensures.stride c.if-limit-checkpoint.true)
      c.loop-evolution.invariant.before;
}

-- the case of a pattern that isn't at rest yet, with another checkpoint within the limit
pub go_on-requires-clause-kept : goal.go_on-requires-clause-kept
go_on-requires-clause-kept c = c.loop-evolution.invariant.by_rule

pub go_on-requires-clause-near : goal.go_on-requires-clause-near
go_on-requires-clause-near c =
    let room = room_for_more c.args.profile.now.limit c.args.profile.now.stride c.limit-limit.result c.stride-stride.result c.loop-evolution.checkpoint
    c.limit-limit.ensures.limit c.stride-stride.ensures.stride c.loop-evolution.invariant.here.within c.if-limit-checkpoint.false in
    let most : c.args.profile.now.limit ≤ 100000 = c.stride-stride.ensures.profile.limit in
    stays_near c.args.rule.now c.args.pattern (kept c.args.rule.now c.loop-evolution.evolution) c.loop-evolution.checkpoint c.args.profile.now.stride
    c.loop-evolution.invariant.latest c.requires (omega (arith, room, most))

pub overflow_add-checkpoint : goal.overflow_add-checkpoint
overflow_add-checkpoint c =
    let room = room_for_more c.args.profile.now.limit c.args.profile.now.stride c.limit-limit.result c.stride-stride.result c.loop-evolution.checkpoint
    c.limit-limit.ensures.limit c.stride-stride.ensures.stride c.loop-evolution.invariant.here.within c.if-limit-checkpoint.false in
    let most : c.args.profile.now.limit ≤ 100000 = c.stride-stride.ensures.profile.limit in
    subst (λ (s : ℕ). Fits w32 (c.loop-evolution.checkpoint + s)) (sym c.stride-stride.ensures.stride) (omega (arith, room, most))

pub loop-evolution-preserved : goal.loop-evolution-preserved
loop-evolution-preserved c =
    let profile = c.args.profile.now in
    let t = c.loop-evolution.checkpoint in
    let at : t + c.stride-stride.result ≡ t + profile.stride = ap (λ (s : ℕ). t + s) c.stride-stride.ensures.stride in
    let cells : kept c.args.rule.now c.in_ok-evolution.evolution ≡ after c.args.rule.now (kept c.args.rule.now c.loop-evolution.evolution) profile.stride =
    c.in_ok-evolution.ensures.cells in
    record {
      by_rule = c.in_ok-evolution.ensures.kept;
      here = subst (IsCheckpoint profile) (sym at) (next_checkpoint profile t c.loop-evolution.invariant.here
          (room_for_more profile.limit profile.stride c.limit-limit.result c.stride-stride.result t c.limit-limit.ensures.limit
          c.stride-stride.ensures.stride c.loop-evolution.invariant.here.within c.if-limit-checkpoint.false));
      latest = cells ∙ ap (λ (S : List Cell). after c.args.rule.now S profile.stride) c.loop-evolution.invariant.latest
          ∙ after-then c.args.rule.now c.args.pattern t profile.stride ∙ ap (after c.args.rule.now c.args.pattern) (sym at);
      known_restless = subst₂ (λ (S : List Cell) (u : ℕ). AreKnownRestless c.args.rule.now profile S u c.examine.new.known_restless) (sym cells) (sym at)
          (known_later c.args.rule.now profile (kept c.args.rule.now c.loop-evolution.evolution) t profile.stride c.examine.new.known_restless c.in_ok-found.ensures.known_restless);
      before = subst (NoRestBefore c.args.rule.now profile c.args.pattern) (sym at)
          (no_rest_more c.args.rule.now profile c.args.pattern (kept c.args.rule.now c.loop-evolution.evolution) t c.stride-stride.ensures.profile.onward
          c.loop-evolution.invariant.here c.loop-evolution.invariant.latest c.loop-evolution.invariant.before (rw c.in_default.is at c.in_ok-found.ensures.moves));
    }

pub returns-in_err-found : goal.returns-in_err-found
returns-in_err-found c = IfOk-from_err _ _ c.from_residual.ensures.0

pub returns-in_err-evolution : goal.returns-in_err-evolution
returns-in_err-evolution c = IfOk-from_err _ _ c.from_residual-in_err-evolution.ensures.0
