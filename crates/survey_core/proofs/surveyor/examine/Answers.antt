use Rattle.std.proofs.Common.{◌≡◌, ◌≢◌, ◌∙◌, ◌≤◌, ◌↔◌, IsTrue, List, [], All, ℕ, ap, refl, subst, sym, true}
use Rattle.plane_core.specs.declared.plane.cell.Cell.{Cell}
use Rattle.plane_core.specs.plane.Generations.{lies_within}
use Rattle.survey_core.specs.evolution.Evolutions.{kept}
use Rattle.survey_core.specs.rest.KnownRestless.{AreKnownRestless}
use Rattle.survey_core.specs.shapes.Objects.{AreObjectsOf, StayForGood}
use Rattle.survey_core.specs.rest.Rest.{IsAtRest, RestsAs}
use Rattle.survey_core.specs.shapes.RecurringShapes.{RecursWithin}
use Rattle.survey_core.specs.UnderWay.{survey_reach}
use Rattle.survey_core.proofs.lemmas.rest.KnownRestlessLemmas.{known_more, known_now}
use Rattle.survey_core.proofs.lemmas.rest.RestLemmas.{cluster_some, cluster_within}
use Rattle.survey_core.proofs.lemmas.shapes.MarkLemmas.{marks_match}
use Rattle.survey_core.proofs.surveyor.examine.Goals as goal
use Rattle.survey_core.proofs.surveyor.examine.Goals.{then-is_still, else-is_still}
use Rattle.survey_core.proofs.surveyor.examine.Goals.{then-known_restless-parity-via-then-known_restless-parity}
use Rattle.survey_core.proofs.surveyor.examine.Goals.{then-known_restless-parity-via-else-known_restless-parity+then-surely_moves}

pub returns-then-known_restless-parity-clause-moves : goal.returns-then-known_restless-parity-clause-moves
returns-then-known_restless-parity-clause-moves c = elim c.then-known_restless-parity.branch [
  | then-known_restless-parity-via-then-known_restless-parity w ↦
      known_now c.args.rule.now c.args.profile.now (kept c.args.rule.now c.args.evolution.now) c.args.checkpoint c.args.known_restless.now
      c.requires.known_restless w.if-known_restless-parity.true
  | then-known_restless-parity-via-else-known_restless-parity+then-surely_moves w ↦ w.surely_moves.ensures w.if-surely_moves.true
]

pub clusters_at_rest-requires : goal.clusters_at_rest-requires
clusters_at_rest-requires c = ap (lies_within survey_reach) c.in_ok-latest.ensures ∙ c.requires.near

-- the case of a pattern that isn't at rest
pub returns-in_default-clause-moves : goal.returns-in_default-clause-moves
returns-in_default-clause-moves c =
    subst (λ (S : List Cell). ¬ IsAtRest c.args.rule.now c.args.profile.now S) c.in_ok-latest.ensures (rw c.in_default.is at c.in_ok-found.ensures.moves)

pub returns-in_default-clause-known_restless : goal.returns-in_default-clause-known_restless
returns-in_default-clause-known_restless c = elim c.if-is_still.branch [
  | then-is_still w ↦ let moves : ¬ IsAtRest c.args.rule.now c.args.profile.now (kept c.args.rule.now c.args.evolution.now) =
      subst (λ (S : List Cell). ¬ IsAtRest c.args.rule.now c.args.profile.now S) c.in_ok-latest.ensures (rw c.in_default.is at c.in_ok-found.ensures.moves) in
      subst (AreKnownRestless c.args.rule.now c.args.profile.now (kept c.args.rule.now c.args.evolution.now) c.args.checkpoint) (sym w.known_restless-is)
      (known_more c.args.rule.now c.args.profile.now (kept c.args.rule.now c.args.evolution.now) c.args.checkpoint c.args.known_restless.now c.requires.known_restless moves
      (c.is_still.ensures w.if-is_still.true c.args.rule.now c.requires.kept))
  | else-is_still w ↦ subst (AreKnownRestless c.args.rule.now c.args.profile.now (kept c.args.rule.now c.args.evolution.now) c.args.checkpoint) (sym w.known_restless-is) c.requires.known_restless
]

-- the case of a pattern that is at rest: `clusters_at_rest` has returned its clusters
pub of_clusters-requires-clause-some : goal.of_clusters-requires-clause-some
of_clusters-requires-clause-some c =
    let rest : RestsAs c.args.rule.now c.args.profile.now c.in_ok-latest.latest c.in-Some.clusters.items = rw c.in-Some.is at c.in_ok-found.ensures.rest in
    subst (All (λ (part : List Cell). part ≢ [])) (sym c.as_slice.ensures.value) (λ k d low. cluster_some c.in_ok-latest.latest _ (rest.parts.each k d low))

pub of_clusters-requires-clause-near : goal.of_clusters-requires-clause-near
of_clusters-requires-clause-near c =
    let rest : RestsAs c.args.rule.now c.args.profile.now c.in_ok-latest.latest c.in-Some.clusters.items = rw c.in-Some.is at c.in_ok-found.ensures.rest in
    subst (All (λ (part : List Cell). lies_within survey_reach part ≡ true)) (sym c.as_slice.ensures.value)
    (λ k d low. cluster_within survey_reach c.in_ok-latest.latest _ (ap (lies_within survey_reach) c.in_ok-latest.ensures ∙ c.requires.near)
    (rest.parts.each k d low))

pub of_clusters-requires-clause-recurs : goal.of_clusters-requires-clause-recurs
of_clusters-requires-clause-recurs c =
    let rest : RestsAs c.args.rule.now c.args.profile.now c.in_ok-latest.latest c.in-Some.clusters.items = rw c.in-Some.is at c.in_ok-found.ensures.rest in
    subst (λ (p : ℕ). All (RecursWithin c.args.rule.now p) c.as_slice.result.now) (sym c.period.ensures.period)
    (subst (All (RecursWithin c.args.rule.now c.args.profile.now.period)) (sym c.as_slice.ensures.value) rest.back)

pub of_clusters-requires-clause-least : goal.of_clusters-requires-clause-least
of_clusters-requires-clause-least c = subst (λ n. 1 ≤ n) (sym c.period.ensures.period) c.period.ensures.profile.some

pub of_clusters-requires-clause-most : goal.of_clusters-requires-clause-most
of_clusters-requires-clause-most c = subst (λ n. n ≤ 64) (sym c.period.ensures.period) c.period.ensures.profile.period

pub returns-clause-settled : goal.returns-clause-settled
returns-clause-settled c =
    let objects = c.in_ok-objects.objects in
    let clusters = c.in-Some.clusters.items in
    let rest : RestsAs c.args.rule.now c.args.profile.now c.in_ok-latest.latest clusters = rw c.in-Some.is at c.in_ok-found.ensures.rest in
    let counted : AreObjectsOf c.args.rule.now c.args.profile.now.period clusters objects =
    subst (λ (p : ℕ). AreObjectsOf c.args.rule.now p clusters objects) c.period.ensures.period
    (subst (λ (parts : List (List Cell)). AreObjectsOf c.args.rule.now c.period.result parts objects) c.as_slice.ensures.value
    c.in_ok-objects.ensures.objects) in
    let marked : IsTrue c.stay_for_good-for_good.result ↔ StayForGood c.args.profile.now.horizon objects =
    subst (λ (h : ℕ). IsTrue c.stay_for_good-for_good.result ↔ StayForGood h objects) c.horizon.ensures.horizon c.stay_for_good-for_good.ensures in
    let law = marks_match c.args.rule.now c.args.profile.now.period c.args.profile.now.horizon clusters objects c.period.ensures.profile.period
    (λ k d low. cluster_some c.in_ok-latest.latest _ (rest.parts.each k d low)) counted in (
      refl,
      record {
        clusters = clusters;
        rest = subst (λ (S : List Cell). RestsAs c.args.rule.now c.args.profile.now S clusters) c.in_ok-latest.ensures rest;
        counted = counted;
        good = (λ e. law.0 (marked.0 e), λ stay. marked.1 (law.1 stay));
      },
    )
