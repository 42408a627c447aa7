-- Patterns at rest: the empty pattern, and patterns whose objects stay for good.
use Rattle.std.proofs.Common.{◌≡◌, ◌∙◌, ap, sym, refl, subst, ℕ, ◌+◌, ◌*◌, ◌≤◌, List, [], All, arith, add_comm, get_or, true}
use Rattle.std.proofs.lemmas.Bool.{false≢true}
use Rattle.std.proofs.Math.Nat.{mul-mod_left}
use Rattle.plane_core.specs.declared.plane.cell.Cell.{Cell}
use Rattle.plane_core.specs.clusters.Clusters.{Partition}
use Rattle.plane_core.specs.plane.Generations.{after}
use Rattle.plane_core.specs.plane.Rules.{Numbers}
use Rattle.plane_core.proofs.lemmas.clusters.ClusterLaws.{partition_law}
use Rattle.plane_core.proofs.lemmas.plane.GenerationLemmas.{after-none}
use Rattle.code_core.proofs.MovedCodes.{in_order-after}
use Rattle.survey_core.specs.Findings.{IsSettled}
use Rattle.survey_core.specs.rest.Rest.{KeepApart}
use Rattle.survey_core.proofs.lemmas.FindingLemmas.{after-then}
use Rattle.survey_core.proofs.lemmas.rest.ForGoodLemmas.{after-empty, after_remainder, apart_forever, shifted-none, whole_back}
use Rattle.laws.specs.ForGood.{AtRestForGood, EmptyIsAtRest, FindingsForGood, ForGoodComesBack}

pub empty_is_at_rest : EmptyIsAtRest
empty_is_at_rest rule profile = (
  [],
  record {
    parts = record {
      each = λ k d low. absurd (omega arith);
      every = λ c h. absurd (false≢true h);
      in_order = λ i j d lt low. absurd (omega arith);
    };
    back = λ k d low. absurd (omega arith);
    apart = λ g low. subst (λ (cells : List Cell). Partition cells []) (sym (after-empty rule g))
        (record { disjoint = λ i j d lt low. absurd (omega arith); union = λ c. refl });
  },
)

-- a pattern that is unchanged after `p` generations is unchanged after each multiple of `p` generations
after_periods : (rule : Numbers) (cells : List Cell) (p k : ℕ) → after rule cells p ≡ cells → after rule cells (k * p) ≡ cells
after_periods rule cells p k back =
    after_remainder rule cells p (k * p) back ∙ ap (after rule cells) (mul-mod_left k p) ∙ after-none rule cells

pub at_rest_for_good : AtRestForGood
at_rest_for_good rule profile cells clusters order rest good = record {
  apart = apart_forever rule cells clusters good.multiple good.common.some order (partition_law cells clusters rest.parts) each up_to;
  back = λ g. ap (after rule cells) (add_comm g good.multiple) ∙ sym (after-then rule cells good.multiple g)
      ∙ ap (λ (state : List Cell). after rule state g)
      (whole_back rule cells clusters good.multiple good.common.some order (partition_law cells clusters rest.parts) each up_to);
}
  where
    each : All (λ part. after rule part good.multiple ≡ part) clusters
    each k d there =
        let part = get_or clusters k d in
        let placed = good.in_place k d there in
        let multiple = good.common.each k d there placed.0 placed.1 in
        ap (after rule part) multiple.1
        ∙ after_periods rule part placed.0 multiple.0 (placed.1.back ∙ shifted-none part)

    up_to : (g : ℕ) → g ≤ good.multiple → KeepApart rule cells clusters g
    up_to g least = rest.apart g (omega (arith, least, good.within))

pub findings_for_good : FindingsForGood
findings_for_good rule profile cells t objects order finding =
    let settled : IsSettled rule profile (after rule cells t) objects true = finding.2 in
    let good = settled.good.0 refl in
    record {
      clusters = settled.clusters;
      rest = settled.rest;
      good = good;
      forever = at_rest_for_good rule profile (after rule cells t) settled.clusters (in_order-after rule cells t order) settled.rest good;
    }

pub for_good_comes_back : ForGoodComesBack
for_good_comes_back rule profile cells t objects order finding good k = (
  same,
  subst (λ (state : List Cell). IsSettled rule profile state objects true) (sym same) finding.2,
)
  where
    back : after rule (after rule cells t) (0 + good.multiple) ≡ after rule (after rule cells t) 0
    back = (at_rest_for_good rule profile (after rule cells t) finding.2.clusters (in_order-after rule cells t order) finding.2.rest good).back 0

    same : after rule cells (t + k * good.multiple) ≡ after rule cells t
    same =
        sym (after-then rule cells t (k * good.multiple))
        ∙ after_periods rule (after rule cells t) good.multiple k
        (ap (after rule (after rule cells t)) (omega arith) ∙ back ∙ after-none rule (after rule cells t))
