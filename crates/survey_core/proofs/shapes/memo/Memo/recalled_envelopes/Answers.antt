use Rattle.std.proofs.Common.{◌≤◌, ap, arith, length, rules}
use Rattle.survey_core.proofs.lemmas.shapes.EnvelopeLemmas.{envelopes_more, few_envelopes, first_envelopes}
use Rattle.survey_core.proofs.shapes.memo.Memo.recalled_envelopes.Goals as goal

pub loop-pattern-init : goal.loop-pattern-init
loop-pattern-init c = record {
  count = ap length c.in_ok-envelopes.ensures.items;
  each = λ i d e low. absurd (omega arith);
}

-- an iteration adds one more envelope
pub loop-pattern-preserved : goal.loop-pattern-preserved
loop-pattern-preserved c =
    envelopes_more c.args.rule.now c.args.limit c.args.patterns.now c.loop-pattern.pattern-index c.pattern-item.result c.loop-pattern.envelopes.items
    c.in-Some.envelope c.push.new.self.items c.loop-pattern-test.true c.pattern-item.is c.loop-pattern.invariant c.in-Some.ensures c.in_ok-push.ensures.items

-- the case of a pattern that isn't remembered
pub returns-in_default-clause-few : goal.returns-in_default-clause-few
returns-in_default-clause-few c =
    few_envelopes c.args.rule.now c.args.limit c.args.patterns.now c.loop-pattern.pattern-index c.loop-pattern.envelopes.items
    (omega (arith, c.loop-pattern-test.true)) c.loop-pattern.invariant

pub returns-in_default-clause-envelopes : goal.returns-in_default-clause-envelopes
returns-in_default-clause-envelopes c =
    first_envelopes c.args.rule.now c.args.limit c.args.patterns.now c.loop-pattern.pattern-index c.loop-pattern.envelopes.items
    (omega (arith, c.loop-pattern-test.true)) c.loop-pattern.invariant

pub returns-clause-few : goal.returns-clause-few
returns-clause-few c =
    let all : c.loop-pattern.pattern-index ≤ length c.args.patterns.now = search rules in
    few_envelopes c.args.rule.now c.args.limit c.args.patterns.now c.loop-pattern.pattern-index c.loop-pattern.envelopes.items all c.loop-pattern.invariant

pub returns-clause-envelopes : goal.returns-clause-envelopes
returns-clause-envelopes c =
    let all : c.loop-pattern.pattern-index ≤ length c.args.patterns.now = search rules in
    first_envelopes c.args.rule.now c.args.limit c.args.patterns.now c.loop-pattern.pattern-index c.loop-pattern.envelopes.items all c.loop-pattern.invariant
