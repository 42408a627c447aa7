use Rattle.std.proofs.Common.{subst}
use Rattle.survey_core.specs.shapes.Memos.{Fact, IsAbout}
use Rattle.survey_core.proofs.lemmas.shapes.MemoLemmas.{same_rules}
use Rattle.survey_core.proofs.shapes.memo.Memo.recalled.Goals as goal

pub returns : goal.returns
returns c =
    subst (λ (fact : Fact). IsAbout c.args.rule.now c.args.limit c.args.pattern.now c.in-Some.shift fact) c.known.view_is (record {
      rule_is = same_rules c.known.inside.rule c.args.rule.now c.ne.result c.ne.ensures c.if-ne.false;
      limit_is = c.if-known-limit.false;
      shape_is = c.in-Some.ensures.some;
    })
