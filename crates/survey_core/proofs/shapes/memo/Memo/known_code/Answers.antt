use Rattle.std.proofs.Common.{ap, subst, sym}
use Rattle.code_core.specs.Names.{IsCode}
use Rattle.survey_core.specs.shapes.Memos.{Fact, IsKnown}
use Rattle.survey_core.proofs.lemmas.shapes.MemoLemmas.{code_known}
use Rattle.survey_core.proofs.shapes.memo.Memo.known_code.Goals as goal

pub returns : goal.returns
returns c =
    subst (IsCode c.args.rule.now c.args.pattern.now c.args.limit) (sym (ap (λ (fact : Fact). fact.code) c.known.view_is))
    (code_known c.args.rule.now c.args.limit c.args.pattern.now c.in-Some.field-0-1 c.in-Some.known.now
    (subst IsKnown c.known.view_is c.known.invariant) c.in-Some.ensures)
