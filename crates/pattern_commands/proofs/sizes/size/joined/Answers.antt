use Rattle.std.proofs.Common.{◌∙◌, Some, ap, sym}
use Rattle.pattern_commands.proofs.SizeLemmas.{box_together, joined_box, round_both}
use Rattle.pattern_commands.proofs.sizes.size.joined.Goals as goal

pub returns-in-None : goal.returns-in-None
returns-in-None c cells others is so =
    ap (λ o. joined_box o c.args.other) (sym c.in-None.is) ∙ box_together c.args.one c.args.other cells others is so

pub returns-in-None-other : goal.returns-in-None-other
returns-in-None-other c cells others is so =
    (λ i. joined_box (sym c.in-Some.is i) (sym c.in-None-other.is i)) ∙ box_together c.args.one c.args.other cells others is so

pub returns-in-Some-other : goal.returns-in-Some-other
returns-in-Some-other c cells others is so =
    ap Some (round_both c.in-Some.one c.in-Some-other.other c.joined.result c.joined.ensures.least)
    ∙ (λ i. joined_box (sym c.in-Some.is i) (sym c.in-Some-other.is i)) ∙ box_together c.args.one c.args.other cells others is so
