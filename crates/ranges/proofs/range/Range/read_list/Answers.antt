use Rattle.std.proofs.Common.{◌∙◌, sym}
use Rattle.ranges.proofs.ListLemmas.{one_list}
use Rattle.ranges.proofs.range.Range.read_list.Goals as goal

pub returns-clause-complete : goal.returns-clause-complete
returns-clause-complete c = λ ranges fit s.
    one_list c.in_ok-ranges.ranges.items ranges c.in_ok-ranges.ensures.fit fit (c.in_ok-ranges.ensures.text ∙ c.as_bytes-text.ensures.value ∙ sym s)
