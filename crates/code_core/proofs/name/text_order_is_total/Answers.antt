use Rattle.code_core.proofs.LeastLemmas.{text_cmp_total}
use Rattle.code_core.proofs.CodeLaws.{texts_tie}
use Rattle.code_core.proofs.name.text_order_is_total.Goals as goal

pub returns-clause-total : goal.returns-clause-total
returns-clause-total c = text_cmp_total

pub returns-clause-ties : goal.returns-clause-ties
returns-clause-ties c = texts_tie
