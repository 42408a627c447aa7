use Rattle.survey_core.proofs.lemmas.shapes.MarkLemmas.{marks_match, settled_mark}
use Rattle.laws.proofs.surveys.marks_match_recurrences.Goals as goal

pub returns-clause-codes : goal.returns-clause-codes
returns-clause-codes c = marks_match

pub returns-clause-mark : goal.returns-clause-mark
returns-clause-mark c rule profile cells t objects good low finding = settled_mark rule profile _ objects good low finding.2
