use Rattle.laws.proofs.EndLemmas.{gather_prints_correct_lines}
use Rattle.commands.proofs.CorrectLineLemmas.{gather_takes_correct_lines}
use Rattle.laws.proofs.gathering.gather_takes_correct_lines.Goals as goal

pub returns-clause-tells : goal.returns-clause-tells
returns-clause-tells c = gather_takes_correct_lines

pub returns-clause-prints : goal.returns-clause-prints
returns-clause-prints c = gather_prints_correct_lines
