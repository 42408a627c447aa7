use Rattle.code_core.proofs.StripLemmas.{gap_and_column, written_on}
use Rattle.code_core.proofs.wechsler.push_column.Goals as goal

pub returns : goal.returns
returns c = written_on c.push_character.result _ _ _ _ _ _ c.in_ok-push_gap.ensures (gap_and_column c.args.gap c.args.value c.requires.least)
    c.push_character.ensures
