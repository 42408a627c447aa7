use Rattle.code_core.proofs.TextLaw.{texts_have_their_shape, texts_spell_patterns}
use Rattle.code_core.proofs.wechsler.texts_spell_patterns.Goals as goal

pub returns-clause-spell : goal.returns-clause-spell
returns-clause-spell c = texts_spell_patterns

pub returns-clause-shape : goal.returns-clause-shape
returns-clause-shape c = texts_have_their_shape
