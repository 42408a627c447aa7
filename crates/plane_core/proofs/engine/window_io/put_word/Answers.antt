use Rattle.std.proofs.Common.{ℕ, get_or, ap, ◌∙◌}
use Rattle.std.specs.Int.{bit_at}
use Rattle.std.proofs.lemmas.List.{get_or-set_other, get_or-set_same}
use Rattle.plane_core.proofs.lemmas.windows.WordLemmas.{choice_bit}
use Rattle.plane_core.proofs.engine.window_io.put_word.Goals as goal

pub returns-clause-at : goal.returns-clause-at
returns-clause-at c b =
    ap (λ (w : ℕ). bit_at w b) (get_or-set_same c.args.words.now c.args.i _ 0 c.requires)
    ∙ choice_bit c.args.mask c.args.value (get_or c.args.words.now c.args.i 0) b

pub returns-clause-others : goal.returns-clause-others
returns-clause-others c m apart = get_or-set_other c.args.words.now c.args.i m _ 0 apart
