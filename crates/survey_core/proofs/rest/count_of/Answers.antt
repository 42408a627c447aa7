use Rattle.std.proofs.Common.{◌==◌, ◌∙◌, ap, ℕ, List, filter, length}
use Rattle.std.proofs.lemmas.List.{take_all}
use Rattle.survey_core.proofs.rest.count_of.Goals as goal

pub returns : goal.returns
returns c = c.loop-group.invariant.is
    ∙ ap (λ (groups : List ℕ). length (filter (λ (group : ℕ). group == c.args.number) groups))
    (take_all c.loop-group.group-index c.args.groups.now c.loop-group-test.false)
