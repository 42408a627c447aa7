use Rattle.std.proofs.Common.{ℕ, List, ◌∙◌, ◌++◌, ◌∷◌, [], ap, sym}
use Rattle.std.proofs.lemmas.List.{map_push}
use Rattle.haul_core.specs.RowSteps.{row_from}
use Rattle.haul_core.specs.declared.book.census_rows.Row.{Row}
use Rattle.haul_core.specs.declared.book.scores.Score.{Score}
use Rattle.haul_core.proofs.book.census_rows.listed.Goals as goal

pub loop-code-init : goal.loop-code-init
loop-code-init c = c.in_ok-rows.ensures.items

pub loop-code-preserved : goal.loop-code-preserved
loop-code-preserved c =
    c.in_ok-push.ensures.items ∙ ap (λ (rows : List Row). rows ++ row_from c.in-Some.code c.in-Some.score ∷ []) c.loop-code.invariant
    ∙ sym (map_push (λ (entry : List ℕ × Score). row_from entry.0 entry.1) c.loop-code.yielded (c.in-Some.code, c.in-Some.score))
