use Rattle.std.proofs.Common.{arith}
use Rattle.std.proofs.lemmas.Grind.{common_steps}
use Rattle.code_core.specs.Columns.{column}
use Rattle.code_core.proofs.wechsler.column.Goals as goal

pub returns-clause-value : goal.returns-clause-value
unfolding column
returns-clause-value c = λ cells boxed.
    let a = c.one_at.ensures.value cells boxed in
    let b = c.one_at-2.ensures.value cells boxed in
    let d = c.one_at-3.ensures.value cells boxed in
    let e = c.one_at-4.ensures.value cells boxed in
    let f = c.one_at-5.ensures.value cells boxed in
    grind (arith, common_steps, a, b, d, e, f)
