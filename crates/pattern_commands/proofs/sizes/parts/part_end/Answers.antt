use Rattle.std.proofs.Common.{◌-◌, ◌<◌, ℕ, FitsSigned, get_or, rules, subst, w32}
use Rattle.std.proofs.lemmas.Int.{to_z-of_z}
use Rattle.pattern_commands.proofs.SizePartLemmas.{gap_at, origin}
use Rattle.pattern_commands.proofs.sizes.parts.part_end.Goals as goal

pub returns-then-abs_diff-far-clause-gap : goal.returns-then-abs_diff-far-clause-gap
returns-then-abs_diff-far-clause-gap c =
    let i = c.loop-end.end in
    let cells = c.args.cells.now in
    let below : FitsSigned w32 (get_or cells i origin).y = search rules in
    let above : FitsSigned w32 (get_or cells (i - 1) origin).y = search rules in
    let apart = simp to_z-of_z at c.abs_diff.ensures in
    gap_at cells i c.args.far origin c.requires.order (search rules) c.loop-end-test.true
    (subst (λ (n : ℕ). c.args.far < n) apart c.if-abs_diff-far.true)
