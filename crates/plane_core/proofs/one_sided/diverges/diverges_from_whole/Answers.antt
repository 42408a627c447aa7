use Rattle.std.proofs.Common.{◌+◌, ◌≡◌, ℕ, arith, subst}
use Rattle.plane_core.specs.windows.RuleLogic.{rule_of}
use Rattle.plane_core.specs.one_sided.RestlessClusters.{HasDivergingCell}
use Rattle.plane_core.proofs.lemmas.one_sided.DivergesLemmas.{made_more, made_none, diverging_seen}
use Rattle.plane_core.proofs.one_sided.diverges.diverges_from_whole.Goals as goal

pub loop-made-init : goal.loop-made-init
loop-made-init g c = made_none (rule_of c.args.rule.now) g.row.N c.args.whole.now c.args.alone.now

pub loop-made-preserved : goal.loop-made-preserved
loop-made-preserved g c =
    made_more (rule_of c.args.rule.now) g.row.N c.args.whole.now c.args.alone.now c.loop-made.whole c.loop-made.alone c.generation.new.window
    c.generation-in-loop-made.new.window c.loop-made.made c.loop-made.invariant c.generation.ensures c.generation-in-loop-made.ensures

pub returns-then-has_diverging_cell : goal.returns-then-has_diverging_cell
returns-then-has_diverging_cell g c = λ _.
    let deep : c.args.depth + 1 + c.loop-made.made ≡ c.args.depth + (c.loop-made.made + 1) = omega arith in
    let found = subst (λ (d : ℕ). HasDivergingCell g.row.N c.generation.new.window c.generation-in-loop-made.new.window d) deep (c.has_diverging_cell.ensures c.if-has_diverging_cell.true) in
    let more = made_more (rule_of c.args.rule.now) g.row.N c.args.whole.now c.args.alone.now c.loop-made.whole c.loop-made.alone
    c.generation.new.window c.generation-in-loop-made.new.window c.loop-made.made c.loop-made.invariant
    c.generation.ensures c.generation-in-loop-made.ensures in
    diverging_seen (rule_of c.args.rule.now) g.row.N c.args.whole.now c.args.alone.now c.generation.new.window
    c.generation-in-loop-made.new.window c.args.depth (c.loop-made.made + 1) c.args.most more (omega arith) found
