use Rattle.plane_core.specs.windows.RuleLogic.{rule_of}
use Rattle.plane_core.proofs.lemmas.one_sided.FloodedLemmas.{cluster_flooded}
use Rattle.plane_core.proofs.lemmas.one_sided.RulesOutRestLemmas.{ruled_out_by_change, ruled_out_by_divergence}
use Rattle.plane_core.proofs.one_sided.rules_out_rest.rules_out_rest.Goals as goal

pub returns-then-diverges_in_crop : goal.returns-then-diverges_in_crop
returns-then-diverges_in_crop c = λ _.
    ruled_out_by_divergence (rule_of c.args.rule.now) c.args.window.now c.unpacked-rows.result c.flood-whole.new.flood c.args.depth c.args.horizon
    c.args.period c.unpacked-rows.ensures
    (cluster_flooded c.args.window.now c.unpacked-rows.result c.flood-whole.new.flood c.in-Some.spot.row c.in-Some.spot.column c.unpacked-rows.ensures
    (c.flood-whole.ensures c.if-not-whole.false) c.args.depth c.requires) (c.diverges_in_crop.ensures c.if-diverges_in_crop.true)

pub returns : goal.returns
returns c = λ seen.
    ruled_out_by_change (rule_of c.args.rule.now) c.args.window.now c.flood-whole.new.flood c.args.depth c.args.horizon c.args.period
    (cluster_flooded c.args.window.now c.unpacked-rows.result c.flood-whole.new.flood c.in-Some.spot.row c.in-Some.spot.column c.unpacked-rows.ensures
    (c.flood-whole.ensures c.if-not-whole.false) c.args.depth c.requires) (c.never_recurs.ensures seen)
