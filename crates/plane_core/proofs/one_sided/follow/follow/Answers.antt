use Rattle.std.proofs.Common.{◌+◌, ℕ, List, arith, subst, sym}
use Rattle.plane_core.specs.windows.RuleLogic.{rule_of}
use Rattle.plane_core.proofs.lemmas.one_sided.AgainLemmas.{IsChanging, changing_ends, changing_keeps, changing_more, changing_start, new-fewer}
use Rattle.plane_core.proofs.one_sided.follow.follow.Goals.{then-age-eq1, else-age-eq1}
use Rattle.plane_core.proofs.one_sided.follow.follow.Goals as goal

pub loop-age-init : goal.loop-age-init
loop-age-init g c =
    changing_start (rule_of c.args.rule.now) g.row.N c.args.start.now c.args.now.now c.columns_of-columns.result c.args.made c.requires.followed
    c.columns_of-columns.ensures.whole c.columns_of-columns.ensures.columns

pub returns-then-are_alike : goal.returns-then-are_alike
returns-then-are_alike g c = λ cells left top holds.
    let now = changing_more (rule_of c.args.rule.now) g.row.N c.args.start.now c.loop-age.now c.loop-age.kept
    c.generation.new.window c.loop-age.columns
    c.columns_of-columns-in-loop-age.result c.loop-age.age c.may_be_again.result c.requires.some c.loop-age.invariant
    (c.is_rim_clear.ensures c.if-not-is_rim_clear.false) c.generation.ensures c.columns_of-columns-in-loop-age.ensures.whole c.columns_of-columns-in-loop-age.ensures.columns
    c.may_be_again.ensures c.if-may_be_again.false in
    let old = c.loop-age.invariant.earlier in
    changing_ends (rule_of c.args.rule.now) g.row.N left top c.args.start.now c.generation.new.window c.loop-age.kept
    c.columns_of-columns-in-loop-age.result c.loop-age.age
    c.args.most cells now old.0 old.1 old.2 (c.are_alike.ensures c.if-are_alike.true) holds

pub loop-age-preserved : goal.loop-age-preserved
loop-age-preserved g c =
    let rule = rule_of c.args.rule.now in
    let now = changing_more rule g.row.N c.args.start.now c.loop-age.now c.loop-age.kept c.generation.new.window c.loop-age.columns
    c.columns_of-columns-in-loop-age.result c.loop-age.age c.may_be_again.result c.requires.some c.loop-age.invariant
    (c.is_rim_clear.ensures c.if-not-is_rim_clear.false) c.generation.ensures c.columns_of-columns-in-loop-age.ensures.whole c.columns_of-columns-in-loop-age.ensures.columns
    c.may_be_again.ensures c.if-may_be_again.false in
    let n = c.loop-age.age + 1 in
    elim c.if-age-eq1.branch [
      | then-age-eq1 w ↦
          subst (λ (kept : List (List ℕ)). IsChanging rule g.row.N c.args.start.now c.generation.new.window kept c.columns_of-columns-in-loop-age.result n) (sym w.kept-is)
          (changing_keeps rule g.row.N c.args.start.now c.generation.new.window c.loop-age.kept c.columns_of-columns-in-loop-age.result n now)
      | else-age-eq1 w ↦
          subst (λ (kept : List (List ℕ)). IsChanging rule g.row.N c.args.start.now c.generation.new.window kept
          c.columns_of-columns-in-loop-age.result n) (sym w.kept-is) now
    ]

pub returns : goal.returns
returns g c = λ cells left top holds.
    new-fewer (rule_of c.args.rule.now) cells c.loop-age.age c.args.most (omega (arith, c.loop-age-test.false))
    (c.loop-age.invariant.followed.new cells left top holds)
