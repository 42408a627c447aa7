use Rattle.std.proofs.Common.{◌≡◌, ◌∙◌, ap, arith, get_or}
use Rattle.plane_core.specs.plane.Generations.{after}
use Rattle.pattern_commands.proofs.SizePartLemmas.{part_advanced}
use Rattle.pattern_commands.proofs.sizes.parts.advance_each.Goals as goal

pub loop-board-preserved : goal.loop-board-preserved
loop-board-preserved c =
    let item = c.board-item.result in
    let now = get_or c.loop-board.boards c.loop-board.board-index item in
    let most = c.in_ok-made.ensures.most in
    let some = c.if-made-eq0.false in
    let one : c.in_ok-made.made ≡ 1 = omega (arith, most, some) in
    part_advanced c.args.boards.now c.loop-board.boards c.loop-board.board-index item c.advance.new.self c.loop-board-test.true c.loop-board.invariant
    (λ i. record {
      rule = c.in_ok-made.ensures.rule i;
      cells = (c.in_ok-made.ensures.after ∙ ap (after now.rule now.cells) one) i;
    })
