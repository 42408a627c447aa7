use Rattle.std.proofs.Common.{◌≡◌, ◌∙◌, ◌≤◌, ◌-◌, ◌*◌, ◌++◌, [], ◌∷◌, List, ap, arith, drop, length, subst, sym, take}
use Rattle.plane_core.specs.declared.plane.cell.Cell.{Cell}
use Rattle.plane_core.specs.engine.Boards.{Running}
use Rattle.pattern_commands.specs.SizeSteps.{IsGap, RunApart}
use Rattle.pattern_commands.proofs.SizePartLemmas.{gap_first, is_pattern-part, no_parts, one_part_more}
use Rattle.pattern_commands.proofs.sizes.parts.boards_for.Goals as goal

pub loop-from-init : goal.loop-from-init
loop-from-init c = record {
  within = omega arith;
  gap = gap_first c.args.pattern.now (2 * c.args.generations);
  apart = subst (λ (parts : List Running). RunApart c.args.rule.now [] c.args.generations parts) (sym c.new-boards.ensures.items)
      (no_parts c.args.rule.now c.args.generations);
}

pub board_for-requires : goal.board_for-requires
board_for-requires c =
    let i = c.loop-from.from in
    rw c.cells-cells.ensures.cells (is_pattern-part c.args.pattern.now i (c.part_end-end.result - i) c.cells-cells.ensures.pattern)

pub loop-from-preserved : goal.loop-from-preserved
loop-from-preserved c =
    let i = c.loop-from.from in
    let j = c.part_end-end.result in
    let n = c.args.generations in
    let same = c.cells-cells.ensures.cells in
    let new = c.push.new.self.items in
    let made = rw c.in-Some.is at c.in_ok-board.ensures in
    record {
      within = subst (λ (S : List Cell). j ≤ length S) same c.part_end-end.ensures.within;
      gap = subst (λ (S : List Cell). IsGap (2 * n) S j) same c.part_end-end.ensures.gap;
      apart = one_part_more c.args.rule.now c.args.pattern.now i j n c.loop-from.boards.items new c.cells-cells.ensures.pattern.in_order
          c.part_end-end.ensures.later c.loop-from.invariant.gap c.loop-from.invariant.apart
          (subst (λ (S : List Cell). new ≡ c.loop-from.boards.items ++ record { rule = c.args.rule.now; cells = take (j - i) (drop i S) } ∷ []) same
          (c.in_ok-push.ensures.items ∙ ap (λ (board : Running). c.loop-from.boards.items ++ board ∷ []) made));
    }
