use Rattle.std.proofs.Common.{◌≡◌, ◌++◌, drop, map, take}
use Rattle.pattern_commands.specs.SizeSteps.{advanced}
use Rattle.pattern_commands.proofs.sizes.parts.advance_each.Given as goal

-- the boards before the current one have been advanced by one generation
abbrev pub invariant-loop-board : goal.invariant-loop-board
invariant-loop-board l = l.boards ≡ map advanced (take l.board-index l.fn.boards) ++ drop l.board-index l.fn.boards
