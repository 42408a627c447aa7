use Rattle.std.proofs.Common.{◌≡◌, flat_map, take}
use Rattle.plane_core.specs.engine.Boards.{Running}
use Rattle.pattern_commands.specs.SizeSteps.{pattern_size}
use Rattle.pattern_commands.proofs.sizes.parts.size_together.Given as goal

-- `together` is the size of the pattern that the boards before the current one show together
abbrev pub invariant-loop-board : goal.invariant-loop-board
invariant-loop-board l = l.together ≡ pattern_size (flat_map (λ (part : Running). part.cells) (take l.board-index l.boards))
