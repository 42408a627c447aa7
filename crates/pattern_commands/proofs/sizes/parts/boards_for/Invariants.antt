use Rattle.std.proofs.Common.{◌-◌, ◌*◌, ◌≤◌, length, take}
use Rattle.pattern_commands.specs.SizeSteps.{IsGap, RunApart}
use Rattle.pattern_commands.proofs.sizes.parts.boards_for.Given as goal

-- the boards hold the parts of the pattern before place `from`, and there is a gap before `from`
abbrev pub invariant-loop-from : goal.invariant-loop-from
invariant-loop-from l = record {
  within : l.from ≤ length l.pattern;
  gap : IsGap (2 * l.generations) l.pattern l.from;
  apart : RunApart l.rule (take l.from l.pattern) l.generations l.boards.items;
}

abbrev pub decreases-loop-from : goal.decreases-loop-from
decreases-loop-from l = length l.pattern - l.from
