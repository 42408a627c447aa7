-- The exit codes.
use Rattle.std.specs.Prelude.{ℕ, Bool, true, false}
use Rattle.pattern_commands.specs.declared.ending.status.Status.{Status}
use Rattle.pattern_commands.specs.declared.ending.status.Status.TheVariants.{Done, Usage, Refused, Memory, Failed, Incomplete}

-- the exit code of a status
abbrev pub exit_code : Status → ℕ
exit_code Done = 0
exit_code Usage = 2
exit_code Refused = 3
exit_code Memory = 4
exit_code Failed = 5
exit_code Incomplete = 6

-- a command that ends with this status has printed its whole text, perhaps with soups missing
abbrev pub has_printed : Status → Bool
has_printed Done = true
has_printed Incomplete = true
has_printed status = false
