use Rattle.std.proofs.Common.{option_map, string_bytes}
use Rattle.code_core.specs.Names.{IsLeastOf}
use Rattle.code_core.specs.Least.{Among, IsImageOf}
use Rattle.code_core.proofs.name.least_text.Given as goal

abbrev pub invariant-loop-phase : goal.invariant-loop-phase
invariant-loop-phase l = IsLeastOf (Among (IsImageOf l.phases) l.phase-index) (option_map string_bytes l.least)
