use Rattle.std.proofs.Common.{option_map, string_bytes}
use Rattle.code_core.specs.Names.{IsLeastOf}
use Rattle.code_core.specs.Least.{Among, IsImageAt}
use Rattle.code_core.proofs.name.least_image.Given as goal

abbrev pub invariant-loop-orientation : goal.invariant-loop-orientation
invariant-loop-orientation l = IsLeastOf (Among (IsImageAt l.orientations l.pattern) l.orientation-index) (option_map string_bytes l.least)
