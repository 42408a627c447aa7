use Rattle.std.proofs.Common.{◌≡◌, ◌++◌, List, ℕ, Ok, drop, flat_map}
use Rattle.plane_core.specs.declared.output.WriteError.{WriteError}
use Rattle.plane_core.specs.Outputs.{Writes}
use Rattle.pattern_commands.specs.Name.{object_line}
use Rattle.pattern_commands.proofs.name.put_objects.Given as goal

-- the lines of the objects before the current one have been written
abbrev pub invariant-loop-object : goal.invariant-loop-object
invariant-loop-object g l =
    (prefix : List ℕ) × (flat_map object_line l.fn.objects ≡ prefix ++ flat_map object_line (drop l.object-index l.objects))
    × Writes {E = WriteError} g.W.Write.contents l.fn.output l.output (Ok tt) prefix
