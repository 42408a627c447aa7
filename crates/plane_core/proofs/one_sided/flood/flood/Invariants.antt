use Rattle.std.proofs.Common.{◌≤◌}
use Rattle.plane_core.specs.one_sided.Floods.{HasGrown}
use Rattle.plane_core.proofs.one_sided.flood.flood.Given as goal

abbrev pub invariant-loop : goal.invariant-loop
invariant-loop l = record { first : 2 ≤ l.first; grown : HasGrown l.rows l.initial.flood l.flood }
