use Rattle.std.proofs.Common.{◌≡◌, take, flat_map}
use Rattle.survey_core.specs.rest.Alone.{latest_of}
use Rattle.survey_core.proofs.rest.alone.joined.Given as goal

abbrev pub invariant-loop-alone : goal.invariant-loop-alone
invariant-loop-alone l = l.cells.items ≡ flat_map (λ cells. cells) (latest_of (take l.alone-index l.clusters))
