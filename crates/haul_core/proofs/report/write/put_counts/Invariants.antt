use Rattle.std.proofs.Common.{◌≡◌, ◌++◌, List, ℕ, Ok, drop}
use Rattle.plane_core.specs.declared.output.WriteError.{WriteError}
use Rattle.plane_core.specs.Outputs.{Writes}
use Rattle.haul_core.proofs.ReportLemmas.{counts_text}
use Rattle.haul_core.proofs.report.write.put_counts.Given as goal

-- the counts before the current one have been written
abbrev pub invariant-loop-object : goal.invariant-loop-object
invariant-loop-object g l =
    (prefix : List ℕ) × (counts_text l.fn.counts ≡ prefix ++ counts_text (drop l.object-index l.counts))
    × Writes {E = WriteError} g.W.Write.contents l.fn.out l.out (Ok tt) prefix
