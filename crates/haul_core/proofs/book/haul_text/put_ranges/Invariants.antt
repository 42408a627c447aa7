use Rattle.std.proofs.Common.{◌≡◌, ◌++◌, List, ℕ, Ok, drop, flat_map}
use Rattle.plane_core.specs.declared.output.WriteError.{WriteError}
use Rattle.plane_core.specs.Outputs.{Writes}
use Rattle.haul_core.specs.HaulTexts.{ended, range_line, range_lines, text_of}
use Rattle.haul_core.proofs.book.haul_text.put_ranges.Given as goal

-- the ranges before the current one have been written
abbrev pub invariant-loop-range : goal.invariant-loop-range
invariant-loop-range g l =
    (prefix : List ℕ) × (text_of (range_lines l.fn.ranges)
    ≡ prefix ++ flat_map (λ range. ended (range_line range)) (drop l.range-index l.ranges))
    × Writes {E = WriteError} g.W.Write.contents l.fn.out l.out (Ok tt) prefix
