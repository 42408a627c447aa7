use Rattle.haul_core.specs.HaulTexts.{ended, total_line, total_lines, text_of}
use Rattle.haul_core.proofs.TextLemmas.{HasWritten}
use Rattle.haul_core.proofs.book.haul_text.put_totals.Given as goal

-- the title and the rows before the current one have been written
abbrev pub invariant-loop-row : goal.invariant-loop-row
invariant-loop-row g l =
    HasWritten g.W.Write.contents l.fn.out l.out (λ row. ended (total_line row)) l.rows l.row-index (text_of (total_lines l.fn.rows))
