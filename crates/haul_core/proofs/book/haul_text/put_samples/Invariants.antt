use Rattle.haul_core.specs.HaulTexts.{ended, sample_line, sample_lines, text_of}
use Rattle.haul_core.proofs.TextLemmas.{HasWritten}
use Rattle.haul_core.proofs.book.haul_text.put_samples.Given as goal

-- the title and the rows before the current one have been written
abbrev pub invariant-loop-row : goal.invariant-loop-row
invariant-loop-row g l =
    HasWritten g.W.Write.contents l.fn.out l.out (λ row. ended (sample_line row)) l.rows l.row-index (text_of (sample_lines l.fn.rows))
