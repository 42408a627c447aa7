use Rattle.std.proofs.Common.{◌≡◌, ◌++◌, List, ℕ, Ok, drop, flat_map}
use Rattle.plane_core.specs.declared.output.WriteError.{WriteError}
use Rattle.plane_core.specs.Outputs.{Writes}
use Rattle.haul_core.specs.HaulTexts.{spaced}
use Rattle.haul_core.proofs.book.haul_text.put_line.Given as goal

-- the name and the numbers before the current one have been written
abbrev pub invariant-loop-number : goal.invariant-loop-number
invariant-loop-number g l =
    (prefix : List ℕ) × (l.name ++ flat_map (λ n. spaced (g.N.Integer.text n)) l.fn.numbers
    ≡ prefix ++ flat_map (λ n. spaced (g.N.Integer.text n)) (drop l.number-index l.numbers))
    × Writes {E = WriteError} g.W.Write.contents l.fn.out l.out (Ok tt) prefix
