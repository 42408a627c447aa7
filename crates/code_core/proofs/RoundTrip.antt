-- The text of a pattern is read as the pattern, moved to the corner.
use Rattle.std.proofs.Common.{◌≡◌, ◌∙◌, ap, refl, ℕ, ◌≤◌, false, List, [], ◌∷◌, Some, Ok, arith, length, nat_lt, le-ltb}
use Rattle.plane_core.specs.declared.plane.cell.Cell.{Cell}
use Rattle.plane_core.specs.plane.Bounds.{at_corner}
use Rattle.code_core.specs.Reading.{pattern_of_tokens, unless_empty, wechsler_pattern, wechsler_read}
use Rattle.code_core.specs.ReadingFaults.{TextsAreRead}
use Rattle.code_core.specs.Texts.{text}
use Rattle.code_core.proofs.TokenReading.{tokens_at-Spells}
use Rattle.code_core.proofs.TextLaw.{texts_have_their_shape, texts_spell_patterns}

-- a pattern with a text has a cell
not_empty : (cells : List Cell) (t : List ℕ) → text cells ≡ Some t → unless_empty (at_corner cells) ≡ Ok (at_corner cells)
unfolding text
not_empty [] t is = absurd cc
not_empty (c ∷ cs) t is = refl

-- a text that isn't too long is read as its pattern or its fault
looked_at : (t : List ℕ) → length t ≤ 10000 → wechsler_read t ≡ wechsler_pattern t
looked_at t short = let low : nat_lt 10000 (length t) ≡ false = le-ltb 10000 (length t) short in rw low refl

pub texts_are_read : TextsAreRead
texts_are_read cells t order is =
    let spelled = texts_spell_patterns cells t order is in
    looked_at t (omega (arith, (texts_have_their_shape cells t is).short))
    ∙ ap pattern_of_tokens (tokens_at-Spells spelled.0 t 0 spelled.1)
    ∙ ap unless_empty spelled.3
    ∙ not_empty cells t is
