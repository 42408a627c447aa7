-- The gaps of a pattern's tokens are whole: each is followed by a column with a live cell.
use Rattle.std.proofs.Common.{ℕ, zero, suc, ◌+◌, ◌/◌, List, [], ◌∷◌, ◌++◌, map}
use Rattle.std.specs.List.{AllByRecursion, range_with_len}
use Rattle.plane_core.specs.declared.plane.cell.Cell.{Cell}
use Rattle.code_core.specs.declared.reader.Token.{Token}
use Rattle.code_core.specs.declared.reader.Token.TheVariants.{Column, Gap, NextStrip}
use Rattle.code_core.specs.Texts.{BeginsWithColumn, GapsAreWhole, before, joined_strips, strip, strip_tokens, tokens_of}

-- the gaps are whole, and the tokens are of a single strip
abbrev IsWholeStrip : List Token → Type 0
IsWholeStrip [] = Unit {0}
IsWholeStrip (Gap n ∷ tokens) = BeginsWithColumn tokens × IsWholeStrip tokens
IsWholeStrip (Column value ∷ tokens) = IsWholeStrip tokens
IsWholeStrip (NextStrip ∷ tokens) = ⊥

whole-before : (value : ℕ) (tokens : List Token) → IsWholeStrip tokens → IsWholeStrip (before value tokens)
whole-before zero [] whole = tt
whole-before zero (Gap n ∷ tokens) whole = whole
whole-before zero (Column value ∷ tokens) whole = (tt, whole)
whole-before zero (NextStrip ∷ tokens) whole = absurd whole
whole-before (suc value) tokens whole = whole

whole-strip : (values : List ℕ) → IsWholeStrip (strip_tokens values)
unfolding strip_tokens
whole-strip [] = tt
whole-strip (value ∷ values) = whole-before value (strip_tokens values) (whole-strip values)

begins-longer : (tokens more : List Token) → BeginsWithColumn tokens → BeginsWithColumn (tokens ++ more)
begins-longer [] more begins = absurd begins
begins-longer (Gap n ∷ tokens) more begins = absurd begins
begins-longer (Column value ∷ tokens) more begins = tt
begins-longer (NextStrip ∷ tokens) more begins = absurd begins

whole-then : (tokens more : List Token) → IsWholeStrip tokens → GapsAreWhole more → GapsAreWhole (tokens ++ NextStrip ∷ more)
whole-then [] more one others = others
whole-then (Gap n ∷ tokens) more one others = (begins-longer tokens (NextStrip ∷ more) one.0, whole-then tokens more one.1 others)
whole-then (Column value ∷ tokens) more one others = whole-then tokens more one others
whole-then (NextStrip ∷ tokens) more one others = absurd one

whole-alone : (tokens : List Token) → IsWholeStrip tokens → GapsAreWhole tokens
whole-alone [] one = tt
whole-alone (Gap n ∷ tokens) one = (one.0, whole-alone tokens one.1)
whole-alone (Column value ∷ tokens) one = whole-alone tokens one
whole-alone (NextStrip ∷ tokens) one = absurd one

whole-joined : (strips : List (List Token)) → AllByRecursion IsWholeStrip strips → GapsAreWhole (joined_strips strips)
whole-joined [] all = tt
whole-joined (tokens ∷ []) all = whole-alone tokens all.0
whole-joined (tokens ∷ more ∷ strips) all = whole-then tokens (joined_strips (more ∷ strips)) all.0 (whole-joined (more ∷ strips) all.1)

whole-each : (cells : List Cell) (width : ℕ) (ks : List ℕ) → AllByRecursion IsWholeStrip (map (λ k. strip_tokens (strip cells width k)) ks)
whole-each cells width [] = tt
whole-each cells width (k ∷ ks) = (whole-strip (strip cells width k), whole-each cells width ks)

pub tokens_of-whole : (cells : List Cell) (right bottom : ℕ) → GapsAreWhole (tokens_of cells right bottom)
unfolding tokens_of
tokens_of-whole cells right bottom =
    whole-joined (map (λ k. strip_tokens (strip cells (right + 1) k)) (range_with_len 0 (bottom / 5 + 1)))
    (whole-each cells (right + 1) (range_with_len 0 (bottom / 5 + 1)))
