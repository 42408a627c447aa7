-- The tokens of a pattern's text: each token is lawful (`IsToken`), and the text has at most 327 bytes, each of which
-- is a character.
use Rattle.std.proofs.Common.{ℕ, zero, suc, ◌+◌, ◌*◌, ◌-◌, ◌/◌, ◌≤◌, ◌<◌, Bool, true, false, List, [], ◌∷◌, ◌∙◌, ◌≡◌, cond, length, map, get_or}
use Rattle.std.proofs.Common.{refl, arith}
use Rattle.std.specs.List.{All, list_all, range_with_len}
use Rattle.std.proofs.lemmas.Bool.{and_from, ne_eqb}
use Rattle.std.proofs.lemmas.List.{length-append}
use Rattle.std.proofs.lemmas.List.Folds.{list_all-append}
use Rattle.std.proofs.lemmas.List.Elements.{All-nil, All-cons, All-tail, All-append, All-map}
use Rattle.std.proofs.lemmas.List.FromFn.{length-map-range_with_len}
use Rattle.std.proofs.lemmas.Grind.{flat_map-append}
use Rattle.plane_core.specs.declared.plane.cell.Cell.{Cell}
use Rattle.code_core.specs.declared.reader.Token.{Token}
use Rattle.code_core.specs.declared.reader.Token.TheVariants.{Column, Gap, NextStrip}
use Rattle.code_core.specs.Columns.{column, value_of}
use Rattle.code_core.specs.Texts.{HasTextShape, before, joined_strips, strip, strip_tokens, tokens_of}
use Rattle.code_core.specs.Tokens.{IsToken, character, gap_text, is_character, spelling}
use Rattle.code_core.proofs.StripLemmas.{spelled}
use Rattle.code_core.proofs.TokenReading.{is_character-character}

-- ---- each token is lawful

pub one_at_most : (live : Bool) → cond live 1 0 ≤ 1
one_at_most true = omega arith
one_at_most false = omega arith

five_at_most : (a b c d e : Bool) → value_of (a ∷ b ∷ c ∷ d ∷ e ∷ []) ≤ 31
five_at_most a b c d e = omega (arith, one_at_most a, one_at_most b, one_at_most c, one_at_most d, one_at_most e)

pub column_at_most : (cells : List Cell) (k x : ℕ) → column cells k x ≤ 31
unfolding column
column_at_most cells k x = five_at_most _ _ _ _ _

-- the number of columns that the first token accounts for: n + 1 for a gap of n columns, because a column with a live
-- cell follows the gap, and 1 for any other token
abbrev reach : List Token → ℕ
reach [] = 0
reach (Gap n ∷ tokens) = n + 1
reach (Column value ∷ tokens) = 1
reach (NextStrip ∷ tokens) = 1

reach-before : (value : ℕ) (tokens : List Token) (m : ℕ) → reach tokens ≤ m → reach (before value tokens) ≤ suc m
reach-before zero [] m h = omega arith
reach-before zero (Gap n ∷ tokens) m h = omega arith
reach-before zero (Column value ∷ tokens) m h = omega arith
reach-before zero (NextStrip ∷ tokens) m h = omega arith
reach-before (suc value) tokens m h = omega arith

reach-strip : (values : List ℕ) → reach (strip_tokens values) ≤ length values
unfolding strip_tokens
reach-strip [] = omega arith
reach-strip (value ∷ values) = reach-before value (strip_tokens values) (length values) (reach-strip values)

lawful-before : (value : ℕ) (tokens : List Token) → value ≤ 31 → reach (before value tokens) ≤ 40 → All IsToken tokens → All IsToken (before value tokens)
lawful-before zero [] h r all = All-nil IsToken
lawful-before zero (Gap n ∷ tokens) h r all = All-cons IsToken (Gap (n + 1)) tokens (omega arith, omega arith) (All-tail IsToken (Gap n) tokens all)
lawful-before zero (Column value ∷ tokens) h r all = All-cons IsToken (Gap 1) (Column value ∷ tokens) (omega arith, omega arith) all
lawful-before zero (NextStrip ∷ tokens) h r all = All-cons IsToken (Gap 1) (NextStrip ∷ tokens) (omega arith, omega arith) all
lawful-before (suc value) tokens h r all = All-cons IsToken (Column (suc value)) tokens (omega arith, omega arith) all

lawful-strip : (values : List ℕ) → All (λ value. value ≤ 31) values → length values ≤ 40 → All IsToken (strip_tokens values)
unfolding strip_tokens
lawful-strip [] most few = All-nil IsToken
lawful-strip (value ∷ values) most few =
    lawful-before value (strip_tokens values) (most 0 0 (omega arith)) (omega (arith, reach-strip (value ∷ values)))
    (lawful-strip values (All-tail (λ value. value ≤ 31) value values most) (omega arith))

lawful-joined : (strips : List (List Token)) → All (All IsToken) strips → All IsToken (joined_strips strips)
lawful-joined [] all = All-nil IsToken
lawful-joined (tokens ∷ []) all = all 0 [] (omega arith)
lawful-joined (tokens ∷ more ∷ strips) all =
    All-append IsToken tokens (NextStrip ∷ joined_strips (more ∷ strips)) (all 0 [] (omega arith))
    (All-cons IsToken NextStrip (joined_strips (more ∷ strips)) tt (lawful-joined (more ∷ strips) (All-tail (All IsToken) tokens (more ∷ strips) all)))

-- the tokens of a strip that is at most 40 columns wide are lawful
lawful-strip_of : (cells : List Cell) (right k : ℕ) → right < 40 → All IsToken (strip_tokens (strip cells (right + 1) k))
lawful-strip_of cells right k h =
    lawful-strip (strip cells (right + 1) k)
    (All-map (λ value. value ≤ 31) (column cells k) (range_with_len 0 (right + 1)) (λ i d l. column_at_most cells k _))
    (omega (arith, length-map-range_with_len (column cells k) 0 (right + 1)))

pub tokens_of-lawful : (cells : List Cell) (right bottom : ℕ) → right < 40 → All IsToken (tokens_of cells right bottom)
unfolding tokens_of
tokens_of-lawful cells right bottom h =
    let f : ℕ → List Token = λ k. strip_tokens (strip cells (right + 1) k) in
    let strips = range_with_len 0 (bottom / 5 + 1) in
    lawful-joined (map f strips) (All-map (All IsToken) f strips (λ i d l. lawful-strip_of cells right (get_or strips i d) h))

-- ---- the text has at most 327 bytes

-- the text of a gap of 4 columns or more has two bytes
long_gap_text : (n : ℕ) → 4 ≤ n → length (gap_text n) ≡ 2
unfolding gap_text
long_gap_text n low = rw (ne_eqb n 1 (λ e. absurd (omega arith)), ne_eqb n 2 (λ e. absurd (omega arith)), ne_eqb n 3 (λ e. absurd (omega arith))) refl

-- the text of a gap grows by at most one byte if the gap gets one column longer
gap_text_more : (n : ℕ) → length (gap_text (n + 1)) ≤ length (gap_text n) + 1
unfolding gap_text
gap_text_more zero = omega arith
gap_text_more (suc zero) = omega arith
gap_text_more (suc (suc zero)) = omega arith
gap_text_more (suc (suc (suc zero))) = omega arith
gap_text_more (suc (suc (suc (suc n)))) =
    let m : ℕ = suc (suc (suc (suc n))) in
    omega (arith, long_gap_text m (omega arith), long_gap_text (m + 1) (omega arith))

length-before : (value : ℕ) (tokens : List Token) → length (spelled (before value tokens)) ≤ length (spelled tokens) + 1
unfolding gap_text
length-before zero [] = omega arith
length-before zero (Gap n ∷ tokens) = simp length-append (omega (arith, gap_text_more n))
length-before zero (Column value ∷ tokens) = omega arith
length-before zero (NextStrip ∷ tokens) = omega arith
length-before (suc value) tokens = omega arith

-- the text of a strip has at most one byte per column
length-strip : (values : List ℕ) → length (spelled (strip_tokens values)) ≤ length values
unfolding strip_tokens
length-strip [] = omega arith
length-strip (value ∷ values) = omega (arith, length-before value (strip_tokens values), length-strip values)

length-strip_of : (cells : List Cell) (right k : ℕ) → right < 40 → length (spelled (strip_tokens (strip cells (right + 1) k))) ≤ 40
length-strip_of cells right k h = omega (arith, length-strip (strip cells (right + 1) k), length-map-range_with_len (column cells k) 0 (right + 1))

-- if the text of each strip has at most 40 bytes, the text of all strips has at most 40 bytes for each strip, and one
-- byte between each strip and the next
length-joined : (tokens : List Token) (strips : List (List Token)) → All (λ tokens. length (spelled tokens) ≤ 40) (tokens ∷ strips)
    → length (spelled (joined_strips (tokens ∷ strips))) ≤ 41 * length strips + 40
length-joined tokens [] all = let h = all 0 [] (omega arith) in omega arith
length-joined tokens (more ∷ strips) all =
    let h = all 0 [] (omega arith) in
    let remainder = length-joined more strips (All-tail (λ tokens. length (spelled tokens) ≤ 40) tokens (more ∷ strips) all) in
    rw (flat_map-append spelling tokens (NextStrip ∷ joined_strips (more ∷ strips)), length-append) (omega arith)

-- if the text of each strip has at most 40 bytes, the text of at most eight strips has at most 327 bytes
few_strips : (strips : List (List Token)) → All (λ tokens. length (spelled tokens) ≤ 40) strips → length strips ≤ 8 → length (spelled (joined_strips strips)) ≤ 327
few_strips [] all few = omega arith
few_strips (tokens ∷ strips) all few = omega (arith, length-joined tokens strips all)

tokens_of-short : (cells : List Cell) (right bottom : ℕ) → right < 40 → bottom < 40 → length (spelled (tokens_of cells right bottom)) ≤ 327
unfolding tokens_of
tokens_of-short cells right bottom h k =
    let f : ℕ → List Token = λ k. strip_tokens (strip cells (right + 1) k) in
    let strips = range_with_len 0 (bottom / 5 + 1) in
    let each = All-map (λ tokens. length (spelled tokens) ≤ 40) f strips (λ i d l. length-strip_of cells right (get_or strips i d) h) in
    few_strips (map f strips) each (omega (arith, length-map-range_with_len f 0 (bottom / 5 + 1)))

-- ---- all bytes of the text are characters

is_y : is_character 121 ≡ true
unfolding is_character
is_y = refl

value_character : (v : ℕ) → v ≤ 35 → list_all is_character (character v ∷ []) ≡ true
value_character v h = rw (is_character-character v h) refl

long_characters : (n : ℕ) → 4 ≤ n → n ≤ 39 → list_all is_character (gap_text n) ≡ true
unfolding gap_text
long_characters n low high =
    rw (
      ne_eqb n 1 (λ e. absurd (omega arith)),
      ne_eqb n 2 (λ e. absurd (omega arith)),
      ne_eqb n 3 (λ e. absurd (omega arith)),
      is_y,
      is_character-character (n - 4) (omega arith),
    ) refl

characters_of : (token : Token) → IsToken token → list_all is_character (spelling token) ≡ true
unfolding gap_text is_character
characters_of (Column value) h = value_character value (omega (arith, h.1))
characters_of (Gap zero) h = absurd (omega (arith, h.0))
characters_of (Gap (suc zero)) h = refl
characters_of (Gap (suc (suc zero))) h = refl
characters_of (Gap (suc (suc (suc zero)))) h = refl
characters_of (Gap (suc (suc (suc (suc n))))) h = long_characters (suc (suc (suc (suc n)))) (omega arith) h.1
characters_of NextStrip h = refl

characters_of_all : (tokens : List Token) → All IsToken tokens → list_all is_character (spelled tokens) ≡ true
characters_of_all [] all = refl
characters_of_all (token ∷ tokens) all =
    list_all-append is_character (spelling token) (spelled tokens)
    ∙ and_from _ _ (characters_of token (all 0 token (omega arith))) (characters_of_all tokens (All-tail IsToken token tokens all))

pub tokens_of-shape : (cells : List Cell) (right bottom : ℕ) → right < 40 → bottom < 40 → HasTextShape (spelled (tokens_of cells right bottom))
tokens_of-shape cells right bottom h k =
    record {
      short = tokens_of-short cells right bottom h k;
      characters =
          characters_of_all (tokens_of cells right bottom) (tokens_of-lawful cells right bottom h);
    }
