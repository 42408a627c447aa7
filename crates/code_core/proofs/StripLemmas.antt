-- The text of a strip, column by column.
use Rattle.std.proofs.Common.{◌≡◌, ℕ, zero, suc, ◌+◌, ◌-◌, ◌≤◌, ◌<◌, List, [], ◌∷◌, ◌++◌, map, arith, refl, ap, sym, ◌∙◌, replicate, add-one, ◌==◌}
use Rattle.std.proofs.Common.{if◌then◌else◌, cond, Result, Ok, Err, OnOk}
use Rattle.std.proofs.lemmas.Bool.{ne_eqb}
use Rattle.std.specs.List.{flat_map, range_with_len}
use Rattle.std.proofs.lemmas.List.{append_assoc, append-nil}
use Rattle.plane_core.specs.declared.plane.cell.Cell.{Cell}
use Rattle.code_core.specs.declared.reader.Token.{Token}
use Rattle.code_core.specs.declared.reader.Token.TheVariants.{Column, Gap}
use Rattle.code_core.specs.Columns.{column}
use Rattle.code_core.specs.Texts.{before, strip, strip_tokens}
use Rattle.code_core.specs.Tokens.{character, gap_text, spelling}

abbrev pub spelled : List Token → List ℕ
spelled tokens = flat_map spelling tokens

-- empty columns at the end of a strip have no token
pub strip_tokens-empty : (n : ℕ) → strip_tokens (replicate n 0) ≡ []
unfolding strip_tokens
strip_tokens-empty zero = refl
strip_tokens-empty (suc n) = ap (before 0) (strip_tokens-empty n)

pub strip_tokens-live : (value : ℕ) (values : List ℕ) → 1 ≤ value → strip_tokens (value ∷ values) ≡ Column value ∷ strip_tokens values
unfolding strip_tokens
strip_tokens-live zero values h = absurd (omega arith)
strip_tokens-live (suc value) values h = refl

-- empty columns before a column with a live cell are one gap
pub strip_tokens-gap : (n value : ℕ) (values : List ℕ) → 1 ≤ value
    → strip_tokens (replicate (suc n) 0 ++ value ∷ values) ≡ Gap (suc n) ∷ Column value ∷ strip_tokens values
unfolding strip_tokens
strip_tokens-gap zero value values h = ap (before 0) (strip_tokens-live value values h)
strip_tokens-gap (suc n) value values h = ap (before 0) (strip_tokens-gap n value values h)
    ∙ ap (λ m. Gap m ∷ Column value ∷ strip_tokens values) (add-one (suc n))

-- the text of a column with a live cell and of the empty columns before it
pub gap_and_column : (n value : ℕ) → 1 ≤ value → spelled (strip_tokens (replicate n 0 ++ value ∷ [])) ≡ (if n == 0 then [] else gap_text n)
    ++ character value ∷ []
unfolding strip_tokens
gap_and_column zero value h = ap spelled (strip_tokens-live value [] h)
gap_and_column (suc n) value h =
    ap spelled (strip_tokens-gap n value [] h) ∙ ap (λ none. cond {A = List ℕ} none [] (gap_text (suc n)) ++ character value ∷ [])
    (sym (ne_eqb (suc n) 0 (λ e. absurd (omega arith))))

-- the text of columns is the text up to the first column with a live cell, followed by the text of the columns after it
pub spelled-parted : (n value : ℕ) (values : List ℕ) → 1 ≤ value
    → spelled (strip_tokens (replicate n 0 ++ value ∷ values)) ≡ spelled (strip_tokens (replicate n 0 ++ value ∷ [])) ++ spelled (strip_tokens values)
unfolding strip_tokens
spelled-parted zero value values h = ap spelled (strip_tokens-live value values h)
    ∙ ap (λ t. t ++ spelled (strip_tokens values)) (sym (gap_and_column 0 value h))
spelled-parted (suc n) value values h =
    ap spelled (strip_tokens-gap n value values h)
    ∙ sym (append_assoc (gap_text (suc n)) (character value ∷ []) (spelled (strip_tokens values)))
    ∙ ap (λ t. t ++ spelled (strip_tokens values)) (sym (ap spelled (strip_tokens-gap n value [] h)))

one_more_empty : (n : ℕ) (values : List ℕ) → replicate n 0 ++ 0 ∷ values ≡ replicate (suc n) 0 ++ values
one_more_empty zero values = refl
one_more_empty (suc n) values = ap (λ vs. 0 ∷ vs) (one_more_empty n values)

-- if a is written, and then b is written, then a ++ b, which is c, has been written
pub written_on : {T E : Type 0} (r : Result T E) (old middle new a b c : List ℕ) → middle ≡ old ++ a → c ≡ a ++ b → OnOk r (new ≡ middle ++ b)
    → OnOk r (new ≡ old ++ c)
written_on (Ok x) old middle new a b c e f h = h ∙ ap (λ t. t ++ b) e ∙ append_assoc old a b ∙ ap (λ t. old ++ t) (sym f)
written_on (Err x) old middle new a b c e f h = tt

-- the text of strip k that is still to be written at column x, if the `gap` columns before it are empty
unfoldable pub remainder_text : List Cell → ℕ → ℕ → ℕ → ℕ → List ℕ
remainder_text cells width k gap x = spelled (strip_tokens (replicate gap 0 ++ map (column cells k) (range_with_len x (width - x))))

pub remainder_text-start : (cells : List Cell) (width k : ℕ) → remainder_text cells width k 0 0 ≡ spelled (strip_tokens (strip cells width k))
unfolding remainder_text
remainder_text-start cells width k = let e : width - 0 ≡ width = omega arith in ap (λ n. spelled (strip_tokens (map (column cells k) (range_with_len 0 n)))) e

columns_from : (cells : List Cell) (width k x : ℕ) → x < width
    → map (column cells k) (range_with_len x (width - x)) ≡ column cells k x ∷ map (column cells k) (range_with_len (x + 1) (width - (x + 1)))
columns_from cells width k x h = let e : width - x ≡ suc (width - (x + 1)) = omega arith in ap (λ n. map (column cells k) (range_with_len x n)) e

pub remainder_text-live : (cells : List Cell) (width k gap x value : ℕ) → x < width → 1 ≤ value → value ≡ column cells k x
    → remainder_text cells width k gap x ≡ spelled (strip_tokens (replicate gap 0 ++ value ∷ [])) ++ remainder_text cells width k 0 (x + 1)
unfolding remainder_text
remainder_text-live cells width k gap x value h some is =
    let remainder = map (column cells k) (range_with_len (x + 1) (width - (x + 1))) in
    ap (λ vs. spelled (strip_tokens (replicate gap 0 ++ vs))) (columns_from cells width k x h ∙ ap (λ v. v ∷ remainder) (sym is))
    ∙ spelled-parted gap value remainder some

pub remainder_text-empty : (cells : List Cell) (width k gap x value : ℕ) → x < width → value ≡ 0 → value ≡ column cells k x
    → remainder_text cells width k gap x ≡ remainder_text cells width k (gap + 1) (x + 1)
unfolding remainder_text
remainder_text-empty cells width k gap x value h none is =
    let remainder = map (column cells k) (range_with_len (x + 1) (width - (x + 1))) in
    ap (λ vs. spelled (strip_tokens (replicate gap 0 ++ vs))) (columns_from cells width k x h ∙ ap (λ v. v ∷ remainder) (sym is ∙ none))
    ∙ ap (λ vs. spelled (strip_tokens vs)) (one_more_empty gap remainder ∙ ap (λ n. replicate n 0 ++ remainder) (sym (add-one gap)))

pub remainder_text-end : (cells : List Cell) (width k gap x : ℕ) → width ≤ x → remainder_text cells width k gap x ≡ []
unfolding remainder_text
remainder_text-end cells width k gap x h =
    let e : width - x ≡ 0 = omega arith in
    ap (λ n. spelled (strip_tokens (replicate gap 0 ++ map (column cells k) (range_with_len x n)))) e
    ∙ ap (λ vs. spelled (strip_tokens vs)) (append-nil (replicate gap 0)) ∙ ap spelled (strip_tokens-empty gap)

-- the step of the loop in `push_strip` (`wechsler.rt`) at a column with a live cell: the gap and the column are written
pub strip_more-live : (cells : List Cell) (width k gap x value : ℕ) (whole text new : List ℕ) → x < width → 1 ≤ value → value ≡ column cells k x
    → text ++ remainder_text cells width k gap x ≡ whole → new ≡ text ++ spelled (strip_tokens (replicate gap 0 ++ value ∷ []))
    → new ++ remainder_text cells width k 0 (x + 1) ≡ whole
strip_more-live cells width k gap x value whole text new h some is so_far e =
    let remainder = remainder_text cells width k 0 (x + 1) in
    ap (λ t. t ++ remainder) e ∙ append_assoc text (spelled (strip_tokens (replicate gap 0 ++ value ∷ []))) remainder
    ∙ ap (λ t. text ++ t) (sym (remainder_text-live cells width k gap x value h some is)) ∙ so_far

-- the step of the loop in `push_strip` at an empty column: the gap grows by 1, and nothing is written
pub strip_more-empty : (cells : List Cell) (width k gap x value : ℕ) (whole text : List ℕ) → x < width → value ≡ 0 → value ≡ column cells k x
    → text ++ remainder_text cells width k gap x ≡ whole → text ++ remainder_text cells width k (gap + 1) (x + 1) ≡ whole
strip_more-empty cells width k gap x value whole text h none is so_far =
    ap (λ t. text ++ t) (sym (remainder_text-empty cells width k gap x value h none is)) ∙ so_far

-- when the loop in `push_strip` ends, the text of the strip has been written
pub strip_done : (cells : List Cell) (width k gap x : ℕ) (start text : List ℕ) → width ≤ x
    → text ++ remainder_text cells width k gap x ≡ start ++ remainder_text cells width k 0 0 → text ≡ start ++ spelled (strip_tokens (strip cells width k))
strip_done cells width k gap x start text h so_far =
    sym (append-nil text) ∙ ap (λ t. text ++ t) (sym (remainder_text-end cells width k gap x h)) ∙ so_far ∙ ap (λ t. start ++ t) (remainder_text-start cells width k)
