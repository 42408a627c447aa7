-- The text of a pattern, put together strip by strip: a strip is five rows, and a `z` separates two strips.
use Rattle.std.proofs.Common.{◌≡◌, ℕ, zero, suc, ◌+◌, ◌<◌, ◌≤◌, ◌/◌, ◌==◌, List, [], ◌∷◌, ◌++◌, map, arith, false, true, append-nil, if◌then◌else◌, refl, ap, sym, ◌∙◌}
use Rattle.std.specs.List.{flat_map, range_with_len}
use Rattle.std.proofs.lemmas.Bool.Decides.{nat_tests}
use Rattle.std.proofs.lemmas.Grind.{flat_map-append}
use Rattle.std.proofs.lemmas.List.{append_assoc}
use Rattle.std.proofs.lemmas.List.FromFn.{map-range_with_len_more}
use Rattle.plane_core.specs.declared.plane.cell.Cell.{Cell}
use Rattle.code_core.specs.declared.reader.Token.{Token}
use Rattle.code_core.specs.declared.reader.Token.TheVariants.{NextStrip}
use Rattle.code_core.specs.Texts.{joined_strips, strip, strip_tokens, tokens_of}
use Rattle.code_core.specs.Tokens.{spelling}
use Rattle.code_core.proofs.StripLemmas.{spelled}

-- if there is one more strip below the others, a `NextStrip` and the tokens of this strip are appended
pub joined-push : (s : List Token) (strips : List (List Token)) (t : List Token) → joined_strips (s ∷ (strips ++ t ∷ [])) ≡ joined_strips (s ∷ strips) ++ NextStrip ∷ t
joined-push s [] t = refl
joined-push s (r ∷ strips) t = ap (λ ts. s ++ NextStrip ∷ ts) (joined-push r strips t) ∙ sym (append_assoc s (NextStrip ∷ joined_strips (r ∷ strips)) (NextStrip ∷ t))

abbrev pub strip_of : List Cell → ℕ → ℕ → List Token
strip_of cells width k = strip_tokens (strip cells width k)

-- the text of the first n strips
unfoldable pub strips_text : List Cell → ℕ → ℕ → List ℕ
strips_text cells width n = spelled (joined_strips (map (strip_of cells width) (range_with_len 0 n)))

pub strips_none : (cells : List Cell) (width : ℕ) → strips_text cells width 0 ≡ []
unfolding strips_text
strips_none cells width = refl

pub strips_more : (cells : List Cell) (width n : ℕ) → 1 ≤ n → strips_text cells width (n + 1) ≡ (strips_text cells width n ++ 122 ∷ [])
    ++ flat_map spelling (strip_tokens (strip cells width n))
unfolding strips_text
strips_more cells width zero h = absurd (omega arith)
strips_more cells width (suc n) h =
    let f = strip_of cells width in
    let last = f (suc n) in
    let before = range_with_len 0 (suc n) in
    ap (λ strips. spelled (joined_strips strips)) (map-range_with_len_more f 0 (suc n) (suc n) (omega arith))
    ∙ ap spelled (joined-push (f 0) (map f (range_with_len 1 n)) last)
    ∙ flat_map-append spelling (joined_strips (map f before)) (NextStrip ∷ last)
    ∙ sym (append_assoc (spelled (joined_strips (map f before))) (122 ∷ []) (spelled last))

-- the separator before a strip: nothing before the first strip, and a `z` (122) before each other strip
pub parted_first : (k : ℕ) (old new : List ℕ) → k ≤ 0 → new ≡ old → new ≡ old ++ (if k == 0 then [] else 122 ∷ [])
parted_first k old new low same =
    let none : (k == 0) ≡ true = grind (arith, nat_tests) in
    rw none (same ∙ sym (append-nil old))

pub parted_other : (k : ℕ) (old new : List ℕ) → 0 < k → new ≡ old ++ 122 ∷ [] → new ≡ old ++ (if k == 0 then [] else 122 ∷ [])
parted_other k old new some is =
    let other : (k == 0) ≡ false = grind (arith, nat_tests) in
    rw other is

-- the text of n + 1 strips is that of n strips, then a `z` (122) if n isn't 0, and then the text of the last strip
pub strips_step : (cells : List Cell) (width n : ℕ) → strips_text cells width (n + 1)
    ≡ (strips_text cells width n ++ (if n == 0 then [] else 122 ∷ [])) ++ flat_map spelling (strip_tokens (strip cells width n))
unfolding strips_text
strips_step cells width zero = refl
strips_step cells width (suc n) =
    let some : (suc n == 0) ≡ false = grind (arith, nat_tests) in
    rw some (strips_more cells width (suc n) (omega arith))

pub strips_are : (cells : List Cell) (right bottom : ℕ) → flat_map spelling (tokens_of cells right bottom) ≡ strips_text cells (right + 1) (bottom / 5 + 1)
unfolding strips_text tokens_of
strips_are cells right bottom = refl
