-- The cells of a pattern's tokens are those cells of its box that the pattern has.
use Rattle.std.proofs.Common.{◌≡◌, ℕ, zero, suc, pos, ◌+◌, ◌*◌, ◌/◌, ◌%◌, eqb, Bool, true, false, cond, List, [], ◌∷◌, ◌++◌, filter, map, arith, refl}
use Rattle.std.proofs.Common.{ap, sym, ◌∙◌}
use Rattle.std.specs.List.{flat_map, range_with_len}
use Rattle.std.proofs.lemmas.List.{append_assoc, append-nil}
use Rattle.std.proofs.lemmas.List.Elements.{filter-append}
use Rattle.plane_core.specs.declared.plane.cell.Cell.{Cell}
use Rattle.plane_core.specs.plane.Cells.{cell_at, has}
use Rattle.code_core.specs.declared.reader.Token.{Token}
use Rattle.code_core.specs.declared.reader.Token.TheVariants.{Column, Gap, NextStrip}
use Rattle.code_core.specs.Columns.{cells_from, column, is_lit, lit_cells, value_of}
use Rattle.code_core.specs.Texts.{before, joined_strips, strip, strip_tokens}
use Rattle.code_core.proofs.TextLemmas.{one_at_most}

-- ---- the value of a column says which of its five cells are alive

abbrev one : Bool → ℕ
one live = cond live 1 0

is_one : (live : Bool) → eqb (one live) 1 ≡ live
is_one true = refl
is_one false = refl

abbrev five : Bool → Bool → Bool → Bool → Bool → ℕ
five a b c d e = value_of (a ∷ b ∷ c ∷ d ∷ e ∷ [])

lit_0 : (a b c d e : Bool) → is_lit (five a b c d e) 0 ≡ a
lit_0 a b c d e =
    let same : five a b c d e / 1 % 2 ≡ one a = omega (arith, one_at_most a, one_at_most b, one_at_most c, one_at_most d, one_at_most e) in
    ap (λ n. eqb n 1) same ∙ is_one a

lit_1 : (a b c d e : Bool) → is_lit (five a b c d e) 1 ≡ b
lit_1 a b c d e =
    let same : five a b c d e / 2 % 2 ≡ one b = omega (arith, one_at_most a, one_at_most b, one_at_most c, one_at_most d, one_at_most e) in
    ap (λ n. eqb n 1) same ∙ is_one b

lit_2 : (a b c d e : Bool) → is_lit (five a b c d e) 2 ≡ c
lit_2 a b c d e =
    let same : five a b c d e / 4 % 2 ≡ one c = omega (arith, one_at_most a, one_at_most b, one_at_most c, one_at_most d, one_at_most e) in
    ap (λ n. eqb n 1) same ∙ is_one c

lit_3 : (a b c d e : Bool) → is_lit (five a b c d e) 3 ≡ d
lit_3 a b c d e =
    let same : five a b c d e / 8 % 2 ≡ one d = omega (arith, one_at_most a, one_at_most b, one_at_most c, one_at_most d, one_at_most e) in
    ap (λ n. eqb n 1) same ∙ is_one d

lit_4 : (a b c d e : Bool) → is_lit (five a b c d e) 4 ≡ e
lit_4 a b c d e =
    let same : five a b c d e / 16 % 2 ≡ one e = omega (arith, one_at_most a, one_at_most b, one_at_most c, one_at_most d, one_at_most e) in
    ap (λ n. eqb n 1) same ∙ is_one e

-- the cell in column x of row i of strip k
abbrev place : ℕ → ℕ → ℕ → Cell
place k x i = cell_at (pos x) (pos (5 * k + i))

abbrev pub column_cells : ℕ → ℕ → List Cell
column_cells k x = map (place k x) (range_with_len 0 5)

filter-map : (p : Cell → Bool) (f : ℕ → Cell) (xs : List ℕ) → map f (filter (λ i. p (f i)) xs) ≡ filter p (map f xs)
filter-map p f [] = refl
filter-map p f (x ∷ xs) = go (p (f x)) (filter-map p f xs)
  where
    go : (b : Bool) → map f (filter (λ i. p (f i)) xs) ≡ filter p (map f xs)
        → map f (cond {A = List ℕ} b (x ∷ filter (λ i. p (f i)) xs) (filter (λ i. p (f i)) xs)) ≡ cond {A = List Cell} b (f x ∷ filter p (map f xs))
        (filter p (map f xs))
    go true e = ap (λ cs. f x ∷ cs) e
    go false e = e

kept_alike : (q r : ℕ → Bool) → q 0 ≡ r 0 → q 1 ≡ r 1 → q 2 ≡ r 2 → q 3 ≡ r 3 → q 4 ≡ r 4 → filter q (range_with_len 0 5) ≡ filter r (range_with_len 0 5)
kept_alike q r e0 e1 e2 e3 e4 = rw (e0, e1, e2, e3, e4) refl

row_0 : (n : ℕ) → n ≡ n + 0
row_0 n = omega arith

row_2 : (n : ℕ) → n + 1 + 1 ≡ n + 2
row_2 n = omega arith

row_3 : (n : ℕ) → n + 1 + 1 + 1 ≡ n + 3
row_3 n = omega arith

row_4 : (n : ℕ) → n + 1 + 1 + 1 + 1 ≡ n + 4
row_4 n = omega arith

-- the cells of a column's value are those cells of the column that the pattern has
lit_cells-column : (cells : List Cell) (k x : ℕ) → lit_cells k x (column cells k x) ≡ filter (has cells) (column_cells k x)
unfolding lit_cells column
lit_cells-column cells k x =
    let alive : ℕ → Bool = λ y. has cells (cell_at (pos x) (pos y)) in
    let n : ℕ = 5 * k in
    let a = alive n in
    let b = alive (n + 1) in
    let c = alive (n + 1 + 1) in
    let d = alive (n + 1 + 1 + 1) in
    let e = alive (n + 1 + 1 + 1 + 1) in
    ap (map (place k x)) (kept_alike (is_lit (five a b c d e)) (λ i. has cells (place k x i)) (lit_0 a b c d e ∙ ap alive (row_0 n))
    (lit_1 a b c d e) (lit_2 a b c d e ∙ ap alive (row_2 n)) (lit_3 a b c d e ∙ ap alive (row_3 n)) (lit_4 a b c d e ∙ ap alive (row_4 n)))
    ∙ filter-map (has cells) (place k x) (range_with_len 0 5)

-- ---- the tokens of a strip

-- the tokens can follow those of strip k: their cells don't depend on the column at which they begin
abbrev pub FollowsStrip : ℕ → List Token → Type 0
FollowsStrip k more = (a b : ℕ) → cells_from k a more ≡ cells_from k b more

-- a column that is put before the tokens of a strip adds its cells
cells_from-before : (k x value : ℕ) (tokens more : List Token) → FollowsStrip k more
    → cells_from k x (before value tokens ++ more) ≡ lit_cells k x value ++ cells_from k (x + 1) (tokens ++ more)
unfolding cells_from lit_cells
cells_from-before k x zero [] more end = end x (x + 1)
cells_from-before k x zero (Gap n ∷ tokens) more end = let e : x + (n + 1) ≡ (x + 1) + n = omega arith in ap (λ a. cells_from k a (tokens ++ more)) e
cells_from-before k x zero (Column value ∷ tokens) more end = refl
cells_from-before k x zero (NextStrip ∷ tokens) more end = refl
cells_from-before k x (suc value) tokens more end = refl

abbrev pub columns : ℕ → ℕ → ℕ → List Cell
columns k x n = flat_map (column_cells k) (range_with_len x n)

-- the cells of a strip's tokens are those cells of its columns that the pattern has
cells_from-strip : (cells : List Cell) (k x n : ℕ) (more : List Token) → FollowsStrip k more
    → cells_from k x (strip_tokens (map (column cells k) (range_with_len x n)) ++ more) ≡ filter (has cells) (columns k x n) ++ cells_from k 0 more
unfolding strip_tokens
cells_from-strip cells k x zero more end = end x 0
cells_from-strip cells k x (suc n) more end =
    let p = has cells in
    let tokens = strip_tokens (map (column cells k) (range_with_len (x + 1) n)) in
    cells_from-before k x (column cells k x) tokens more end
    ∙ (λ i. lit_cells-column cells k x i ++ cells_from-strip cells k (x + 1) n more end i)
    ∙ sym (append_assoc (filter p (column_cells k x)) (filter p (columns k (x + 1) n)) (cells_from k 0 more))
    ∙ ap (λ cs. cs ++ cells_from k 0 more) (sym (filter-append p (column_cells k x) (columns k (x + 1) n)))

-- ---- the tokens of a pattern

abbrev pub strip_cells : ℕ → ℕ → List Cell
strip_cells width k = columns k 0 width

abbrev pub box_cells : ℕ → ℕ → ℕ → List Cell
box_cells width k n = flat_map (strip_cells width) (range_with_len k n)

nothing_next : (k : ℕ) → FollowsStrip k []
unfolding cells_from
nothing_next k a b = refl

strip_next : (k : ℕ) (tokens : List Token) → FollowsStrip k (NextStrip ∷ tokens)
unfolding cells_from
strip_next k tokens a b = refl

-- the cells of the tokens of n strips, from strip k on, are those cells of the strips that the pattern has
pub cells_from-joined : (cells : List Cell) (width k n : ℕ) → cells_from k 0
    (joined_strips (map (λ k. strip_tokens (strip cells width k)) (range_with_len k n))) ≡ filter (has cells) (box_cells width k n)
unfolding cells_from
cells_from-joined cells width k zero = refl
cells_from-joined cells width k (suc zero) =
    let p = has cells in
    let tokens = strip_tokens (strip cells width k) in
    ap (cells_from k 0) (sym (append-nil tokens)) ∙ cells_from-strip cells k 0 width [] (nothing_next k)
    ∙ sym (filter-append p (strip_cells width k) [])
cells_from-joined cells width k (suc (suc n)) =
    let p = has cells in
    let remainder = joined_strips (map (λ k. strip_tokens (strip cells width k)) (range_with_len (k + 1) (suc n))) in
    cells_from-strip cells k 0 width (NextStrip ∷ remainder) (strip_next k remainder)
    ∙ ap (λ cs. filter p (strip_cells width k) ++ cs) (cells_from-joined cells width (k + 1) (suc n))
    ∙ sym (filter-append p (strip_cells width k) (box_cells width (k + 1) (suc n)))
