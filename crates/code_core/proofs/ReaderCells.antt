-- The cells of tokens: there are cells if and only if a token is a column, and the cells of few enough tokens are on
-- the plane.
use Rattle.std.proofs.Common.{◌≡◌, ◌<◌, ◌≤◌, ◌+◌, ◌-◌, ◌*◌, ℕ, zero, suc, pos, Bool, true, false, ◌||◌, ◌&&◌, cond, List, [], ◌∷◌, ◌++◌, length, map}
use Rattle.std.proofs.Common.{filter, get_or, refl, sym, ◌∙◌, ap, subst, arith, length-append, append-nil, append_assoc, Option, None, Some, Result}
use Rattle.std.proofs.Common.{Ok, Err, nat_lt, true≢false}
use Rattle.std.proofs.lemmas.Bool.Decides.{nat_tests}
use Rattle.std.proofs.lemmas.List.{length-map, map-id, map-append}
use Rattle.std.specs.Ordering.{match_ordering}
use Rattle.std.specs.declared.cmp.Ordering.{Ordering}
use Rattle.std.specs.declared.cmp.Ordering.TheVariants.{Less, Equal, Greater}
use Rattle.std.specs.List.{All, list_all, list_any, range_with_len, position, position_or_len}
use Rattle.std.proofs.lemmas.List.Elements.{All-tail}
use Rattle.std.proofs.lemmas.List.Folds.{list_all-append}
use Rattle.std.proofs.lemmas.List.FromFn.{get_or-range_with_len, filter_of_map_range_with_len_more}
use Rattle.std.proofs.lemmas.List.Sums.{AllPass-from_list_all}
use Rattle.plane_core.specs.declared.plane.cell.Cell.{Cell}
use Rattle.plane_core.specs.plane.Cells.{cell_at, cell_cmp, on_plane, off_plane, put, set_of}
use Rattle.code_core.specs.declared.reader.Token.{Token}
use Rattle.code_core.specs.declared.reader.Token.TheVariants.{Column, Gap, NextStrip}
use Rattle.code_core.specs.declared.reader.WechslerFault.TheVariants.{Empty}
use Rattle.code_core.specs.Columns.{is_lit, lit_cells, cells_from, token_cells}
use Rattle.code_core.specs.Tokens.{IsToken}
use Rattle.code_core.specs.Reading.{unless_empty}
use Rattle.code_core.specs.ReadingSteps.{is_column}

-- cells in columns and rows 0 to 1,000,000 are on the plane
on_plane-small : (x y : ℕ) → x ≤ 1000000 → y ≤ 1000000 → on_plane (cell_at (pos x) (pos y)) ≡ true
unfolding on_plane
on_plane-small x y hx hy = grind (arith, nat_tests)

-- if all elements pass a test, so do those that a filter keeps
list_all-map-filter : (q : Cell → Bool) (f : ℕ → Cell) (p : ℕ → Bool) (is : List ℕ) → list_all q (map f is) ≡ true → list_all q (map f (filter p is)) ≡ true
list_all-map-filter q f p [] h = refl
list_all-map-filter q f p (i ∷ is) h = go (p i) (q (f i)) refl h (list_all-map-filter q f p is)
  where
    go : (b c : Bool) → q (f i) ≡ c → (c && list_all q (map f is)) ≡ true → (list_all q (map f is) ≡ true → list_all q (map f (filter p is)) ≡ true)
        → list_all q (map f (cond b (i ∷ filter p is) (filter p is))) ≡ true
    go b false e k ih = absurd (true≢false (sym k))
    go false true e k ih = ih k
    go true true e k ih = rw (e, ih k) refl

lit_cells-on_plane : (k x value : ℕ) → x ≤ 1000000 → 5 * k + 4 ≤ 1000000 → list_all on_plane (lit_cells k x value) ≡ true
unfolding lit_cells
lit_cells-on_plane k x value hx hk =
    list_all-map-filter on_plane (λ i. cell_at (pos x) (pos (5 * k + i))) (is_lit value) (range_with_len 0 5)
    (rw (at 0 (omega arith), at 1 (omega arith), at 2 (omega arith), at 3 (omega arith), at 4 (omega arith)) refl)
  where
    at : (i : ℕ) → i ≤ 4 → on_plane (cell_at (pos x) (pos (5 * k + i))) ≡ true
    at i h = on_plane-small x (5 * k + i) hx (omega arith)

-- each token moves on by at most 39 columns or by five rows, so the cells of few enough tokens are on the plane
pub cells_from-on_plane : (tokens : List Token) → All IsToken tokens → (k x : ℕ) → x + 39 * length tokens ≤ 1000000
    → 5 * k + 4 + 5 * length tokens ≤ 1000000 → list_all on_plane (cells_from k x tokens) ≡ true
unfolding cells_from
cells_from-on_plane [] each k x hx hk = refl
cells_from-on_plane (Column value ∷ tokens) each k x hx hk =
    list_all-append on_plane (lit_cells k x value) (cells_from k (x + 1) tokens)
    ∙ rw (lit_cells-on_plane k x value (omega arith) (omega arith))
    (cells_from-on_plane tokens (All-tail IsToken (Column value) tokens each) k (x + 1) (omega arith) (omega arith))
cells_from-on_plane (Gap n ∷ tokens) each k x hx hk =
    let small = each zero (Gap n) (omega arith) in
    cells_from-on_plane tokens (All-tail IsToken (Gap n) tokens each) k (x + n) (omega arith) (omega arith)
cells_from-on_plane (NextStrip ∷ tokens) each k x hx hk =
    cells_from-on_plane tokens (All-tail IsToken NextStrip tokens each) (k + 1) 0 (omega arith) (omega arith)

-- each column with a value from 1 to 31 has a live cell
lit_rows : (value : ℕ) → 1 ≤ value → value ≤ 31 → 0 < length (filter (is_lit value) (range_with_len 0 5))
lit_rows value low high =
    let at : get_or (range_with_len 1 31) (value - 1) 0 ≡ value = get_or-range_with_len 1 31 (value - 1) 0 (omega arith) ∙ omega arith in
    let here : some (get_or (range_with_len 1 31) (value - 1) 0) ≡ true = AllPass-from_list_all some (range_with_len 1 31) refl (value - 1) 0 (omega arith) in
    let there : some value ≡ true = subst (λ (v : ℕ). some v ≡ true) at here in
    grind (arith, nat_tests)
  where
    some : ℕ → Bool
    some v = nat_lt 0 (length (filter (is_lit v) (range_with_len 0 5)))

pub length-lit_cells : (k x value : ℕ) → 1 ≤ value → value ≤ 31 → 0 < length (lit_cells k x value)
unfolding lit_cells
length-lit_cells k x value low high = omega (
  arith,
  lit_rows value low high,
  length-map (filter (is_lit value) (range_with_len 0 5)) (λ i. cell_at (pos x) (pos (5 * k + i))),
)

-- if no token is a column, there are no cells, and if a token is a column, there is a cell
pub cells_from-none : (tokens : List Token) (k x : ℕ) → list_any is_column tokens ≡ false → cells_from k x tokens ≡ []
unfolding cells_from
cells_from-none [] k x h = refl
cells_from-none (Column value ∷ tokens) k x h = absurd (true≢false h)
cells_from-none (Gap n ∷ tokens) k x h = cells_from-none tokens k (x + n) h
cells_from-none (NextStrip ∷ tokens) k x h = cells_from-none tokens (k + 1) 0 h

pub length-cells_from : (tokens : List Token) → All IsToken tokens → (k x : ℕ) → list_any is_column tokens ≡ true → 0 < length (cells_from k x tokens)
unfolding cells_from
length-cells_from [] each k x h = absurd (true≢false (sym h))
length-cells_from (Column value ∷ tokens) each k x h =
    let small = each zero (Column value) (omega arith) in
    omega (arith, length-append (lit_cells k x value) (cells_from k (x + 1) tokens), length-lit_cells k x value small.0 small.1)
length-cells_from (Gap n ∷ tokens) each k x h = length-cells_from tokens (All-tail IsToken (Gap n) tokens each) k (x + n) h
length-cells_from (NextStrip ∷ tokens) each k x h = length-cells_from tokens (All-tail IsToken NextStrip tokens each) (k + 1) 0 h

-- a set into which a cell was put isn't empty
unless_empty-put : (c : Cell) (cells : List Cell) → unless_empty (put c cells) ≡ Ok (put c cells)
unless_empty-put c [] = refl
unless_empty-put c (d ∷ cells) = go (cell_cmp c d)
  where
    go : (o : Ordering) → unless_empty (match_ordering o (c ∷ d ∷ cells) (d ∷ cells) (d ∷ put c cells)) ≡ Ok
        (match_ordering o (c ∷ d ∷ cells) (d ∷ cells) (d ∷ put c cells))
    go Less = refl
    go Equal = refl
    go Greater = refl

unless_empty-set_of : (cells : List Cell) → 0 < length cells → unless_empty (set_of cells) ≡ Ok (set_of cells)
unless_empty-set_of [] h = absurd (omega arith)
unless_empty-set_of (c ∷ cells) h = unless_empty-put c (set_of cells)

pub unless_empty-some : (tokens : List Token) → All IsToken tokens → list_any is_column tokens ≡ true → unless_empty (token_cells tokens) ≡ Ok (token_cells tokens)
unless_empty-some tokens each h = unless_empty-set_of (cells_from 0 0 tokens) (length-cells_from tokens each 0 0 h)

pub unless_empty-none : (tokens : List Token) → list_any is_column tokens ≡ false → unless_empty (token_cells tokens) ≡ Err Empty
unless_empty-none tokens h = ap (λ (cells : List Cell). unless_empty (set_of cells)) (cells_from-none tokens 0 0 h)

-- the cells of a list of tokens are the cells of the first token, followed by the cells of the other tokens from the
-- place where the first token ends
pub cells_from-column : (cells more : List Cell) (k x value : ℕ) (token : Token) (tokens : List Token) → token ≡ Column value
    → more ≡ cells ++ lit_cells k x value → more ++ cells_from k (x + 1) tokens ≡ cells ++ cells_from k x (token ∷ tokens)
unfolding cells_from
cells_from-column cells more k x value token tokens e m = rw (e, m) (append_assoc cells (lit_cells k x value) (cells_from k (x + 1) tokens))

pub cells_from-gap : (k x n : ℕ) (token : Token) (tokens : List Token) → token ≡ Gap n → cells_from k x (token ∷ tokens) ≡ cells_from k (x + n) tokens
unfolding cells_from
cells_from-gap k x n token tokens e = rw e refl

pub cells_from-next_strip : (k x : ℕ) (token : Token) (tokens : List Token) → token ≡ NextStrip → cells_from k x (token ∷ tokens) ≡ cells_from (k + 1) 0 tokens
unfolding cells_from
cells_from-next_strip k x token tokens e = rw e refl

-- the live cells in the first n rows of column x of strip k, if this column has the given value
unfoldable pub lit_above : ℕ → ℕ → ℕ → ℕ → List Cell
lit_above n k x value = map (λ i. cell_at (pos x) (pos (5 * k + i))) (filter (is_lit value) (range_with_len 0 n))

rows_more : (p : ℕ → Bool) (n : ℕ) → filter p (range_with_len 0 (n + 1)) ≡ filter p (range_with_len 0 n) ++ cond (p n) (n ∷ []) []
rows_more p n =
    ap (filter p) (sym (map-id (range_with_len 0 (n + 1)))) ∙ filter_of_map_range_with_len_more p (λ i. i) 0 n n (omega arith)
    ∙ ap (λ (is : List ℕ). filter p is ++ cond (p n) (n ∷ []) []) (map-id (range_with_len 0 n))

pub lit_above-none : (k x value : ℕ) → lit_above 0 k x value ≡ []
unfolding lit_above
lit_above-none k x value = refl

pub lit_above-lit : (n k x value : ℕ) → is_lit value n ≡ true → lit_above (n + 1) k x value ≡ lit_above n k x value ++ cell_at (pos x) (pos (5 * k + n)) ∷ []
unfolding lit_above
lit_above-lit n k x value h = rw (rows_more (is_lit value) n, h)
    (map-append (λ i. cell_at (pos x) (pos (5 * k + i))) (filter (is_lit value) (range_with_len 0 n)) (n ∷ []))

pub lit_above-dark : (n k x value : ℕ) → is_lit value n ≡ false → lit_above (n + 1) k x value ≡ lit_above n k x value
unfolding lit_above
lit_above-dark n k x value h = rw (rows_more (is_lit value) n, h)
    (ap (map (λ i. cell_at (pos x) (pos (5 * k + i)))) (append-nil (filter (is_lit value) (range_with_len 0 n))))

pub lit_above-all : (n k x value : ℕ) → n ≡ 5 → lit_above n k x value ≡ lit_cells k x value
unfolding lit_above lit_cells
lit_above-all n k x value e = rw e refl

pub ruleset lit = (lit_above-none, lit_above-lit, lit_above-dark, lit_above-all, append-nil, append_assoc)

-- if all cells are on the plane, no cell is found that is off the plane
position_or_len-all : (cells : List Cell) → list_all on_plane cells ≡ true → position_or_len off_plane cells ≡ length cells
position_or_len-all [] h = refl
position_or_len-all (c ∷ cells) h = go (on_plane c) refl h (position_or_len-all cells)
  where
    go : (b : Bool) → on_plane c ≡ b → (b && list_all on_plane cells) ≡ true
        → (list_all on_plane cells ≡ true → position_or_len off_plane cells ≡ length cells) → position_or_len off_plane (c ∷ cells) ≡ length (c ∷ cells)
    go false e k ih = absurd (true≢false (sym k))
    go true e k ih = rw (e, ih k) (omega arith)

pub position-on_plane : (cells : List Cell) → list_all on_plane cells ≡ true → position off_plane cells ≡ None
position-on_plane cells h =
    let e : nat_lt (position_or_len off_plane cells) (length cells) ≡ false = (let n = position_or_len-all cells h in grind (arith, nat_tests)) in
    rw e refl
