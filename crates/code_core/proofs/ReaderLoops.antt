-- The invariants of the two loops in `reader.rt` that go through a text token by token, and what follows from them when
-- a loop ends.
use Rattle.std.proofs.Common.{◌≡◌, ◌<◌, ◌≤◌, ◌+◌, ◌-◌, ◌*◌, ℕ, Bool, true, false, ◌||◌, List, [], ◌∷◌, ◌++◌, length, refl, sym, ◌∙◌, ap, arith}
use Rattle.std.proofs.Common.{append_assoc, append-nil, length-append, Some, None, Result, Ok, Err}
use Rattle.std.specs.List.{All, list_all, list_any, flat_map}
use Rattle.std.specs.Prelude.{if◌then◌else◌}
use Rattle.std.specs.Result.{result_err}
use Rattle.std.proofs.lemmas.Grind.{flat_map-append}
use Rattle.std.proofs.lemmas.List.Elements.{All-nil, All-push}
use Rattle.std.proofs.lemmas.List.Folds.{list_any-append}
use Rattle.plane_core.specs.declared.plane.cell.Cell.{Cell}
use Rattle.plane_core.specs.plane.Cells.{on_plane}
use Rattle.code_core.specs.declared.reader.Token.{Token}
use Rattle.code_core.specs.declared.reader.WechslerFault.{WechslerFault}
use Rattle.code_core.specs.declared.reader.WechslerFault.TheVariants.{BadByte, ShortRun, Empty}
use Rattle.code_core.specs.Columns.{cells_from, token_cells}
use Rattle.code_core.specs.Tokens.{spelling, IsToken, Spells, is_character}
use Rattle.code_core.specs.Reading.{with_token, tokens_at, unless_empty, wechsler_pattern}
use Rattle.code_core.specs.ReadingSteps.{Begins, IsStuck, fault_without_token, is_column}
use Rattle.code_core.proofs.TokenReading.{tokens_at-bad, tokens_at-short_run, tokens_at-stops, tokens_at-spelled, tokens_at-token, tokens_at-Spells}
use Rattle.code_core.proofs.TokenReading.{Spells-tokens_at, length-Begins, length-spelled}
use Rattle.code_core.proofs.ReaderCells.{unless_empty-some, unless_empty-none, cells_from-on_plane}

-- some tokens spell the text up to the remainder, and `has_cell` says whether one of these tokens is a column
pub record Passed (text remainder : List ℕ) (has_cell : Bool) : Type 0 where
  pub tokens : List Token
  pub each : All IsToken tokens
  pub whole : text ≡ flat_map spelling tokens ++ remainder
  pub columns : has_cell ≡ list_any is_column tokens

pub Passed_none : (text : List ℕ) → Passed text text false
Passed_none text = record { tokens = []; each = All-nil IsToken; whole = refl; columns = refl }

or-false : (a b : Bool) → (a || (b || false)) ≡ (a || b)
or-false true b = refl
or-false false true = refl
or-false false false = refl

pub Passed_more : (text remainder after : List ℕ) (token : Token) (has_cell : Bool) → Passed text remainder has_cell → Begins remainder token after
    → Passed text after (has_cell || is_column token)
Passed_more text remainder after token has_cell p b = record {
  tokens = p.tokens ++ token ∷ [];
  each = All-push IsToken p.tokens token p.each b.is_token;
  whole = p.whole ∙ ap (λ (more : List ℕ). flat_map spelling p.tokens ++ more) b.spelled
      ∙ sym (append_assoc (flat_map spelling p.tokens) (spelling token) after)
      ∙ ap (λ (prefix : List ℕ). prefix ++ after) (sym (flat_map-append spelling p.tokens (token ∷ [])
      ∙ ap (λ (more : List ℕ). flat_map spelling p.tokens ++ more) (append-nil (spelling token))));
  columns = sym (list_any-append is_column p.tokens (token ∷ []) ∙ ap (λ (any : Bool). any || (is_column token || false)) (sym p.columns)
      ∙ or-false has_cell (is_column token));
}

-- if no token begins the remainder, reading tokens from it gives the fault of the remainder
tokens_at-stuck : (place : ℕ) (remainder : List ℕ) (fault : WechslerFault) → IsStuck remainder → fault_without_token place remainder ≡ Some fault → tokens_at place remainder ≡ Err fault
tokens_at-stuck place [] fault stuck e = absurd (cc)
tokens_at-stuck place (b ∷ remainder) fault stuck e = go (is_character b) refl
  where
    go : (c : Bool) → is_character b ≡ c → tokens_at place (b ∷ remainder) ≡ Err fault
    go false h = tokens_at-bad place b remainder h ∙ (let f : BadByte place ≡ fault = (let k = rw h at e in cc) in ap (λ (f : WechslerFault). Err f) f)
    go true h =
        let s = stuck h in
        let f : ShortRun place ≡ fault = (let k = rw h at e in cc) in
        rw s.0 (tokens_at-short_run place remainder s.1 ∙ ap (λ (f : WechslerFault). Err f) f)

pub Passed_fault : (text remainder : List ℕ) (has_cell : Bool) (fault : WechslerFault) → Passed text remainder has_cell → IsStuck remainder
    → fault_without_token (length text - length remainder) remainder ≡ Some fault → result_err (wechsler_pattern text) ≡ Some fault
Passed_fault text remainder has_cell fault p stuck e =
    let at : length text - length remainder ≡ 0 + length (flat_map spelling p.tokens) =
    omega (arith, ap length p.whole, length-append (flat_map spelling p.tokens) remainder) in
    rw (tokens_at-stops p.tokens remainder text 0 (length text - length remainder) fault p.each p.whole at
    (tokens_at-stuck (length text - length remainder) remainder fault stuck e)) refl

-- if there is no fault at the remainder, the remainder is empty; then the tokens spell the whole text, and `has_cell`
-- says whether the pattern of the text has a live cell
fault_at-none : (place : ℕ) (remainder : List ℕ) → fault_without_token place remainder ≡ None → remainder ≡ []
fault_at-none place [] e = refl
fault_at-none place (b ∷ remainder) e = absurd (cc)

Passed_spells : (text remainder : List ℕ) (has_cell : Bool) (place : ℕ) (p : Passed text remainder has_cell) → fault_without_token place remainder ≡ None → tokens_at 0 text ≡ Ok p.tokens
Passed_spells text remainder has_cell place p e =
    ap (λ (t : List ℕ). tokens_at 0 t) (p.whole ∙ ap (λ (more : List ℕ). flat_map spelling p.tokens ++ more) (fault_at-none place remainder e)
    ∙ append-nil (flat_map spelling p.tokens)) ∙ tokens_at-spelled p.tokens p.each 0

pub Passed_empty : (text remainder : List ℕ) (has_cell : Bool) (place : ℕ) → Passed text remainder has_cell → fault_without_token place remainder ≡ None → has_cell ≡ false
    → result_err (wechsler_pattern text) ≡ Some Empty
Passed_empty text remainder has_cell place p e none = rw (Passed_spells text remainder has_cell place p e, unless_empty-none p.tokens (sym p.columns ∙ none)) refl

pub Passed_cells : (text remainder : List ℕ) (has_cell : Bool) (place : ℕ) → Passed text remainder has_cell → fault_without_token place remainder ≡ None → has_cell ≡ true
    → result_err (wechsler_pattern text) ≡ None
Passed_cells text remainder has_cell place p e some = rw (Passed_spells text remainder has_cell place p e, unless_empty-some p.tokens p.each (sym p.columns ∙ some)) refl

-- if a text begins with a token, the tokens that spell the text are this token, followed by tokens that spell the
-- remainder
pub record TokensAfter (token : Token) (after : List ℕ) (tokens : List Token) : Type 0 where
  pub more : List Token
  pub spells : Spells more after
  pub is : tokens ≡ token ∷ more

Spells_after : (tokens : List Token) (remainder after : List ℕ) (token : Token) → Spells tokens remainder → Begins remainder token after → TokensAfter token after tokens
Spells_after tokens remainder after token s b = go (tokens_at (0 + length (spelling token)) after) refl
  where
    go : (r : Result (List Token) WechslerFault) → tokens_at (0 + length (spelling token)) after ≡ r → TokensAfter token after tokens
    go (Ok more) e =
        let same : with_token token (Ok more) ≡ Ok tokens =
        ap (with_token token) (sym e) ∙ sym (tokens_at-token token b.is_token 0 after) ∙ ap (λ (t : List ℕ). tokens_at 0 t) (sym b.spelled)
        ∙ tokens_at-Spells tokens remainder 0 s in
        record { more = more; spells = Spells-tokens_at more after (0 + length (spelling token)) e; is = cc }
    go (Err fault) e =
        let same : with_token token (Err fault) ≡ Ok tokens =
        ap (with_token token) (sym e) ∙ sym (tokens_at-token token b.is_token 0 after) ∙ ap (λ (t : List ℕ). tokens_at 0 t) (sym b.spelled)
        ∙ tokens_at-Spells tokens remainder 0 s in
        absurd (cc)

-- if no token begins a text, only the empty list of tokens can spell it
Spells_stuck : (tokens : List Token) (remainder : List ℕ) → Spells tokens remainder → IsStuck remainder → tokens ≡ []
unfolding tokens_at
Spells_stuck tokens [] s stuck = let e : tokens_at 0 [] ≡ Ok tokens = tokens_at-Spells tokens [] 0 s in cc
Spells_stuck tokens (b ∷ remainder) s stuck =
    let told = tokens_at-stuck 0 (b ∷ remainder) (if is_character b then ShortRun 0 else BadByte 0) stuck refl in
    let e : Err (if is_character b then ShortRun 0 else BadByte 0) ≡ Ok tokens = sym told ∙ tokens_at-Spells tokens (b ∷ remainder) 0 s in
    absurd (cc)

-- `cells`, followed by the cells of the tokens that spell the remainder, is the list of all cells
pub record ToCome (remainder : List ℕ) (cells : List Cell) (strip x : ℕ) (all : List Cell) : Type 0 where
  pub tokens : List Token
  pub spells : Spells tokens remainder
  pub cells_are : cells ++ cells_from strip x tokens ≡ all

-- the loop over the tokens has reached the remainder, in this strip and column
pub record Gathered (text remainder : List ℕ) (cells : List Cell) (strip x : ℕ) : Type 0 where
  pub strips : strip + length remainder ≤ length text
  pub columns : x + 39 * length remainder ≤ 39 * length text
  pub to_come : (tokens : List Token) → Spells tokens text → ToCome remainder cells strip x (cells_from 0 0 tokens)

pub Gathered_more : (text remainder after : List ℕ) (token : Token) (cells more : List Cell) (strip x next_strip next_x : ℕ)
    → Gathered text remainder cells strip x → Begins remainder token after
    → ((tokens : List Token) → more ++ cells_from next_strip next_x tokens ≡ cells ++ cells_from strip x (token ∷ tokens)) → next_strip ≤ strip + 1
    → next_x ≤ x + 39
    → Gathered text after more next_strip next_x
Gathered_more text remainder after token cells more strip x next_strip next_x g b added strips columns =
    let shorter : length after < length remainder = length-Begins remainder token after b in
    record {
      strips = omega (arith, g.strips);
      columns = omega (arith, g.columns);
      to_come = λ all s.
          let t = g.to_come all s in
          let f = Spells_after t.tokens remainder after token t.spells b in
          record {
            tokens = f.more;
            spells = f.spells;
            cells_are = added f.more
                ∙ ap (λ (tokens : List Token). cells ++ cells_from strip x tokens) (sym f.is) ∙ t.cells_are;
          };
    }

pub Gathered_all : (text remainder : List ℕ) (cells : List Cell) (strip x : ℕ) → Gathered text remainder cells strip x → IsStuck remainder → (tokens : List Token)
    → Spells tokens text → cells ≡ cells_from 0 0 tokens
unfolding cells_from
Gathered_all text remainder cells strip x g stuck tokens s =
    let t = g.to_come tokens s in
    sym (append-nil cells) ∙ ap (λ (left : List Token). cells ++ cells_from strip x left) (sym (Spells_stuck t.tokens remainder t.spells stuck)) ∙ t.cells_are

-- a text without a fault: its tokens, and the pattern of these tokens
pub record IsSound (text : List ℕ) : Type 0 where
  pub tokens : List Token
  pub spells : Spells tokens text
  pub pattern : wechsler_pattern text ≡ Ok (token_cells tokens)

pub sound : (text : List ℕ) → result_err (wechsler_pattern text) ≡ None → IsSound text
sound text h = go (tokens_at 0 text) refl
  where
    some : (tokens : List Token) (cells : List Cell) → cells ≡ token_cells tokens → tokens_at 0 text ≡ Ok tokens
        → result_err (unless_empty cells) ≡ None → wechsler_pattern text ≡ Ok (token_cells tokens)
    some tokens [] is e none = absurd (cc)
    some tokens (c ∷ cells) is e none = rw (e, ← is) refl

    go : (r : Result (List Token) WechslerFault) → tokens_at 0 text ≡ r → IsSound text
    go (Ok tokens) e = record { tokens = tokens; spells = Spells-tokens_at tokens text 0 e; pattern = some tokens (token_cells tokens) refl e (rw e at h) }
    go (Err fault) e = absurd (let k = rw e at h in cc)

-- the cells of a text of at most 10,000 bytes lie on the plane
pub Spells-on_plane : (tokens : List Token) (text : List ℕ) → Spells tokens text → length text ≤ 10000 → list_all on_plane (cells_from 0 0 tokens) ≡ true
Spells-on_plane tokens text s short =
    let few : length tokens ≤ 10000 = omega (arith, length-spelled tokens, ap length s.spelled) in
    cells_from-on_plane tokens s.each 0 0 (omega arith) (omega arith)
