-- The laws of reading a text: which pattern is read, and when each fault is found, in terms of tokens.
use Rattle.std.proofs.Common.{◌≡◌, ◌≢◌, ◌<◌, ◌≤◌, ◌+◌, ◌↔◌, ℕ, Bool, true, false, List, [], ◌∷◌, ◌++◌, length, take, drop, get_or, refl, sym, ◌∙◌, ap}
use Rattle.std.proofs.Common.{subst, arith, length-append, length-take-le, Result, Ok, Err, nat_lt}
use Rattle.std.specs.List.{flat_map}
use Rattle.std.specs.Prelude.{IfOk, IsErrOf, MatchResult, slice_index}
use Rattle.std.proofs.Math.Seq.{take-append_seam, get_or-append_seam}
use Rattle.std.proofs.lemmas.Bool.Decides.{nat_tests}
use Rattle.std.proofs.lemmas.List.{take-append-drop, drop_more, drop_all, get_or-append-add}
use Rattle.memory.specs.Witness.{out_of_memory}
use Rattle.plane_core.specs.declared.plane.cell.Cell.{Cell}
use Rattle.code_core.specs.declared.reader.Token.{Token}
use Rattle.code_core.specs.declared.reader.WechslerError.{WechslerError}
use Rattle.code_core.specs.declared.reader.WechslerError.TheVariants.{Fault, Memory}
use Rattle.code_core.specs.declared.reader.WechslerFault.{WechslerFault}
use Rattle.code_core.specs.declared.reader.WechslerFault.TheVariants.{TooLong, BadByte, ShortRun, Empty}
use Rattle.code_core.specs.Columns.{token_cells}
use Rattle.code_core.specs.Tokens.{spelling, is_character}
use Rattle.code_core.specs.Reading.{tokens_at, unless_empty, pattern_of_tokens, wechsler_pattern, wechsler_read, Says}
use Rattle.code_core.specs.ReadingFaults.{IsBadByte, IsShortRun}
use Rattle.code_core.specs.ReadingSteps.{has_character}
use Rattle.code_core.proofs.TokenReading.{Outcome, tokens_at-outcome, Stops, IsBad, IsShort, Stops-bad, Stops-short, tokens_at-Stops_bad}
use Rattle.code_core.proofs.TokenReading.{tokens_at-Stops_short, tokens_at-Spells, Spells-tokens_at}

-- a text of at most 10,000 bytes is read as its pattern or its fault, and a longer text has the fault `TooLong`
read-short : (text : List ℕ) → length text ≤ 10000 → wechsler_read text ≡ wechsler_pattern text
read-short text h = let e : nat_lt 10000 (length text) ≡ false = grind (arith, nat_tests) in rw e refl

read-long : (text : List ℕ) → 10000 < length text → wechsler_read text ≡ Err TooLong
read-long text h = let e : nat_lt 10000 (length text) ≡ true = grind (arith, nat_tests) in rw e refl

-- a text that is read as a pattern has at most 10,000 bytes
short-read : (text : List ℕ) (cells : List Cell) → wechsler_read text ≡ Ok cells → length text ≤ 10000
short-read text cells e = go (nat_lt 10000 (length text)) refl
  where
    go : (b : Bool) → nat_lt 10000 (length text) ≡ b → length text ≤ 10000
    go true h = absurd (let k = rw h at e in cc)
    go false h = grind (arith, nat_tests)

-- a text that is read as a pattern describes this pattern (`Says`)
Says-pattern_of : (text : List ℕ) (r : Result (List Token) WechslerFault) (cells : List Cell) → tokens_at 0 text ≡ r → pattern_of_tokens r ≡ Ok cells → Says text cells
Says-pattern_of text (Ok tokens) cells t e = record { tokens = tokens; spells = Spells-tokens_at tokens text 0 t; pattern = go (token_cells tokens) refl e }
  where
    go : (ds : List Cell) → token_cells tokens ≡ ds → unless_empty ds ≡ Ok cells → cells ≡ token_cells tokens
    go [] is h = absurd (cc)
    go (d ∷ ds) is h = let k : d ∷ ds ≡ cells = cc in sym k ∙ sym is
Says-pattern_of text (Err fault) cells t e = absurd (cc)

pub Says-read : (text : List ℕ) (cells : List Cell) → wechsler_read text ≡ Ok cells → Says text cells
Says-read text cells e = Says-pattern_of text (tokens_at 0 text) cells refl (sym (read-short text (short-read text cells e)) ∙ e)

-- if a text of at most 10,000 bytes describes a nonempty pattern, the text is read as this pattern
unless_empty-some : (cells : List Cell) → cells ≢ [] → unless_empty cells ≡ Ok cells
unless_empty-some [] some = absurd (some refl)
unless_empty-some (c ∷ cells) some = refl

pub wechsler_read-Says : (text : List ℕ) (cells : List Cell) → Says text cells → cells ≢ [] → length text ≤ 10000 → wechsler_read text ≡ Ok cells
wechsler_read-Says text cells s some short =
    read-short text short ∙ rw (tokens_at-Spells s.tokens text 0 s.spells, ← s.pattern) (unless_empty-some cells some)

-- a fault other than `Empty` was found when the tokens were read
pattern_of-err : (r : Result (List Token) WechslerFault) (fault : WechslerFault) → fault ≢ Empty → pattern_of_tokens r ≡ Err fault → r ≡ Err fault
pattern_of-err (Ok tokens) fault other e = absurd (go (token_cells tokens) e)
  where
    go : (cells : List Cell) → unless_empty cells ≡ Err fault → ⊥
    go [] h = other (cc)
    go (c ∷ cells) h = cc
pattern_of-err (Err f) fault other e = let k : f ≡ fault = cc in ap (λ (g : WechslerFault). Err g) k

-- a fault that `Outcome` excludes is never found when tokens are read
tokens_at-other : (text : List ℕ) (fault : WechslerFault) → (Outcome 0 text (Err fault) → ⊥) → tokens_at 0 text ≡ Err fault → ⊥
tokens_at-other text fault none e = none (subst (λ (r : Result (List Token) WechslerFault). Outcome 0 text r) e (tokens_at-outcome text 0))

pub too_long : (text : List ℕ) → (wechsler_read text ≡ Err TooLong) ↔ (10000 < length text)
too_long text = (λ e. go (nat_lt 10000 (length text)) refl e, λ h. read-long text h)
  where
    go : (b : Bool) → nat_lt 10000 (length text) ≡ b → wechsler_read text ≡ Err TooLong → 10000 < length text
    go true h e = grind (arith, nat_tests)
    go false h e = let other : TooLong ≢ Empty = λ k. cc in absurd
        (tokens_at-other text TooLong (λ o. o) (pattern_of-err (tokens_at 0 text) TooLong other (rw h at e)))

-- a text of at most 10,000 bytes has the fault `Empty` if and only if it describes the empty pattern
pub no_cell : (text : List ℕ) → length text ≤ 10000 → (wechsler_read text ≡ Err Empty) ↔ Says text []
no_cell text short = (
  λ e. there (tokens_at 0 text) refl (sym (read-short text short) ∙ e),
  λ s. read-short text short
      ∙ rw (tokens_at-Spells s.tokens text 0 s.spells, ← s.pattern) refl,
)
  where
    there : (r : Result (List Token) WechslerFault) → tokens_at 0 text ≡ r → pattern_of_tokens r ≡ Err Empty → Says text []
    there (Ok tokens) t e = record { tokens = tokens; spells = Spells-tokens_at tokens text 0 t; pattern = go (token_cells tokens) e }
      where
        go : (cells : List Cell) → unless_empty cells ≡ Err Empty → [] ≡ cells
        go [] h = refl
        go (c ∷ cells) h = absurd (cc)
    there (Err fault) t e = let k : fault ≡ Empty = cc in let f : tokens_at 0 text ≡ Err Empty = t ∙ ap (λ (g : WechslerFault). Err g) k in
        absurd (tokens_at-other text Empty (λ o. o) f)

-- The two faults that have a place: `Stops` says that tokens spell the text up to the place and that a faulty remainder
-- begins there. This is equivalent to the definition of the fault (`IsBadByte` or `IsShortRun`), and reading finds the
-- fault at the place exactly when the definition holds.
IsBadByte-Stops : (text : List ℕ) (place : ℕ) → Stops IsBad 0 text place → IsBadByte text place
IsBadByte-Stops text place s = go s.remainder s.whole s.so
  where
    at : place ≡ length (flat_map spelling s.tokens)
    at = s.at_place ∙ omega arith

    go : (remainder : List ℕ) → text ≡ flat_map spelling s.tokens ++ remainder → IsBad remainder → IsBadByte text place
    go [] whole so = absurd so
    go (b ∷ remainder) whole so = record {
      tokens = s.tokens;
      before = record { each = s.each; spelled = sym (rw (whole, at) (take-append_seam (flat_map spelling s.tokens) (b ∷ remainder))) };
      within = rw (whole, at) (omega (arith, length-append (flat_map spelling s.tokens) (b ∷ remainder)));
      bad = rw (whole, at, get_or-append_seam (flat_map spelling s.tokens) b remainder 0) so;
    }

Stops-IsBadByte : (text : List ℕ) (place : ℕ) → IsBadByte text place → Stops IsBad 0 text place
Stops-IsBadByte text place s = record {
  tokens = s.tokens;
  remainder = slice_index text place ∷ drop (place + 1) text;
  each = s.before.each;
  whole = sym (take-append-drop place text) ∙ ap (λ (remainder : List ℕ). take place text ++ remainder) (drop_more text place 0 s.within)
      ∙ ap (λ (prefix : List ℕ). prefix ++ slice_index text place ∷ drop (place + 1) text) (sym s.before.spelled);
  at_place = omega (arith, length-take-le place text (omega (arith, s.within)), ap length s.before.spelled);
  so = s.bad;
}

pub bad_byte : (text : List ℕ) (place : ℕ) → length text ≤ 10000 → (wechsler_read text ≡ Err (BadByte place)) ↔ IsBadByte text place
bad_byte text place short =
    let other : BadByte place ≢ Empty = λ k. cc in (
      λ e. IsBadByte-Stops text place (Stops-bad text 0 place (pattern_of-err (tokens_at 0 text) (BadByte place) other (sym (read-short text short) ∙ e))),
      λ s. read-short text short ∙ rw (tokens_at-Stops_bad text 0 place (Stops-IsBadByte text place s)) refl,
    )

IsShortRun-Stops : (text : List ℕ) (place : ℕ) → Stops IsShort 0 text place → IsShortRun text place
IsShortRun-Stops text place s = go s.remainder s.whole s.so
  where
    at : place ≡ length (flat_map spelling s.tokens)
    at = s.at_place ∙ omega arith

    none : (remainder : List ℕ) → has_character remainder ≡ false → 1 < length (121 ∷ remainder) → is_character (get_or (121 ∷ remainder) 1 0) ≡ false
    none [] h k = absurd (omega arith)
    none (c ∷ remainder) h k = h

    go : (remainder : List ℕ) → text ≡ flat_map spelling s.tokens ++ remainder → IsShort remainder → IsShortRun text place
    go [] whole so = absurd so
    go (b ∷ remainder) whole so = record {
      tokens = s.tokens;
      before = record { each = s.each; spelled = sym (rw (whole, at) (take-append_seam (flat_map spelling s.tokens) (b ∷ remainder))) };
      within = rw (whole, at) (omega (arith, length-append (flat_map spelling s.tokens) (b ∷ remainder)));
      run = rw (whole, at) (get_or-append_seam (flat_map spelling s.tokens) b remainder 0) ∙ so.0;
      short = λ k.
          let m : 1 < length (121 ∷ remainder) = omega (arith, ap length whole, length-append (flat_map spelling s.tokens) (b ∷ remainder)) in
          let e : slice_index text (place + 1) ≡ get_or (121 ∷ remainder) 1 0 =
          rw (whole, at) (get_or-append-add (flat_map spelling s.tokens) (b ∷ remainder) 1 0 ∙ ap (λ (c : ℕ). get_or (c ∷ remainder) 1 0) so.0) in
          ap is_character e ∙ none remainder so.1 m;
    }

Stops-IsShortRun : (text : List ℕ) (place : ℕ) → IsShortRun text place → Stops IsShort 0 text place
Stops-IsShortRun text place s = record {
  tokens = s.tokens;
  remainder = slice_index text place ∷ drop (place + 1) text;
  each = s.before.each;
  whole = sym (take-append-drop place text) ∙ ap (λ (remainder : List ℕ). take place text ++ remainder) (drop_more text place 0 s.within)
      ∙ ap (λ (prefix : List ℕ). prefix ++ slice_index text place ∷ drop (place + 1) text) (sym s.before.spelled);
  at_place = omega (arith, length-take-le place text (omega (arith, s.within)), ap length s.before.spelled);
  so = (s.run, after_y (nat_lt (place + 1) (length text)) refl);
}
  where
    after_y : (b : Bool) → nat_lt (place + 1) (length text) ≡ b → has_character (drop (place + 1) text) ≡ false
    after_y true h = let k : place + 1 < length text = grind (arith, nat_tests) in rw (drop_more text (place + 1) 0 k) (s.short k)
    after_y false h = let k : length text ≤ place + 1 = grind (arith, nat_tests) in rw (drop_all (place + 1) text k) refl

pub short_run : (text : List ℕ) (place : ℕ) → length text ≤ 10000 → (wechsler_read text ≡ Err (ShortRun place)) ↔ IsShortRun text place
short_run text place short =
    let other : ShortRun place ≢ Empty = λ k. cc in (
      λ e. IsShortRun-Stops text place (Stops-short text 0 place (pattern_of-err (tokens_at 0 text) (ShortRun place) other (sym (read-short text short) ∙ e))),
      λ s. read-short text short ∙ rw (tokens_at-Stops_short text 0 place (Stops-IsShortRun text place s)) refl,
    )

-- if a result has the fault exactly when reading finds the fault, and reading finds it exactly when P holds, then the
-- result has the fault exactly when P holds
pub told : (P : Type 0) (text : List ℕ) (r : Result (List Cell) WechslerError) (fault : WechslerFault)
    → (IsErrOf r (Fault fault) ↔ (wechsler_read text ≡ Err fault)) → (wechsler_read text ≡ Err fault) ↔ P → IsErrOf r (Fault fault) ↔ P
told P text r fault f law = (λ e. law.0 (f.0 e), λ p. f.1 (law.1 p))

-- if a result agrees with what is read, and a pattern is read, the result is this pattern, unless memory ran out
pub read_as : (text : List ℕ) (r : Result (List Cell) WechslerError) (cells : List Cell) → IfOk r (λ read. wechsler_read text ≡ Ok read)
    → ((fault : WechslerFault) → IsErrOf r (Fault fault) ↔ (wechsler_read text ≡ Err fault))
    → wechsler_read text ≡ Ok cells → MatchResult r (λ read. read ≡ cells) (λ error. error ≡ Memory out_of_memory)
read_as text (Ok read) cells ok faults e = let k : wechsler_read text ≡ Ok read = ok in cc
read_as text (Err (Fault fault)) cells ok faults e = let k : wechsler_read text ≡ Err fault = (faults fault).0 refl in absurd (cc)
read_as text (Err (Memory error)) cells ok faults e = refl
