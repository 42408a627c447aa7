-- Texts as tokens: a text is read as the tokens that spell it, and the tokens that are read spell the text.
use Rattle.std.proofs.Common.{◌≡◌, ◌≢◌, ◌==◌, ◌<◌, ◌≤◌, ◌+◌, ◌-◌, ℕ, zero, suc, Bool, true, false, List, [], ◌∷◌, ◌++◌, length, refl, sym, ◌∙◌, ap}
use Rattle.std.proofs.Common.{subst, arith, ◌⊎◌, inl, inr, length-append, append_assoc, append-nil, codes, Result, Ok, Err}
use Rattle.std.specs.Prelude.{if◌then◌else◌}
use Rattle.std.proofs.lemmas.Bool.Decides.{nat_tests, Decides-eqb}
use Rattle.std.specs.List.{All, flat_map}
use Rattle.std.proofs.lemmas.List.Elements.{All-nil, All-cons, All-tail}
use Rattle.code_core.specs.declared.reader.Token.{Token}
use Rattle.code_core.specs.declared.reader.Token.TheVariants.{Column, Gap, NextStrip}
use Rattle.code_core.specs.declared.reader.WechslerFault.{WechslerFault}
use Rattle.code_core.specs.declared.reader.WechslerFault.TheVariants.{TooLong, BadByte, ShortRun, Empty}
use Rattle.code_core.specs.Tokens.{character, gap_text, spelling, IsToken, Spells, is_character}
use Rattle.code_core.specs.Reading.{character_value, single, long_gap, with_token, tokens_at}
use Rattle.code_core.specs.ReadingSteps.{Begins, IsStuck, has_character}

-- each character has a value from 0 to 35, and each of these values has a character
pub character_value-small : (b : ℕ) → is_character b ≡ true → character_value b ≤ 35
unfolding is_character character_value
character_value-small b h = grind (arith, nat_tests)

pub character-character_value : (b : ℕ) → is_character b ≡ true → character (character_value b) ≡ b
unfolding is_character character character_value
character-character_value b h = grind (arith, nat_tests)

pub is_character-character : (v : ℕ) → v ≤ 35 → is_character (character v) ≡ true
unfolding is_character character
is_character-character v h = grind (arith, nat_tests)

pub character_value-character : (v : ℕ) → v ≤ 35 → character_value (character v) ≡ v
unfolding character character_value
character_value-character v h = grind (arith, nat_tests)

-- the spelling of the token of one character, and of the token of `y` (121) and a character; both tokens are lawful
-- (`IsToken`)
pub spelling-single : (b : ℕ) → is_character b ≡ true → (b == 121) ≡ false → spelling (single b) ≡ b ∷ []
unfolding single gap_text
spelling-single b h many = go (b == 48) refl (b == 119) refl (b == 120) refl (b == 122) refl
  where
    go : (one : Bool) → (b == 48) ≡ one → (two : Bool) → (b == 119) ≡ two → (three : Bool) → (b == 120) ≡ three → (end : Bool) → (b == 122) ≡ end
        → spelling (single b) ≡ b ∷ []
    go true e1 two e2 three e3 end e4 = rw e1 (grind (arith, nat_tests))
    go false e1 true e2 three e3 end e4 = rw (e1, e2) (grind (arith, nat_tests))
    go false e1 false e2 true e3 end e4 = rw (e1, e2, e3) (grind (arith, nat_tests))
    go false e1 false e2 false e3 true e4 = rw (e1, e2, e3, e4) (grind (arith, nat_tests))
    go false e1 false e2 false e3 false e4 = rw (e1, e2, e3, e4) (ap (λ (c : ℕ). c ∷ []) (character-character_value b h))

pub IsToken-single : (b : ℕ) → is_character b ≡ true → (b == 121) ≡ false → IsToken (single b)
unfolding is_character single character_value
IsToken-single b h many = go (b == 48) refl (b == 119) refl (b == 120) refl (b == 122) refl
  where
    go : (one : Bool) → (b == 48) ≡ one → (two : Bool) → (b == 119) ≡ two → (three : Bool) → (b == 120) ≡ three → (end : Bool) → (b == 122) ≡ end
        → IsToken (single b)
    go true e1 two e2 three e3 end e4 = rw e1 (omega arith, omega arith)
    go false e1 true e2 three e3 end e4 = rw (e1, e2) (omega arith, omega arith)
    go false e1 false e2 true e3 end e4 = rw (e1, e2, e3) (omega arith, omega arith)
    go false e1 false e2 false e3 true e4 = rw (e1, e2, e3, e4) tt
    go false e1 false e2 false e3 false e4 = rw (e1, e2, e3, e4) (grind (arith, nat_tests), grind (arith, nat_tests))

pub spelling-long_gap : (c : ℕ) → is_character c ≡ true → spelling (long_gap c) ≡ 121 ∷ c ∷ []
unfolding gap_text
spelling-long_gap c h =
    let e : character (character_value c) ≡ c = character-character_value c h in
    grind (arith, nat_tests)

pub IsToken-long_gap : (c : ℕ) → is_character c ≡ true → IsToken (long_gap c)
IsToken-long_gap c h = (omega arith, omega (arith, character_value-small c h))

-- how a text is read: this depends on the first byte, and if the first byte is `y` (121), also on the second byte
pub tokens_at-bad : (place b : ℕ) (remainder : List ℕ) → is_character b ≡ false → tokens_at place (b ∷ remainder) ≡ Err (BadByte place)
unfolding tokens_at
tokens_at-bad place b [] bad = rw bad refl
tokens_at-bad place b (c ∷ remainder) bad = rw bad refl

pub tokens_at-single : (place b : ℕ) (remainder : List ℕ) → is_character b ≡ true → (b == 121) ≡ false
    → tokens_at place (b ∷ remainder) ≡ with_token (single b) (tokens_at (place + 1) remainder)
unfolding tokens_at
tokens_at-single place b [] h many = rw (h, many) refl
tokens_at-single place b (c ∷ remainder) h many = rw (h, many) refl

pub tokens_at-long : (place c : ℕ) (remainder : List ℕ) → is_character c ≡ true
    → tokens_at place (121 ∷ c ∷ remainder) ≡ with_token (long_gap c) (tokens_at (place + 2) remainder)
unfolding is_character tokens_at
tokens_at-long place c remainder h = rw h refl

pub tokens_at-short : (place c : ℕ) (remainder : List ℕ) → is_character c ≡ false → tokens_at place (121 ∷ c ∷ remainder) ≡ Err (ShortRun place)
unfolding is_character tokens_at
tokens_at-short place c remainder h = rw h refl

pub tokens_at-end : (place : ℕ) → tokens_at place (121 ∷ []) ≡ Err (ShortRun place)
unfolding is_character tokens_at
tokens_at-end place = refl

-- the character of a column is neither `0` (48) nor a letter from `w` (119) on
pub column-character : (v : ℕ) → 1 ≤ v → v ≤ 31 → (k : ℕ) → (k ≡ 48) ⊎ (119 ≤ k) → (character v == k) ≡ false
unfolding character
column-character v low high k (inl zero_byte) = grind (arith, nat_tests)
column-character v low high k (inr letter) = grind (arith, nat_tests)

pub single-character : (v : ℕ) → 1 ≤ v → v ≤ 31 → single (character v) ≡ Column v
unfolding single
single-character v low high =
    rw (
      column-character v low high 48 (inl refl),
      column-character v low high 119 (inr (omega arith)),
      column-character v low high 120 (inr (omega arith)),
      column-character v low high 122 (inr (omega arith)),
    )
    (ap (λ (k : ℕ). Column k) (character_value-character v (omega arith)))

-- a token is read from its spelling, whatever follows
abbrev pub IsRead : Token → Type 0
IsRead token = (place : ℕ) (remainder : List ℕ) → tokens_at place (spelling token ++ remainder) ≡ with_token token (tokens_at (place + length (spelling token)) remainder)

pub tokens_at-token : (token : Token) → IsToken token → IsRead token
unfolding is_character gap_text single
tokens_at-token (Column v) h = λ place remainder.
    tokens_at-single place (character v) remainder (is_character-character v (omega arith)) (column-character v h.0 h.1 121 (inr (omega arith)))
    ∙ ap (λ (t : Token). with_token t (tokens_at (place + 1) remainder)) (single-character v h.0 h.1)
tokens_at-token (Gap zero) h = absurd (omega arith)
tokens_at-token (Gap (suc zero)) h = λ place remainder. tokens_at-single place 48 remainder refl refl
tokens_at-token (Gap (suc (suc zero))) h = λ place remainder. tokens_at-single place 119 remainder refl refl
tokens_at-token (Gap (suc (suc (suc zero)))) h = λ place remainder. tokens_at-single place 120 remainder refl refl
tokens_at-token (Gap (suc (suc (suc (suc n))))) h =
    let e : character_value (character n) + 4 ≡ suc (suc (suc (suc n))) = omega (arith, character_value-character n (omega arith)) in
    let c : is_character (character n) ≡ true = is_character-character n (omega arith) in
    subst (λ (m : ℕ). IsRead (Gap m)) e (λ place remainder. rw (spelling-long_gap (character n) c) (tokens_at-long place (character n) remainder c))
tokens_at-token NextStrip h = λ place remainder. tokens_at-single place 122 remainder refl refl

-- a token has at least one byte, so the remainder of a text after a token is shorter than the text
length-gap_text : (n : ℕ) → 1 ≤ length (gap_text n)
unfolding gap_text
length-gap_text n = go (n == 1) (n == 2) (n == 3)
  where
    go : (one two three : Bool) → 1 ≤ length (if one then codes "0" else if two then codes "w" else if three then codes "x" else codes "y"
        ++ character (n - 4) ∷ [])
    go true two three = omega arith
    go false true three = omega arith
    go false false true = omega arith
    go false false false = omega arith

length-spelling : (token : Token) → 1 ≤ length (spelling token)
length-spelling (Column value) = omega arith
length-spelling (Gap n) = length-gap_text n
length-spelling NextStrip = omega arith

pub length-Begins : (text : List ℕ) (token : Token) (remainder : List ℕ) → Begins text token remainder → length remainder < length text
length-Begins text token remainder b = omega (arith, ap length b.spelled, length-append (spelling token) remainder, length-spelling token)

pub length-spelled : (tokens : List Token) → length tokens ≤ length (flat_map spelling tokens)
length-spelled [] = omega arith
length-spelled (token ∷ tokens) = omega (arith, length-spelled tokens, length-spelling token, length-append (spelling token) (flat_map spelling tokens))

-- these tokens followed by those of a result, or the fault of the result
abbrev pub with_tokens : List Token → Result (List Token) WechslerFault → Result (List Token) WechslerFault
with_tokens [] r = r
with_tokens (token ∷ tokens) r = with_token token (with_tokens tokens r)

-- several tokens are read from their spellings, whatever follows
pub tokens_at-tokens : (tokens : List Token) → All IsToken tokens → (place : ℕ) (remainder : List ℕ)
    → tokens_at place (flat_map spelling tokens ++ remainder) ≡ with_tokens tokens (tokens_at (place + length (flat_map spelling tokens)) remainder)
tokens_at-tokens [] each place remainder = ap (λ (k : ℕ). tokens_at k remainder) (omega arith)
tokens_at-tokens (token ∷ tokens) each place remainder =
    let size : place + length (spelling token) + length (flat_map spelling tokens) ≡ place + length (spelling token ++ flat_map spelling tokens) =
    omega (arith, length-append (spelling token) (flat_map spelling tokens)) in
    ap (λ (text : List ℕ). tokens_at place text) (append_assoc (spelling token) (flat_map spelling tokens) remainder)
    ∙ tokens_at-token token (each zero token (omega arith)) place (flat_map spelling tokens ++ remainder)
    ∙ ap (λ (r : Result (List Token) WechslerFault). with_token token r)
    (tokens_at-tokens tokens (All-tail IsToken token tokens each) (place + length (spelling token)) remainder)
    ∙ ap (λ (k : ℕ). with_token token (with_tokens tokens (tokens_at k remainder))) size

pub with_tokens-none : (tokens : List Token) → with_tokens tokens (Ok []) ≡ Ok tokens
with_tokens-none [] = refl
with_tokens-none (token ∷ tokens) = ap (λ (r : Result (List Token) WechslerFault). with_token token r) (with_tokens-none tokens)

pub with_tokens-err : (tokens : List Token) (fault : WechslerFault) → with_tokens tokens (Err fault) ≡ Err fault
with_tokens-err [] fault = refl
with_tokens-err (token ∷ tokens) fault = ap (λ (r : Result (List Token) WechslerFault). with_token token r) (with_tokens-err tokens fault)

-- a text is read as the tokens that spell it
pub tokens_at-spelled : (tokens : List Token) → All IsToken tokens → (place : ℕ) → tokens_at place (flat_map spelling tokens) ≡ Ok tokens
unfolding tokens_at
tokens_at-spelled tokens each place =
    ap (λ (text : List ℕ). tokens_at place text) (sym (append-nil (flat_map spelling tokens))) ∙ tokens_at-tokens tokens each place [] ∙ with_tokens-none tokens

-- a text begins with the token of its first character, or if that is `y` (121), with the token of the `y` and the next
-- character
pub Begins_single : (text : List ℕ) (token : Token) (b : ℕ) (remainder : List ℕ) → text ≡ b ∷ remainder → token ≡ single b → is_character b ≡ true → b ≢ 121
    → Begins text token remainder
Begins_single text token b remainder whole is h other =
    let many : (b == 121) ≡ false = grind (arith, nat_tests) in
    record { is_token = rw is (IsToken-single b h many); spelled = rw (whole, is, spelling-single b h many) refl }

pub Begins_long_gap : (c : ℕ) (remainder : List ℕ) → is_character c ≡ true → Begins (121 ∷ c ∷ remainder) (long_gap c) remainder
Begins_long_gap c remainder h = record { is_token = IsToken-long_gap c h; spelled = ap (λ (text : List ℕ). text ++ remainder) (sym (spelling-long_gap c h)) }

-- Proofs by cases. A nonempty text begins with a byte that isn't a character, with a token, or with `y` (121). If it
-- begins with `y` (`long_cases`), either no character follows, or the `y` and the next character are a token.
prefix_cases : (P : List ℕ → Type 0)
    → ((b : ℕ) (remainder : List ℕ) → is_character b ≡ false → P (b ∷ remainder))
    → ((token : Token) (remainder : List ℕ) → IsToken token → P remainder → P (spelling token ++ remainder))
    → (b : ℕ) (remainder : List ℕ) → P remainder → P (121 ∷ remainder) → P (b ∷ remainder)
prefix_cases P bad more b remainder after many = go (is_character b) refl (b == 121) refl
  where
    go : (c : Bool) → is_character b ≡ c → (m : Bool) → (b == 121) ≡ m → P (b ∷ remainder)
    go false h m e = bad b remainder h
    go true h false e = subst (λ (text : List ℕ). P (text ++ remainder)) (spelling-single b h e) (more (single b) remainder (IsToken-single b h e) after)
    go true h true e = subst (λ (k : ℕ). P (k ∷ remainder)) (sym ((Decides-eqb b 121).0 e)) many

long_cases : (P : List ℕ → Type 0)
    → ((remainder : List ℕ) → has_character remainder ≡ false → P (121 ∷ remainder))
    → ((token : Token) (remainder : List ℕ) → IsToken token → P remainder → P (spelling token ++ remainder))
    → (c : ℕ) (remainder : List ℕ) → P remainder → P (121 ∷ c ∷ remainder)
long_cases P short more c remainder after = go (is_character c) refl
  where
    go : (d : Bool) → is_character c ≡ d → P (121 ∷ c ∷ remainder)
    go false h = short (c ∷ remainder) h
    go true h = subst (λ (text : List ℕ). P (text ++ remainder)) (spelling-long_gap c h) (more (long_gap c) remainder (IsToken-long_gap c h) after)

-- induction over texts: each text is empty, has a fault at its beginning, or begins with a token
pub text_induction : (P : List ℕ → Type 0) → P []
    → ((b : ℕ) (remainder : List ℕ) → is_character b ≡ false → P (b ∷ remainder))
    → ((remainder : List ℕ) → has_character remainder ≡ false → P (121 ∷ remainder))
    → ((token : Token) (remainder : List ℕ) → IsToken token → P remainder → P (spelling token ++ remainder))
    → (text : List ℕ) → P text
text_induction P none bad short more [] = none
text_induction P none bad short more (b ∷ []) = prefix_cases P bad more b [] none (short [] refl)
text_induction P none bad short more (b ∷ c ∷ remainder) =
    prefix_cases P bad more b (c ∷ remainder) (text_induction P none bad short more (c ∷ remainder))
    (long_cases P short more c remainder (text_induction P none bad short more remainder))

pub tokens_at-short_run : (place : ℕ) (remainder : List ℕ) → has_character remainder ≡ false → tokens_at place (121 ∷ remainder) ≡ Err (ShortRun place)
tokens_at-short_run place [] h = tokens_at-end place
tokens_at-short_run place (c ∷ remainder) h = tokens_at-short place c remainder h

-- the text begins with a byte that isn't a character (`IsBad`), or with a `y` (121) and no character after it
-- (`IsShort`)
abbrev pub IsBad : List ℕ → Type 0
IsBad [] = ⊥
IsBad (b ∷ remainder) = is_character b ≡ false

abbrev pub IsShort : List ℕ → Type 0
IsShort [] = ⊥
IsShort (b ∷ remainder) = (b ≡ 121) × (has_character remainder ≡ false)

-- Tokens spell a prefix of the text, and `BeginsSo` holds for the remainder, which begins at `place` if the text begins
-- at `start`.
pub record Stops (BeginsSo : List ℕ → Type 0) (start : ℕ) (text : List ℕ) (place : ℕ) : Type 0 where
  pub tokens : List Token
  pub remainder : List ℕ
  pub each : All IsToken tokens
  pub whole : text ≡ flat_map spelling tokens ++ remainder
  pub at_place : place ≡ start + length (flat_map spelling tokens)
  pub so : BeginsSo remainder

Stops-more : (BeginsSo : List ℕ → Type 0) (start place : ℕ) (token : Token) (text : List ℕ) → IsToken token
    → Stops BeginsSo (start + length (spelling token)) text place → Stops BeginsSo start (spelling token ++ text) place
Stops-more BeginsSo start place token text h s = record {
  tokens = token ∷ s.tokens;
  remainder = s.remainder;
  each = All-cons IsToken token s.tokens h s.each;
  whole = ap (λ (more : List ℕ). spelling token ++ more) s.whole ∙ sym (append_assoc (spelling token) (flat_map spelling s.tokens) s.remainder);
  at_place = s.at_place ∙ omega (arith, length-append (spelling token) (flat_map spelling s.tokens));
  so = s.so;
}

-- if tokens are read, they spell the text; if a fault is found, it is a `BadByte` or a `ShortRun`, and `Stops` holds
-- for its place
abbrev pub Outcome : ℕ → List ℕ → Result (List Token) WechslerFault → Type 0
Outcome start text (Ok tokens) = Spells tokens text
Outcome start text (Err (BadByte place)) = Stops IsBad start text place
Outcome start text (Err (ShortRun place)) = Stops IsShort start text place
Outcome start text (Err TooLong) = ⊥
Outcome start text (Err Empty) = ⊥

Outcome-more : (token : Token) (text : List ℕ) → IsToken token → (start : ℕ) (r : Result (List Token) WechslerFault)
    → Outcome (start + length (spelling token)) text r → Outcome start (spelling token ++ text) (with_token token r)
Outcome-more token text h start (Ok tokens) o = record {
  each = All-cons IsToken token tokens h o.each;
  spelled =
      ap (λ (more : List ℕ). spelling token ++ more) o.spelled;
}
Outcome-more token text h start (Err (BadByte place)) o = Stops-more IsBad start place token text h o
Outcome-more token text h start (Err (ShortRun place)) o = Stops-more IsShort start place token text h o
Outcome-more token text h start (Err TooLong) o = o
Outcome-more token text h start (Err Empty) o = o

pub tokens_at-outcome : (text : List ℕ) (start : ℕ) → Outcome start text (tokens_at start text)
unfolding tokens_at
tokens_at-outcome = text_induction (λ text. (start : ℕ) → Outcome start text (tokens_at start text))
    (λ start. record { each = All-nil IsToken; spelled = refl })
    (λ b remainder bad start. rw (tokens_at-bad start b remainder bad) (let s : Stops IsBad start (b ∷ remainder) start =
    record { tokens = []; remainder = b ∷ remainder; each = All-nil IsToken; whole = refl; at_place = omega arith; so = bad } in s))
    (λ remainder short start. rw (tokens_at-short_run start remainder short)
    (let s : Stops IsShort start (121 ∷ remainder) start = record {
      tokens = [];
      remainder = 121 ∷ remainder;
      each = All-nil IsToken;
      whole = refl;
      at_place =
          omega arith;
      so = (refl, short);
    } in s))
    (λ token remainder h o start. rw (tokens_at-token token h start remainder)
    (Outcome-more token remainder h start (tokens_at (start + length (spelling token)) remainder) (o (start + length (spelling token)))))

-- tokens are read from a text if and only if they spell it
pub Spells-tokens_at : (tokens : List Token) (text : List ℕ) (place : ℕ) → tokens_at place text ≡ Ok tokens → Spells tokens text
Spells-tokens_at tokens text place e = subst (λ (r : Result (List Token) WechslerFault). Outcome place text r) e (tokens_at-outcome text place)

pub tokens_at-Spells : (tokens : List Token) (text : List ℕ) (place : ℕ) → Spells tokens text → tokens_at place text ≡ Ok tokens
tokens_at-Spells tokens text place s = ap (λ (t : List ℕ). tokens_at place t) (sym s.spelled) ∙ tokens_at-spelled tokens s.each place

-- a `BadByte` or a `ShortRun` is found at a place if and only if `Stops` holds for the place: tokens spell the text
-- up to there, and the remainder begins with the fault
pub Stops-bad : (text : List ℕ) (start place : ℕ) → tokens_at start text ≡ Err (BadByte place) → Stops IsBad start text place
Stops-bad text start place e = subst (λ (r : Result (List Token) WechslerFault). Outcome start text r) e (tokens_at-outcome text start)

pub Stops-short : (text : List ℕ) (start place : ℕ) → tokens_at start text ≡ Err (ShortRun place) → Stops IsShort start text place
Stops-short text start place e = subst (λ (r : Result (List Token) WechslerFault). Outcome start text r) e (tokens_at-outcome text start)

tokens_at-IsBad : (start : ℕ) (remainder : List ℕ) → IsBad remainder → tokens_at start remainder ≡ Err (BadByte start)
tokens_at-IsBad start [] so = absurd so
tokens_at-IsBad start (b ∷ remainder) so = tokens_at-bad start b remainder so

tokens_at-IsShort : (start : ℕ) (remainder : List ℕ) → IsShort remainder → tokens_at start remainder ≡ Err (ShortRun start)
tokens_at-IsShort start [] so = absurd so
tokens_at-IsShort start (b ∷ remainder) so = rw so.0 (tokens_at-short_run start remainder so.1)

pub tokens_at-stops : (tokens : List Token) (remainder text : List ℕ) (start place : ℕ) (fault : WechslerFault) → All IsToken tokens
    → text ≡ flat_map spelling tokens ++ remainder → place ≡ start + length (flat_map spelling tokens) → tokens_at place remainder ≡ Err fault
    → tokens_at start text ≡ Err fault
tokens_at-stops tokens remainder text start place fault each whole at_place e =
    ap (λ (t : List ℕ). tokens_at start t) whole ∙ tokens_at-tokens tokens each start remainder
    ∙ ap (λ (k : ℕ). with_tokens tokens (tokens_at k remainder)) (sym at_place) ∙ ap (λ (r : Result (List Token) WechslerFault). with_tokens tokens r) e
    ∙ with_tokens-err tokens fault

pub tokens_at-Stops_bad : (text : List ℕ) (start place : ℕ) → Stops IsBad start text place → tokens_at start text ≡ Err (BadByte place)
tokens_at-Stops_bad text start place s = tokens_at-stops s.tokens s.remainder text start place (BadByte place) s.each s.whole s.at_place
    (tokens_at-IsBad place s.remainder s.so)

pub tokens_at-Stops_short : (text : List ℕ) (start place : ℕ) → Stops IsShort start text place → tokens_at start text ≡ Err (ShortRun place)
tokens_at-Stops_short text start place s = tokens_at-stops s.tokens s.remainder text start place (ShortRun place) s.each s.whole s.at_place
    (tokens_at-IsShort place s.remainder s.so)

pub ruleset shorter = length-Begins

-- the empty text begins with neither a token nor a character
pub stuck_at_end : (text : List ℕ) → length text ≡ 0 → IsStuck text
stuck_at_end [] e = tt
stuck_at_end (b ∷ remainder) e = absurd (omega arith)

pub no_character : (text : List ℕ) → length text ≡ 0 → has_character text ≡ false
no_character [] e = refl
no_character (b ∷ remainder) e = absurd (omega arith)
