-- Lemmas on seeds: the first invisible byte of a text, the padding with zeros, and why a seed is UTF-8.
use Rattle.std.proofs.Common.{◌≡◌, refl, ℕ, suc, ◌+◌, ◌≤◌, Bool, true, false, not, List, [], ◌∷◌, position, length, None, Option, Some, Err, nat_le, nat_lt, arith, cond, ◌&&◌}
use Rattle.std.proofs.Common.{◌∙◌, ◌++◌, ◌-◌, ◌<◌, ap, append_assoc, drop, get_or, replicate, set, sym, take}
use Rattle.std.specs.List.{list_all, position_from, prefix_len}
use Rattle.std.specs.Str.{IsAscii, IsUtf8}
use Rattle.std.proofs.lemmas.Bool.{false≢true, leb-true, ltb-false, ltb-true}
use Rattle.std.proofs.lemmas.List.{drop_all, drop_more, length-take-le, set_at, take_all, take_more}
use Rattle.std.proofs.lemmas.Str.{IsUtf8-from_ascii}
use Rattle.std.proofs.lemmas.Str.Ascii.{IsAscii-cons, IsAscii-nil}
use Rattle.survey_core.specs.Seeds.{IsSeed, is_invisible, is_visible, most_bytes, seed_read, seed_with_fault}
use Rattle.survey_core.specs.declared.seed.SeedFault.TheVariants.{TooLong}

-- if `position` finds no invisible byte, all bytes are visible
pub all_visible : (bytes : List ℕ) → position is_invisible bytes ≡ None → list_all is_visible bytes ≡ true
all_visible bytes e = reached bytes (whole (nat_lt (prefix_len (λ b. not (is_invisible b)) bytes) (length bytes)) refl e)
  where
    whole : (b : Bool) → nat_lt (prefix_len (λ b. not (is_invisible b)) bytes) (length bytes) ≡ b
        → cond b (Some (prefix_len (λ b. not (is_invisible b)) bytes)) None ≡ None → length bytes ≤ prefix_len (λ b. not (is_invisible b)) bytes
    whole true is e = cc
    whole false is e = ltb-false _ _ is

    reached : (bs : List ℕ) → length bs ≤ prefix_len (λ b. not (is_invisible b)) bs → list_all is_visible bs ≡ true
    reached [] h = refl
    reached (d ∷ ds) h = head (is_visible d) h (reached ds)
      where
        head : (b : Bool) → length (d ∷ ds) ≤ cond (not (not b)) (1 + prefix_len (λ b. not (is_invisible b)) ds) 0
            → (length ds ≤ prefix_len (λ b. not (is_invisible b)) ds → list_all is_visible ds ≡ true) → (b && list_all is_visible ds) ≡ true
        head true h ih = ih (omega arith)
        head false h ih = absurd (omega arith)

-- the first invisible byte determines how a text that isn't too long is read
pub read_as : (text : List ℕ) (found : Option ℕ) → length text ≤ 64 → position is_invisible text ≡ found
    → seed_with_fault text found ≡ seed_read text
read_as text found short is = go (nat_lt most_bytes (length text)) refl
  where
    go : (b : Bool) → nat_lt most_bytes (length text) ≡ b
        → seed_with_fault text found ≡ cond b (Err TooLong) (seed_with_fault text (position is_invisible text))
    go true e = let long : 64 < length text = ltb-true 64 (length text) e in absurd (omega (arith, long, short))
    go false e = ap (seed_with_fault text) (sym is)

-- if an array has the first `place` bytes, padded with zeros to 64 bytes, and byte `place` is stored at this place, the
-- array has the first `place` + 1 bytes, padded with zeros to 64 bytes
pub padded_more : (bytes : List ℕ) (place : ℕ) → place < length bytes → length bytes ≤ 64
    → set (take place bytes ++ replicate (64 - place) 0) place (get_or bytes place 0)
    ≡ take (place + 1) bytes ++ replicate (64 - (place + 1)) 0
padded_more bytes place low short =
    let zeros : List ℕ = replicate (64 - (place + 1)) 0 in
    let left : 64 - place ≡ suc (64 - (place + 1)) = omega arith in
    ap (λ (n : ℕ). set (take place bytes ++ replicate n 0) place (get_or bytes place 0)) left
    ∙ set_at (take place bytes) 0 zeros (get_or bytes place 0) place (length-take-le place bytes (omega arith))
    ∙ sym (append_assoc (take place bytes) (get_or bytes place 0 ∷ []) zeros)
    ∙ ap (λ (prefix : List ℕ). prefix ++ zeros) (sym (take_more bytes place 0 low))

-- once all bytes are stored, the array has the whole text, padded with zeros to 64 bytes
pub padded_all : (bytes : List ℕ) (place : ℕ) → place ≤ length bytes → length bytes ≤ place
    → take place bytes ++ replicate (64 - place) 0 ≡ bytes ++ replicate (64 - length bytes) 0
padded_all bytes place low high =
    let end : place ≡ length bytes = omega arith in
    (λ i. take_all place bytes high i ++ replicate (64 - end i) 0)

-- the first invisible byte from place i on is byte i if this is invisible, and otherwise the first one from i + 1 on
from_place : (bytes : List ℕ) (i : ℕ) → i < length bytes
    → position_from is_invisible i (drop i bytes)
    ≡ cond (is_invisible (get_or bytes i 0)) (Some i) (position_from is_invisible (i + 1) (drop (i + 1) bytes))
from_place bytes i low = ap (position_from is_invisible i) (drop_more bytes i 0 low)

pub invisible_here : (bytes : List ℕ) (i : ℕ) → i < length bytes → is_visible (get_or bytes i 0) ≡ false
    → position_from is_invisible i (drop i bytes) ≡ Some i
invisible_here bytes i low e =
    from_place bytes i low ∙ ap (λ (b : Bool). cond (not b) (Some i) (position_from is_invisible (i + 1) (drop (i + 1) bytes))) e

pub invisible_later : (bytes : List ℕ) (i : ℕ) → i < length bytes → is_visible (get_or bytes i 0) ≡ true
    → position_from is_invisible i (drop i bytes) ≡ position_from is_invisible (i + 1) (drop (i + 1) bytes)
invisible_later bytes i low e =
    from_place bytes i low ∙ ap (λ (b : Bool). cond (not b) (Some i) (position_from is_invisible (i + 1) (drop (i + 1) bytes))) e

pub invisible_nowhere : (bytes : List ℕ) (i : ℕ) → length bytes ≤ i → position_from is_invisible i (drop i bytes) ≡ None
invisible_nowhere bytes i all = ap (position_from is_invisible i) (drop_all i bytes all)

-- ---- seeds as texts

small_if : (b : ℕ) (low high : Bool) → nat_le b 126 ≡ high → (low && high) ≡ true → b < 128
small_if b true true is h = let k : b ≤ 126 = leb-true b 126 is in omega (arith, k)
small_if b true false is h = absurd (false≢true h)
small_if b false high is h = absurd (false≢true h)

both_true : (a b : Bool) → (a && b) ≡ true → (a ≡ true) × (b ≡ true)
both_true true b h = (refl, h)
both_true false b h = absurd (false≢true h)

visible_ascii : (bytes : List ℕ) → list_all is_visible bytes ≡ true → IsAscii bytes
visible_ascii [] h = IsAscii-nil
visible_ascii (b ∷ more) h =
    let both = both_true (is_visible b) (list_all is_visible more) h in
    IsAscii-cons b more (small_if b (nat_le 33 b) (nat_le b 126) refl both.0) (visible_ascii more both.1)

-- visible bytes are UTF-8
pub seed_utf8 : (bytes : List ℕ) → IsSeed bytes → IsUtf8 bytes
seed_utf8 bytes is = IsUtf8-from_ascii bytes (visible_ascii bytes is.visible)
