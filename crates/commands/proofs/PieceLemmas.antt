-- The piece of a line at the beginning of some bytes: it goes up to the first line feed, or has all bytes.
use Rattle.std.proofs.Common.{◌≡◌, ◌≢◌, ◌<◌, ◌≤◌, ◌+◌, ◌∙◌, ◌++◌, ◌==◌, ℕ, zero, suc, false, true}
use Rattle.std.proofs.Common.{List, [], ◌∷◌, Some, None, ap, append-nil, arith, get_or, length, refl, sym, take}
use Rattle.std.proofs.lemmas.Bool.{eqb-false, eqb-true}
use Rattle.std.proofs.lemmas.List.{get_or-take, length-take, take_more}
use Rattle.std.proofs.lemmas.List.Elements.{All-from_get_or, All-nil}
use Rattle.memchr.specs.Find.{IsFirstByte, Nowhere, Passes, is_byte}
use Rattle.commands.specs.declared.lines.LineEnd.TheVariants.{Feed, Input}
use Rattle.commands.specs.Lines.{IsOneLine, IsPieceOf}

-- if none of the first `n` bytes is a line feed, these bytes are part of one line
none_before : (bytes : List ℕ) (n : ℕ) → n ≤ length bytes → Nowhere (Passes (is_byte 10) bytes) 0 n → IsOneLine (take n bytes)
none_before bytes n within nowhere =
    All-from_get_or (λ byte. byte ≢ 10) (take n bytes) 0 (λ i less is.
    let below : i < n = omega (arith, less, length-take n bytes) in
    nowhere i (omega arith) below (ap (λ x. is_byte 10 x) (sym (get_or-take n bytes i 0 below) ∙ is)))

-- the bytes up to the first line feed are a piece that ends its line
pub ended_piece : (bytes : List ℕ) (n : ℕ) → IsFirstByte (is_byte 10) bytes (Some n) → IsPieceOf bytes (record { length = n; size = n + 1; end = Some Feed })
ended_piece bytes n first =
    let high = first.0.high in record {
      within = omega (arith, high);
      bound = omega (arith, high);
      one = none_before bytes n (omega (arith, high)) first.0.before;
      ended = take_more bytes n 0 high ∙ ap (λ x. take n bytes ++ x ∷ []) (eqb-true (get_or bytes n 0) 10 first.1);
      last = λ is. cc;
      whole = λ is. cc;
      some = λ is. cc;
    }

-- if there are bytes, but no line feed, all of them are a piece
pub whole_piece : (bytes : List ℕ) → IsFirstByte (is_byte 10) bytes None → (length bytes == 0) ≡ false
    → IsPieceOf bytes (record { length = length bytes; size = length bytes; end = None })
whole_piece bytes nowhere there = record {
  within = omega arith;
  bound = omega arith;
  one = none_before bytes (length bytes) (omega arith) nowhere;
  ended = sym (append-nil (take (length bytes) bytes));
  last = λ is. cc;
  whole = λ is. refl;
  some = λ is. let none = eqb-false (length bytes) 0 there in go (length bytes) none;
}
  where
    go : (n : ℕ) → n ≢ 0 → 0 < n
    go zero not = absurd (not refl)
    go (suc n) not = omega arith

-- if there are no bytes, the piece is empty, and the end of the input ends its line
pub empty_piece : (bytes : List ℕ) → (length bytes == 0) ≡ true → IsPieceOf bytes (record { length = 0; size = 0; end = Some Input })
empty_piece [] none = record { within = omega arith; bound = omega arith; one = All-nil (λ byte. byte ≢ 10); ended = refl; last = λ is. refl; whole = λ is. cc; some = λ is. cc }
empty_piece (x ∷ xs) none = let bad : length (x ∷ xs) ≡ 0 = eqb-true (length (x ∷ xs)) 0 none in absurd (omega (arith, bad))
