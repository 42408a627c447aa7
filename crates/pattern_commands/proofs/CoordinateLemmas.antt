-- Lemmas on writing coordinates: how a signed number and a list of lines are written.
use Rattle.std.proofs.Common.{◌≡◌, ◌∙◌, ◌++◌, ◌+◌, ◌<◌, ℕ, ℤ, FitsSigned, List, ap, append_assoc, drop, flat_map, get_or, length, of_z, sym, to_z, w32}
use Rattle.std.proofs.lemmas.Int.{to_z-of_z}
use Rattle.std.proofs.lemmas.List.{drop_more}
use Rattle.std.specs.Fmt.{signed_decimal}

-- a number that fits into 32 bits is written unchanged
pub shown : (n : ℤ) → FitsSigned w32 n → signed_decimal (to_z w32 (of_z w32 n)) ≡ signed_decimal n
shown n fits = ap signed_decimal (to_z-of_z w32 n fits)

-- the lines from element `i` on are the line of element `i`, and then the lines from element `i + 1` on
pub lines_next : {A : Type 0} (line : A → List ℕ) (xs : List A) (i : ℕ) (d : A) (text prefix : List ℕ) → i < length xs
    → text ≡ prefix ++ flat_map line (drop i xs) → text ≡ (prefix ++ line (get_or xs i d)) ++ flat_map line (drop (i + 1) xs)
lines_next line xs i d text prefix more is =
    is ∙ ap (λ remainder. prefix ++ flat_map line remainder) (drop_more xs i d more)
    ∙ sym (append_assoc prefix (line (get_or xs i d)) (flat_map line (drop (i + 1) xs)))
