-- Case distinctions on numbers.
use Rattle.std.proofs.Common.{◌≡◌, ◌≢◌, ◌==◌, ◌<◌, ◌≤◌, ℕ, Bool, true, false, nat_lt, arith, refl, inl, inr, ◌⊎◌}
use Rattle.std.proofs.lemmas.Bool.{eqb-true, eqb-false, ltb-true, ltb-false}

pub same_or_not : (a b : ℕ) → (a ≡ b) ⊎ (a ≢ b)
same_or_not a b = split (a == b) refl
  where
    split : (t : Bool) → (a == b) ≡ t → (a ≡ b) ⊎ (a ≢ b)
    split true e = inl (eqb-true a b e)
    split false e = inr (eqb-false a b e)

pub less_or_not : (a b : ℕ) → (a < b) ⊎ (b ≤ a)
less_or_not a b = split (nat_lt a b) refl
  where
    split : (t : Bool) → nat_lt a b ≡ t → (a < b) ⊎ (b ≤ a)
    split true e = inl (ltb-true a b e)
    split false e = inr (ltb-false a b e)

pub not_one : (n : ℕ) → n < 2 → (n == 1) ≡ false → n ≡ 0
not_one n low e = let apart = eqb-false n 1 e in omega arith
