-- Lemmas about the list of all numbers in a range or in several ranges.
use Rattle.std.proofs.Common.{◌≡◌, ◌∙◌, ◌+◌, ◌<◌, ◌≤◌, ℕ, zero, suc, true}
use Rattle.std.proofs.Common.{List, [], ◌∷◌, ◌++◌, add-one, add-zero, ap, sym, arith}
use Rattle.std.proofs.lemmas.Bool.{and_from}
use Rattle.std.proofs.lemmas.Bool.{le-leb, lt-ltb, or_left, or_right}
use Rattle.std.proofs.lemmas.List.Elements.{All-append, All-cons, All-nil}
use Rattle.std.specs.List.{All}
use Rattle.std.specs.List.{range_with_len}
use Rattle.ranges.specs.declared.range.Range.{Range}
use Rattle.ranges.specs.Ranges.{end_of, is_in}
use Rattle.haul_core.specs.Missing.{numbers_of_range, numbers_of}

range_push : (a n : ℕ) → range_with_len a (suc n) ≡ range_with_len a n ++ (a + n) ∷ []
range_push a zero = ap (λ (k : ℕ). k ∷ []) (sym (add-zero a))
range_push a (suc n) = ap (λ (more : List ℕ). a ∷ more) (range_push (a + 1) n ∙ ap (λ (k : ℕ). range_with_len (a + 1) n ++ k ∷ []) (omega arith))

-- a range of n + 1 numbers consists of its first n numbers, followed by its last number j
pub range_more : (a n j : ℕ) → a + n ≡ j → range_with_len a (n + 1) ≡ range_with_len a n ++ j ∷ []
range_more a n j e = ap (range_with_len a) (add-one n) ∙ range_push a n ∙ ap (λ (k : ℕ). range_with_len a n ++ k ∷ []) e

-- ---- the numbers of ranges lie in the ranges

numbers_between : (low high a k : ℕ) → low ≤ a → a + k ≤ high → All (λ n. (low ≤ n) × (n < high)) (range_with_len a k)
numbers_between low high a zero begin end_ = All-nil (λ n. (low ≤ n) × (n < high))
numbers_between low high a (suc k) begin end_ =
    All-cons (λ n. (low ≤ n) × (n < high)) a (range_with_len (a + 1) k) (begin, omega arith)
    (numbers_between low high (a + 1) k (omega arith) (omega arith))

pub numbers_within : (ranges : List Range) → All (λ n. is_in ranges n ≡ true) (numbers_of ranges)
numbers_within [] = All-nil (λ n. is_in [] n ≡ true)
numbers_within (r ∷ more) =
    All-append (λ n. is_in (r ∷ more) n ≡ true) (numbers_of_range r) (numbers_of more)
    (λ k d low. let within = numbers_between r.first (end_of r) r.first r.count (omega arith) (omega arith) k d low in
    or_left _ _ (and_from _ _ (le-leb _ _ within.0) (lt-ltb _ _ within.1)))
    (λ k d low. or_right _ _ (numbers_within more k d low))
