-- Ranges in normal form ascend, so only the last range that begins at a number or before it can have the number.
use Rattle.std.proofs.Common.{◌≡◌, ◌∙◌, ◌-◌, ◌<◌, ◌≤◌, ℕ, Bool, true, false, List, [], ◌∷◌, ap, arith, get_or, leb, length, refl, suc, sym, take, zero, ◌||◌}
use Rattle.std.proofs.Math.Bool.{or-false}
use Rattle.std.proofs.lemmas.Bool.{leb-false, leb-true}
use Rattle.std.proofs.lemmas.Bool.Decides.{nat_tests}
use Rattle.std.proofs.lemmas.List.{get_or-take, length-take-le}
use Rattle.std.specs.List.Sorted.{IsNonDecreasingBy, IsPartitionPoint}
use Rattle.ranges.specs.declared.range.Range.{Range}
use Rattle.ranges.specs.Ranges.{AreNormal, BeginAfter, end_of, is_in, is_in_range}

-- a range has no number before its first number
before : (n : ℕ) (r : Range) → n < r.first → is_in_range n r ≡ false
before n r early = grind (arith, nat_tests)

-- `end_of` is the first number after a range: neither it nor a later number is in the range
past : (n : ℕ) (r : Range) → end_of r ≤ n → is_in_range n r ≡ false
past n r late = grind (arith, nat_tests)

-- ranges that all begin after a number don't have it
pub all_later : (n : ℕ) (rs : List Range) → ((k : ℕ) (d : Range) → k < length rs → n < (get_or rs k d).first) → is_in rs n ≡ false
all_later n [] later = refl
all_later n (r ∷ more) later =
    ap (λ (b : Bool). b || is_in more n) (before n r (later 0 r (omega arith)))
    ∙ all_later n more (λ k d low. later (suc k) d (omega arith))

-- if the first range of a list in normal form begins after a place, all ranges of the list begin after the place
each_after : (place : ℕ) (rs : List Range) → AreNormal rs → BeginAfter place rs → (k : ℕ) (d : Range) → k < length rs → place < (get_or rs k d).first
each_after place [] normal starts k d low = absurd (omega arith)
each_after place (r ∷ more) normal starts zero d low = starts
each_after place (r ∷ more) normal starts (suc k) d low =
    let later = each_after (end_of r) more normal.2 normal.1 k d (omega arith) in
    omega arith

-- ranges in normal form ascend
pub ascends : (rs : List Range) → AreNormal rs → IsNonDecreasingBy (λ r. r.first) rs
ascends [] normal i j d order low = absurd (omega arith)
ascends (r ∷ more) normal zero zero d order low = omega arith
ascends (r ∷ more) normal zero (suc j) d order low =
    let later = each_after (end_of r) more normal.2 normal.1 j d (omega arith) in
    omega arith
ascends (r ∷ more) normal (suc i) zero d order low = absurd (omega arith)
ascends (r ∷ more) normal (suc i) (suc j) d order low = ascends more normal.2 i j d (omega arith) (omega arith)

-- n is in the set of the ranges if and only if n is in the last range that begins at n or before n
pub only_last : (n : ℕ) (rs : List Range) (i : ℕ) (d : Range) → AreNormal rs → i < length rs → (get_or rs i d).first ≤ n
    → ((k : ℕ) (d : Range) → suc i ≤ k → k < length rs → n < (get_or rs k d).first) → is_in rs n ≡ is_in_range n (get_or rs i d)
only_last n [] i d normal low begun later = absurd (omega arith)
only_last n (r ∷ more) zero d normal low begun later =
    let none : is_in more n ≡ false = all_later n more (λ k e below. later (suc k) e (omega arith) (omega arith)) in
    ap (λ (b : Bool). is_in_range n r || b) none ∙ or-false (is_in_range n r)
only_last n (r ∷ more) (suc i) d normal low begun later =
    let next = each_after (end_of r) more normal.2 normal.1 i d (omega arith) in
    ap (λ (b : Bool). b || is_in more n) (past n r (omega arith))
    ∙ only_last n more i d normal.2 (omega arith) begun (λ k e from below. later (suc k) e (omega arith) (omega arith))

-- the first `begun` ranges begin at n or before n, and the others begin after n
abbrev pub Begun : (n : ℕ) (rs : List Range) (begun : ℕ) → Type 0
Begun n rs begun = IsPartitionPoint (λ r. leb r.first n ≡ true) (λ r. leb r.first n ≡ false) rs begun

-- if no range begins at the number or before it, none has the number
pub none_begun : (n : ℕ) (rs : List Range) (begun : ℕ) → Begun n rs begun → begun ≤ length rs → length (take begun rs) ≤ 0 → is_in rs n ≡ false
none_begun n rs begun point bound empty =
    all_later n rs (λ k d low. leb-false _ _ (point.1 k d (omega (arith, empty, length-take-le begun rs bound)) low))

-- if some ranges begin at n or before n, the last of these has n exactly if the set has n
pub last_begun : (n : ℕ) (rs : List Range) (begun : ℕ) (last : Range) → AreNormal rs → Begun n rs begun → begun ≤ length rs → 0 < length (take begun rs)
    → last ≡ get_or (take begun rs) (length (take begun rs) - 1) last → is_in_range n last ≡ is_in rs n
last_begun n rs zero last normal point bound some is = absurd (omega (arith, some, length-take-le zero rs bound))
last_begun n rs (suc i) last normal point bound some is =
    let place : length (take (suc i) rs) - 1 ≡ i = omega (arith, length-take-le (suc i) rs bound) in
    let there : last ≡ get_or rs i last = is ∙ ap (λ (k : ℕ). get_or (take (suc i) rs) k last) place ∙ get_or-take (suc i) rs i last (omega arith) in
    let begun = leb-true _ _ (point.0 i last (omega arith) (omega arith)) in
    ap (is_in_range n) there
    ∙ sym (only_last n rs i last normal (omega arith) begun (λ k d from low. leb-false _ _ (point.1 k d from low)))
