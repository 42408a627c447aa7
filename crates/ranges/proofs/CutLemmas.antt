-- A text of ranges can be split into numbers in one way only: a number is 0, or it goes on as long as there are digits.
use Rattle.std.proofs.Common.{◌≡◌, ◌≢◌, ◌<◌, ◌≤◌, ◌^◌, ◌++◌, ℕ, Bool, true, false, List, [], ◌∷◌, length, refl, sym, ◌∙◌, ap, arith, rules}
use Rattle.std.proofs.Common.{append_assoc, append-nil, length-append}
use Rattle.std.specs.Char.{is_ascii_digit}
use Rattle.std.specs.List.{AllByRecursion}
use Rattle.std.specs.Prelude.{slice_index}
use Rattle.std.specs.Str.{all_ascii_digits}
use Rattle.ranges.specs.declared.range.Range.{Range}
use Rattle.ranges.specs.RangeLists.{Written, joined, pair_text, written}
use Rattle.ranges.specs.RangeListFaults.{IsDecimal}
use Rattle.ranges.specs.RangeListSteps.{has_digit}
use Rattle.ranges.proofs.DecimalLemmas.{IsDecimal-decimal}

-- the decimal doesn't continue in the remainder: a digit follows the decimal only if the decimal begins with `0` (48)
abbrev pub Ends : List ℕ → List ℕ → Type 0
Ends number remainder = has_digit remainder ≡ true → slice_index number 0 ≡ 48

cut_digits : (d e x y : List ℕ) → all_ascii_digits d ≡ true → all_ascii_digits e ≡ true → has_digit x ≡ false → has_digit y ≡ false → d ++ x ≡ e ++ y
    → (d ≡ e) × (x ≡ y)
cut_digits [] [] x y p q h k s = (refl, s)
cut_digits [] (b ∷ e) x y p q h k s =
    let digit : is_ascii_digit b ≡ true = search (rules) in
    let other : is_ascii_digit b ≡ false = sym (ap has_digit s) ∙ h in
    absurd (cc)
cut_digits (a ∷ d) [] x y p q h k s =
    let digit : is_ascii_digit a ≡ true = search (rules) in
    let other : is_ascii_digit a ≡ false = ap has_digit s ∙ k in
    absurd (cc)
cut_digits (a ∷ d) (b ∷ e) x y p q h k s =
    let same : a ≡ b = cc in
    let remainder : d ++ x ≡ e ++ y = cc in
    let more = cut_digits d e x y (search rules) (search rules) h k remainder in
    (let m = more.0 in cc, more.1)

zero_is : (d : List ℕ) → IsDecimal d → slice_index d 0 ≡ 48 → d ≡ 48 ∷ []
zero_is [] h z = absurd (let s = h.some in omega arith)
zero_is (a ∷ []) h z = ap (λ (x : ℕ). x ∷ []) z
zero_is (a ∷ b ∷ more) h z = absurd (let s = h.plain z in omega arith)

slice_index-prefix : (xs ys : List ℕ) → 1 ≤ length xs → slice_index (xs ++ ys) 0 ≡ slice_index xs 0
slice_index-prefix [] ys some = absurd (omega arith)
slice_index-prefix (x ∷ xs) ys some = refl

cut_zero : (d e x y : List ℕ) → IsDecimal d → IsDecimal e → slice_index d 0 ≡ 48 → d ++ x ≡ e ++ y → (d ≡ e) × (x ≡ y)
cut_zero d e x y p q z s =
    let other : slice_index e 0 ≡ 48 = sym (slice_index-prefix e y q.some) ∙ sym (ap (λ (t : List ℕ). slice_index t 0) s) ∙ slice_index-prefix d x p.some ∙ z in
    let f : d ≡ 48 ∷ [] = zero_is d p z in
    let g : e ≡ 48 ∷ [] = zero_is e q other in
    let whole : 48 ∷ x ≡ 48 ∷ y = sym (ap (λ (t : List ℕ). t ++ x) f) ∙ s ∙ ap (λ (t : List ℕ). t ++ y) g in
    (f ∙ sym g, cc)

-- A text is the decimal d followed by x, and also the decimal e followed by y. If d doesn't continue in x, and e
-- doesn't continue in y, then d and e are equal, and so are x and y.
pub cut : (d e x y : List ℕ) → IsDecimal d → IsDecimal e → Ends d x → Ends e y → d ++ x ≡ e ++ y → (d ≡ e) × (x ≡ y)
cut d e x y p q h k s = go (has_digit x) (has_digit y) refl refl
  where
    go : (a b : Bool) → has_digit x ≡ a → has_digit y ≡ b → (d ≡ e) × (x ≡ y)
    go true b f g = cut_zero d e x y p q (h f) s
    go false true f g = let c = cut_zero e d y x q p (k g) (sym s) in (sym c.0, sym c.1)
    go false false f g = cut_digits d e x y p.digits q.digits f g s

abbrev pub IsWritten : Written → Type 0
IsWritten w = IsDecimal w.first × IsDecimal w.count

pub IsWritten-written : (r : Range) → r.first < 2 ^ 64 → r.count < 2 ^ 64 → IsWritten (written r)
IsWritten-written r f c = (IsDecimal-decimal r.first f, IsDecimal-decimal r.count c)

pair-append : (w : Written) (x : List ℕ) → pair_text w ++ x ≡ w.first ++ 43 ∷ (w.count ++ x)
pair-append w x = append_assoc w.first (43 ∷ w.count) x

-- A text is the range w followed by x, and also the range v followed by y. If the count of w doesn't continue in x, and
-- the count of v doesn't continue in y, then w and v are equal, and so are x and y.
pub cut_pair : (w v : Written) (x y : List ℕ) → IsWritten w → IsWritten v → Ends w.count x → Ends v.count y → pair_text w ++ x ≡ pair_text v ++ y
    → (w ≡ v) × (x ≡ y)
cut_pair w v x y p q h k s =
    let s' : w.first ++ 43 ∷ (w.count ++ x) ≡ v.first ++ 43 ∷ (v.count ++ y) = sym (pair-append w x) ∙ s ∙ pair-append v y in
    let first = cut w.first v.first (43 ∷ (w.count ++ x)) (43 ∷ (v.count ++ y)) p.0 q.0 (λ f. absurd (cc)) (λ f. absurd (cc)) s' in
    let remainder : w.count ++ x ≡ v.count ++ y = (let f = first.1 in cc) in
    let count = cut w.count v.count x y p.1 q.1 h k remainder in
    (λ i. record { first = first.0 i; count = count.0 i }, count.1)

-- the text that follows the first range of a list, given the other ranges
abbrev pub tail : List Written → List ℕ
tail [] = []
tail (w ∷ more) = 44 ∷ joined (w ∷ more)

pub joined-cons : (w : Written) (more : List Written) → joined (w ∷ more) ≡ pair_text w ++ tail more
joined-cons w [] = sym (append-nil (pair_text w))
joined-cons w (v ∷ more) = refl

pub tail-no_digit : (more : List Written) → has_digit (tail more) ≡ false
tail-no_digit [] = refl
tail-no_digit (w ∷ more) = refl

tail-ends : (number : List ℕ) (more : List Written) → Ends number (tail more)
tail-ends number more = λ h. let n = tail-no_digit more in absurd (cc)

pub pair-some : (w : Written) (x : List ℕ) → pair_text w ++ x ≢ []
pair-some w x h = let e = ap length h in absurd (omega (arith, length-append (pair_text w) x, length-append w.first (43 ∷ w.count)))

-- two lists with the same text have the same first range and the same tail
cut_prefix : (p q : Written) (ps qs : List Written) → IsWritten p → IsWritten q → joined (p ∷ ps) ≡ joined (q ∷ qs) → (p ≡ q) × (tail ps ≡ tail qs)
cut_prefix p q ps qs h k s =
    cut_pair p q (tail ps) (tail qs) h k (tail-ends p.count ps) (tail-ends q.count qs) (sym (joined-cons p ps) ∙ s ∙ joined-cons q qs)

-- `joined` is injective on lists whose numbers are decimals
pub joined-injective : (ps qs : List Written) → AllByRecursion IsWritten ps → AllByRecursion IsWritten qs → joined ps ≡ joined qs → ps ≡ qs
joined-injective [] [] h k s = refl
joined-injective [] (q ∷ qs) h k s = absurd (pair-some q (tail qs) (sym (joined-cons q qs) ∙ sym s))
joined-injective (p ∷ ps) [] h k s = absurd (pair-some p (tail ps) (sym (joined-cons p ps) ∙ s))
joined-injective (p ∷ []) (q ∷ []) h k s = ap (λ (w : Written). w ∷ []) (cut_prefix p q [] [] h.0 k.0 s).0
joined-injective (p ∷ []) (q ∷ q' ∷ qs) h k s = let c = cut_prefix p q [] (q' ∷ qs) h.0 k.0 s in absurd (let t = c.1 in cc)
joined-injective (p ∷ p' ∷ ps) (q ∷ []) h k s = let c = cut_prefix p q (p' ∷ ps) [] h.0 k.0 s in absurd (let t = c.1 in cc)
joined-injective (p ∷ p' ∷ ps) (q ∷ q' ∷ qs) h k s =
    let c = cut_prefix p q (p' ∷ ps) (q' ∷ qs) h.0 k.0 s in
    let t : joined (p' ∷ ps) ≡ joined (q' ∷ qs) = (let t' = c.1 in cc) in
    let more = joined-injective (p' ∷ ps) (q' ∷ qs) h.1 k.1 t in
    λ i. c.0 i ∷ more i
