-- Where a text stops being the beginning of a list of ranges.
use Rattle.std.proofs.Common.{◌≡◌, ◌≢◌, ◌<◌, ◌≤◌, ◌+◌, ◌-◌, ◌^◌, ◌++◌, ◌⊎◌, inl, inr, ℕ, suc, true, false, List, [], ◌∷◌, Option, Some, None, length, map}
use Rattle.std.proofs.Common.{take, drop, decimal, refl, sym, ◌∙◌, ap, subst, arith, rules}
use Rattle.std.proofs.Common.{append_assoc, append-nil, length-append}
use Rattle.std.specs.Char.{is_ascii_digit}
use Rattle.std.specs.List.{AllByRecursion}
use Rattle.std.specs.Prelude.{slice_index}
use Rattle.std.specs.Str.{all_ascii_digits}
use Rattle.std.specs.Str.Parse.{digits_value}
use Rattle.std.proofs.lemmas.Fmt.{decimal_digit, digits_value-decimal}
use Rattle.std.proofs.lemmas.Str.Parse.{digits_value-take-le}
use Rattle.std.proofs.lemmas.List.Elements.{recursion_from_All}
use Rattle.std.proofs.Math.Seq.{take-append_seam, drop-append_seam, get_or-append_seam}
use Rattle.ranges.specs.declared.range.Range.{Range}
use Rattle.ranges.specs.RangeLists.{FitU64, IsListText, Written, joined, list_text, pair_text, written}
use Rattle.ranges.specs.RangeListFaults.{BeginsLargeDecimal, BeginsList, IsBadListByte, IsDecimal, IsLargeDecimal}
use Rattle.ranges.specs.RangeListSteps.{has_byte, has_digit, ranges_and_commas}
use Rattle.ranges.proofs.DecimalLemmas.{IsDecimal-decimal, ascii}
use Rattle.ranges.proofs.CutLemmas.{Ends, IsWritten, IsWritten-written, cut, cut_pair, joined-cons, pair-some, tail, tail-no_digit}

-- the first byte of a text, if there is one
abbrev pub head_of : List ℕ → Option ℕ
head_of [] = None
head_of (b ∷ remainder) = Some b

same_digit : (x y : List ℕ) → head_of x ≡ head_of y → has_digit x ≡ has_digit y
same_digit [] [] h = refl
same_digit [] (b ∷ y) h = absurd (cc)
same_digit (a ∷ x) [] h = absurd (cc)
same_digit (a ∷ x) (b ∷ y) h = let e : a ≡ b = cc in ap is_ascii_digit e

same_byte : (c : ℕ) (x y : List ℕ) → head_of x ≡ head_of y → has_byte c y → has_byte c x
same_byte c [] [] h k = k
same_byte c [] (b ∷ y) h k = absurd (cc)
same_byte c (a ∷ x) [] h k = absurd (cc)
same_byte c (a ∷ x) (b ∷ y) h k = let e : a ≡ b = cc in k ∙ sym e

same_end : (x y : List ℕ) → head_of x ≡ head_of y → y ≡ [] → x ≡ []
same_end [] y h k = refl
same_end (a ∷ x) [] h k = absurd (cc)
same_end (a ∷ x) (b ∷ y) h k = absurd (cc)

abbrev pub FitsU64 : Range → Type 0
FitsU64 r = (r.first < 2 ^ 64) × (r.count < 2 ^ 64)

-- the range is written in decimals below 2^64
abbrev pub IsOfU64 : Written → Type 0
IsOfU64 w = (r : Range) × (FitsU64 r × (w ≡ written r))

abbrev AreWritten : List Written → Type 0
AreWritten ws = AllByRecursion IsWritten ws

-- A walk has passed some ranges at the beginning of the list `qs`. `more` are the ranges after them, and x is the text
-- of `more`.
record Walked (qs : List Written) (x : List ℕ) : Type 0 where
  more : List Written
  each : AreWritten more
  spelled : joined more ≡ x
  some : qs ≢ [] → more ≢ []
  keeps : AllByRecursion IsOfU64 qs → AllByRecursion IsOfU64 more

opening-cons : (r : Range) (rs : List Range) (x : List ℕ) → ranges_and_commas (r ∷ rs) ++ x ≡ pair_text (written r) ++ (44 ∷ (ranges_and_commas rs ++ x))
opening-cons r rs x = append_assoc (pair_text (written r)) (44 ∷ ranges_and_commas rs) x

walk : (ranges : List Range) → AllByRecursion FitsU64 ranges → (qs : List Written) → AreWritten qs → (x : List ℕ) → joined qs ≡ ranges_and_commas ranges ++ x → Walked qs x
walk [] fit qs each x s = record { more = qs; each = each; spelled = s; some = λ h. h; keeps = λ h. h }
walk (r ∷ rs) fit [] each x s = absurd (pair-some (written r) (44 ∷ (ranges_and_commas rs ++ x)) (sym (s ∙ opening-cons r rs x)))
walk (r ∷ rs) fit (q ∷ []) each x s =
    let c = cut_pair q (written r) [] (44 ∷ (ranges_and_commas rs ++ x)) each.0 (IsWritten-written r fit.0.0 fit.0.1) (λ h. absurd (cc)) (λ h. absurd (cc))
    (append-nil (pair_text q) ∙ s ∙ opening-cons r rs x) in
    absurd (let e = c.1 in cc)
walk (r ∷ rs) fit (q ∷ q' ∷ qs) each x s =
    let c = cut_pair q (written r) (44 ∷ joined (q' ∷ qs)) (44 ∷ (ranges_and_commas rs ++ x)) each.0 (IsWritten-written r fit.0.0 fit.0.1) (λ h. absurd (cc))
    (λ h. absurd (cc)) (s ∙ opening-cons r rs x) in
    let t : joined (q' ∷ qs) ≡ ranges_and_commas rs ++ x = (let e = c.1 in cc) in
    let w = walk rs fit.1 (q' ∷ qs) each.1 x t in
    record { more = w.more; each = w.each; spelled = w.spelled; some = λ h. w.some (λ e. absurd (cc)); keeps = λ h. w.keeps h.1 }

-- even if numbers of any size are allowed, no list has a text that begins with the prefix and then continues like
-- `there`: with the same byte, or with the end of the text if `there` is empty
abbrev pub Refused : List ℕ → List ℕ → Type 0
Refused prefix there = (qs : List Written) → AreWritten qs → (x : List ℕ) → head_of there ≡ head_of x → joined qs ≢ prefix ++ x

-- no range, together with the ranges after it, has a text that begins with the prefix and then continues like `there`
abbrev pub RefusedRange : List ℕ → List ℕ → Type 0
RefusedRange prefix there = (w : Written) (ws : List Written) → IsWritten w → (x : List ℕ) → head_of there ≡ head_of x → pair_text w ++ tail ws ≢ prefix ++ x

empty_parts : (x y : List ℕ) → [] ≡ x ++ y → (x ≡ []) × (y ≡ [])
empty_parts [] y h = (refl, sym h)
empty_parts (a ∷ x) y h = absurd (cc)

pub refused_after : (ranges : List Range) (prefix there : List ℕ) → FitU64 ranges → (ranges_and_commas ranges ++ prefix) ++ there ≢ [] → RefusedRange prefix there
    → Refused (ranges_and_commas ranges ++ prefix) there
refused_after ranges prefix there fit some refused = λ qs each x same s.
    let w = walk ranges (recursion_from_All FitsU64 ranges fit) qs each (prefix ++ x) (s ∙ append_assoc (ranges_and_commas ranges) prefix x) in
    go qs x same s w.more w.each w.spelled (w.some (λ e. none x same (ap joined (sym e) ∙ s)))
  where
    none : (x : List ℕ) → head_of there ≡ head_of x → [] ≢ (ranges_and_commas ranges ++ prefix) ++ x
    none x same s =
        let p = empty_parts (ranges_and_commas ranges ++ prefix) x s in
        let t : there ≡ [] = same_end there x same p.1 in
        some (ap (λ (y : List ℕ). y ++ there) p.0 ∙ t)

    go : (qs : List Written) (x : List ℕ) → head_of there ≡ head_of x → joined qs ≡ (ranges_and_commas ranges ++ prefix) ++ x → (more : List Written) → AreWritten more
        → joined more ≡ prefix ++ x → more ≢ [] → ⊥
    go qs x same s [] each t some = some refl
    go qs x same s (w ∷ ws) each t some = refused w ws each.0 x same (sym (joined-cons w ws) ∙ t)

pub first_digit : (d x : List ℕ) → IsDecimal d → has_digit (d ++ x) ≡ true
first_digit [] x h = absurd (let s = h.some in omega arith)
first_digit (a ∷ d) x h = let s = h.digits in search (rules)

pub pair-append : (w : Written) (x : List ℕ) → pair_text w ++ x ≡ w.first ++ 43 ∷ (w.count ++ x)
pair-append w x = append_assoc w.first (43 ∷ w.count) x

-- if `there` doesn't begin with a digit, no range begins like `there`
pub refused_first : (there : List ℕ) → has_digit there ≡ false → RefusedRange [] there
refused_first there none = λ w ws each x same s.
    let d : has_digit (w.first ++ 43 ∷ (w.count ++ tail ws)) ≡ true = first_digit w.first (43 ∷ (w.count ++ tail ws)) each.0 in
    let e : has_digit x ≡ true = ap has_digit (sym s ∙ pair-append w (tail ws)) ∙ d in
    let f = same_digit there x same in
    absurd (cc)

pub zero_first : (n : ℕ) → n ≡ 0 → slice_index (decimal n) 0 ≡ 48
zero_first n z = ap (λ (m : ℕ). slice_index (decimal m) 0) z ∙ ap (λ (t : List ℕ). slice_index t 0) (decimal_digit 0 (omega arith))

-- if the decimal of n doesn't continue in `there`, it doesn't continue in a text x with the same first byte
ends_alike : (n : ℕ) (there x : List ℕ) → (has_digit there ≡ true → n ≡ 0) → head_of there ≡ head_of x → Ends (decimal n) x
ends_alike n there x ends same = λ h. zero_first n (ends (same_digit there x same ∙ h))

-- if the text of a range and its tail is the decimal of n followed by x, and the decimal doesn't continue in x, then x
-- is a `+` (43), the count, and the tail
cut_first : (w : Written) (ws : List Written) (n : ℕ) (x : List ℕ) → IsWritten w → n < 2 ^ 64 → Ends (decimal n) x → pair_text w ++ tail ws ≡ decimal n ++ x
    → 43 ∷ (w.count ++ tail ws) ≡ x
cut_first w ws n x each fits ends s =
    (cut w.first (decimal n) (43 ∷ (w.count ++ tail ws)) x each.0 (IsDecimal-decimal n fits) (λ h. absurd (cc)) ends (sym (pair-append w (tail ws)) ∙ s)).1

has_byte-prefix : (c : ℕ) (x y : List ℕ) → c ∷ y ≡ x → has_byte c x
has_byte-prefix c [] y h = absurd (cc)
has_byte-prefix c (b ∷ x) y h = cc

-- if `there` doesn't begin with a `+` (43), and the decimal of n doesn't continue in `there`, no range continues like
-- `there` after the first number n
pub refused_plus : (n : ℕ) (there : List ℕ) → n < 2 ^ 64 → (has_digit there ≡ true → n ≡ 0) → ¬ has_byte 43 there → RefusedRange (decimal n) there
refused_plus n there fits ends other = λ w ws each x same s.
    other (same_byte 43 there x same (has_byte-prefix 43 x (w.count ++ tail ws) (cut_first w ws n x each fits (ends_alike n there x ends same) s)))

-- if `there` doesn't begin with a digit, no range with the first number n continues like `there` after its `+`
pub refused_count : (n : ℕ) (there : List ℕ) → n < 2 ^ 64 → has_digit there ≡ false → RefusedRange (decimal n ++ 43 ∷ []) there
refused_count n there fits none = λ w ws each x same s.
    let t : 43 ∷ (w.count ++ tail ws) ≡ 43 ∷ x =
    cut_first w ws n (43 ∷ x) each fits (λ h. absurd (cc)) (s ∙ append_assoc (decimal n) (43 ∷ []) x) in
    let u : w.count ++ tail ws ≡ x = cc in
    let d : has_digit x ≡ true = ap has_digit (sym u) ∙ first_digit w.count (tail ws) each.1 in
    let f = same_digit there x same in
    absurd (cc)

tail-byte : (ws : List Written) (x : List ℕ) → x ≢ [] → tail ws ≡ x → has_byte 44 x
tail-byte [] x some h = absurd (some (sym h))
tail-byte (w ∷ ws) x some h = has_byte-prefix 44 x (joined (w ∷ ws)) h

-- if `there` isn't empty and doesn't begin with a `,` (44), and the count of r doesn't continue in `there`, no list
-- continues like `there` after the range r
pub refused_comma : (r : Range) (there : List ℕ) → FitsU64 r → (has_digit there ≡ true → r.count ≡ 0) → there ≢ [] → ¬ has_byte 44 there
    → RefusedRange (pair_text (written r)) there
refused_comma r there fits ends some other = λ w ws each x same s.
    let c = cut_pair w (written r) (tail ws) x each (IsWritten-written r fits.0 fits.1) (λ h. let n = tail-no_digit ws in absurd (cc))
    (ends_alike r.count there x ends same) s in
    other (same_byte 44 there x same (tail-byte ws x (λ e. some (same_end there x same e)) c.1))

all_digits_prefix : (d e x y : List ℕ) → all_ascii_digits e ≡ true → has_digit x ≡ false → d ++ x ≡ e ++ y → take (length e) d ≡ e
all_digits_prefix d [] x y digits none s = refl
all_digits_prefix [] (b ∷ e) x y digits none s =
    let digit : is_ascii_digit b ≡ true = search (rules) in
    let other : is_ascii_digit b ≡ false = sym (ap has_digit s) ∙ none in
    absurd (cc)
all_digits_prefix (a ∷ d) (b ∷ e) x y digits none s =
    let same : a ≡ b = cc in
    let remainder : d ++ x ≡ e ++ y = cc in
    let more = all_digits_prefix d e x y (search rules) none remainder in
    λ i. same i ∷ more i

-- a text that begins with a decimal below 2^64, followed by no digit, doesn't begin with a decimal of 2^64 or more
pub small_decimal : (n : ℕ) (x there : List ℕ) → n < 2 ^ 64 → has_digit x ≡ false → BeginsLargeDecimal there → decimal n ++ x ≢ there
small_decimal n x there fits none b s =
    let prefix = all_digits_prefix (decimal n) b.number x b.remainder b.is_decimal.digits none (s ∙ b.spelled) in
    let less = digits_value-take-le 10 (decimal n) (length b.number) (omega arith) in
    let value : digits_value 10 (decimal n) ≡ n = digits_value-decimal ascii n fits in
    let same : digits_value 10 (take (length b.number) (decimal n)) ≡ digits_value 10 b.number = ap (digits_value 10) prefix in
    let big = b.large in
    absurd (omega arith)

pub large_some : (there : List ℕ) → BeginsLargeDecimal there → there ≢ []
large_some there b e =
    let s = b.is_decimal.some in
    let l : length there ≡ length b.number + length b.remainder = ap length b.spelled ∙ length-append b.number b.remainder in
    let z = ap length e in
    absurd (omega arith)

written-fit : (rs : List Range) → AllByRecursion FitsU64 rs → AllByRecursion IsOfU64 (map written rs)
written-fit [] h = tt
written-fit (r ∷ rs) h = ((r, (h.0, refl)), written-fit rs h.1)

pub written-all : (rs : List Range) → AllByRecursion FitsU64 rs → AreWritten (map written rs)
written-all [] h = tt
written-all (r ∷ rs) h = (IsWritten-written r h.0.0 h.0.1, written-all rs h.1)

pub list_text-joined : (rs : List Range) → list_text rs ≡ joined (map written rs)
unfolding list_text
list_text-joined rs = refl

-- if `Refused` holds for the two parts of a text, the text isn't the text of a list
pub not_list : (text prefix there : List ℕ) → text ≡ prefix ++ there → Refused prefix there → ¬ IsListText text
not_list text prefix there s refused list =
    refused (map written list.ranges) (written-all list.ranges (recursion_from_All FitsU64 list.ranges list.fit)) there refl
    (sym (list_text-joined list.ranges) ∙ list.spelled ∙ s)

place-prefix : (text prefix there : List ℕ) → text ≡ prefix ++ there → length text - length there ≡ length prefix
place-prefix text prefix there s = omega (arith, ap length s, length-append prefix there)

taken : (text prefix there : List ℕ) → text ≡ prefix ++ there → take (length text - length there) text ≡ prefix
taken text prefix there s =
    ap (λ (n : ℕ). take n text) (place-prefix text prefix there s) ∙ ap (λ (t : List ℕ). take (length prefix) t) s ∙ take-append_seam prefix there

pub bad : (text prefix there : List ℕ) → text ≡ prefix ++ there → BeginsList prefix → Refused prefix there → IsBadListByte text (length text - length there)
bad text prefix [] s begins refused = record {
  within = omega arith;
  before = subst BeginsList (sym (taken text prefix [] s)) begins;
  there = λ lt. absurd (omega arith);
  short = λ e. not_list text prefix [] s refused;
}
bad text prefix (b ∷ remainder) s begins refused = record {
  within = omega arith;
  before = subst BeginsList (sym (taken text prefix (b ∷ remainder) s)) begins;
  there = λ lt long.
      let front' : List ℕ = prefix ++ b ∷ [] in
      let s' : text ≡ front' ++ remainder = s ∙ sym (append_assoc prefix (b ∷ []) remainder) in
      let place : length text - length (b ∷ remainder) + 1 ≡ length text - length remainder =
      omega (arith, ap length s, length-append prefix (b ∷ remainder)) in
      let cut : take (length text - length (b ∷ remainder) + 1) text ≡ front' = ap (λ (n : ℕ). take n text) place ∙ taken text front' remainder s' in
      refused long.ranges (recursion_from_All IsWritten long.ranges long.decimals) (b ∷ long.remainder) refl
      (long.spelled ∙ ap (λ (t : List ℕ). t ++ long.remainder) cut ∙ append_assoc prefix (b ∷ []) long.remainder);
  short = λ e. let l : length text ≡ length prefix + suc (length remainder) = omega (arith, ap length s, length-append prefix (b ∷ remainder)) in absurd (omega arith);
}

-- the last byte of the prefix isn't a digit
pub record LastByte (prefix : List ℕ) : Type 0 where
  pub start : List ℕ
  pub byte : ℕ
  pub spelled : prefix ≡ start ++ byte ∷ []
  pub other : is_ascii_digit byte ≡ false

abbrev pub Apart : List ℕ → Type 0
Apart prefix = (prefix ≡ []) ⊎ LastByte prefix

pub opening-apart : (rs : List Range) → Apart (ranges_and_commas rs)
opening-apart [] = inl refl
opening-apart (r ∷ rs) = go (opening-apart rs)
  where
    go : Apart (ranges_and_commas rs) → Apart (ranges_and_commas (r ∷ rs))
    go (inl e) = inr (record { start = pair_text (written r); byte = 44; spelled = ap (λ (t : List ℕ). pair_text (written r) ++ 44 ∷ t) e; other = refl })
    go (inr l) = inr (record {
      start = pair_text (written r) ++ 44 ∷ l.start;
      byte = l.byte;
      spelled = ap (λ (t : List ℕ). pair_text (written r) ++ 44 ∷ t) l.spelled ∙ sym (append_assoc (pair_text (written r)) (44 ∷ l.start) (l.byte ∷ []));
      other = l.other;
    })

last-apart : (text prefix there : List ℕ) (place : ℕ) → Apart prefix → text ≡ prefix ++ there → place ≡ length prefix → 1 ≤ place
    → is_ascii_digit (slice_index text (place - 1)) ≡ false
last-apart text prefix there place (inl e) s at some = absurd (let l = ap length e in omega arith)
last-apart text prefix there place (inr l) s at some =
    let whole : text ≡ l.start ++ l.byte ∷ there = s ∙ ap (λ (t : List ℕ). t ++ there) l.spelled ∙ append_assoc l.start (l.byte ∷ []) there in
    let before : place - 1 ≡ length l.start = omega (arith, ap length l.spelled, length-append l.start (l.byte ∷ [])) in
    let byte : slice_index text (place - 1) ≡ l.byte =
    ap (λ (n : ℕ). slice_index text n) before ∙ ap (λ (t : List ℕ). slice_index t (length l.start)) whole ∙ get_or-append_seam l.start l.byte there 0 in
    ap is_ascii_digit byte ∙ l.other

pub large_at : (text prefix there : List ℕ) → text ≡ prefix ++ there → BeginsList prefix → Apart prefix → BeginsLargeDecimal there
    → IsLargeDecimal text (length text - length there)
large_at text prefix there s begins apart large = record {
  before = subst BeginsList (sym (taken text prefix there s)) begins;
  apart = last-apart text prefix there (length text - length there) apart s (place-prefix text prefix there s);
  there = subst BeginsLargeDecimal (sym (ap (λ (n : ℕ). drop n text) (place-prefix text prefix there s)
      ∙ ap (λ (t : List ℕ). drop (length prefix) t) s ∙ drop-append_seam prefix there)) large;
}

-- if the next range begins with a number of 2^64 or more, the text isn't a list
pub refused_large : (text there : List ℕ) (ranges : List Range) → FitU64 ranges → text ≡ ranges_and_commas ranges ++ there → BeginsLargeDecimal there
    → ¬ IsListText text
refused_large text there ranges fit s large list =
    let w = walk ranges (recursion_from_All FitsU64 ranges fit) (map written list.ranges)
    (written-all list.ranges (recursion_from_All FitsU64 list.ranges list.fit)) there (sym (list_text-joined list.ranges) ∙ list.spelled ∙ s) in
    go w.more w.spelled (w.keeps (written-fit list.ranges (recursion_from_All FitsU64 list.ranges list.fit)))
  where
    go : (more : List Written) → joined more ≡ there → AllByRecursion IsOfU64 more → ⊥
    go [] t fit = large_some there large (sym t)
    go (v ∷ vs) t fit =
        let r = fit.0.0 in
        let first : v.first ≡ decimal r.first = ap (λ (w : Written). w.first) fit.0.1.1 in
        small_decimal r.first (43 ∷ (v.count ++ tail vs)) there fit.0.1.0.0 refl large
        (ap (λ (d : List ℕ). d ++ 43 ∷ (v.count ++ tail vs)) (sym first) ∙ sym (pair-append v (tail vs)) ∙ sym (joined-cons v vs) ∙ t)

-- if the next range has a count of 2^64 or more, the text isn't a list
pub refused_large_count : (text there : List ℕ) (ranges : List Range) (n : ℕ) → FitU64 ranges → n < 2 ^ 64
    → text ≡ ranges_and_commas ranges ++ (decimal n ++ 43 ∷ there)
    → BeginsLargeDecimal there → ¬ IsListText text
refused_large_count text there ranges n fit fits s large list =
    let w = walk ranges (recursion_from_All FitsU64 ranges fit) (map written list.ranges)
    (written-all list.ranges (recursion_from_All FitsU64 list.ranges list.fit)) (decimal n ++ 43 ∷ there)
    (sym (list_text-joined list.ranges) ∙ list.spelled ∙ s) in
    go w.more w.each w.spelled (w.keeps (written-fit list.ranges (recursion_from_All FitsU64 list.ranges list.fit)))
  where
    go : (more : List Written) → AreWritten more → joined more ≡ decimal n ++ 43 ∷ there → AllByRecursion IsOfU64 more → ⊥
    go [] each t fit = let e = ap length t in absurd (omega (arith, length-append (decimal n) (43 ∷ there)))
    go (v ∷ vs) each t fit =
        let r = fit.0.0 in
        let count : v.count ≡ decimal r.count = ap (λ (w : Written). w.count) fit.0.1.1 in
        let c : 43 ∷ (v.count ++ tail vs) ≡ 43 ∷ there = cut_first v vs n (43 ∷ there) each.0 fits (λ h. absurd (cc)) (sym (joined-cons v vs) ∙ t) in
        let remainder : v.count ++ tail vs ≡ there = cc in
        small_decimal r.count (tail vs) there fit.0.1.0.1 (tail-no_digit vs) large (ap (λ (d : List ℕ). d ++ tail vs) (sym count) ∙ remainder)
