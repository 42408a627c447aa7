-- A text that isn't a list of ranges has its first fault at only one place.
use Rattle.std.proofs.Common.{◌≡◌, ◌<◌, ◌≤◌, ◌+◌, ◌-◌, ◌++◌, ◌⊎◌, ◌∙◌, ℕ, zero, suc, true, false, All, List, [], ◌∷◌, length, map, decimal, take, drop, refl, sym, ap, subst, arith, inl, inr, rules}
use Rattle.std.proofs.Common.{append_assoc, append-nil, get_or, length-append}
use Rattle.std.specs.Char.{is_ascii_digit}
use Rattle.std.specs.List.{AllByRecursion}
use Rattle.std.specs.Prelude.{slice_index}
use Rattle.std.specs.Str.{all_ascii_digits}
use Rattle.std.proofs.lemmas.Bool.{cases_lt, cases_order}
use Rattle.std.proofs.lemmas.List.{get_or-append_right, get_or_append_left, length-drop, length-take-le, take-append-drop, take-take, take_at, take_more}
use Rattle.std.proofs.lemmas.List.Elements.{All-append, All-cons, All-from_recursion, All-nil, recursion_from_All}
use Rattle.ranges.specs.declared.range.Range.{Range}
use Rattle.ranges.specs.RangeLists.{IsListText, Written, joined, pair_text, written}
use Rattle.ranges.specs.RangeListFaults.{BeginsLargeDecimal, BeginsList, BeginsLongList, IsBadListByte, IsDecimal, IsFirstListFault, IsLargeDecimal}
use Rattle.ranges.specs.RangeListSteps.{ranges_and_commas}
use Rattle.ranges.proofs.CutLemmas.{IsWritten, joined-cons, tail, tail-no_digit}
use Rattle.ranges.proofs.DecimalLemmas.{IsDecimal-decimal}
use Rattle.ranges.proofs.FaultLemmas.{Apart, FitsU64, LastByte, large_some, list_text-joined, pair-append, small_decimal, written-all}

-- ---- where a list's text can be cut after a byte that isn't a digit

none_last : (l : LastByte []) → ⊥
none_last l = let e = ap length l.spelled in omega (arith, length-append l.start (l.byte ∷ []))

-- `x` begins with the digits `d` and ends with a byte that isn't a digit; `z` is `x` without `d`, followed by `y`
record Skipped (d x y z : List ℕ) : Type 0 where
  more : List ℕ
  prefix : x ≡ d ++ more
  remainder : z ≡ more ++ y
  last : LastByte more

skip : (d x y z start : List ℕ) (byte : ℕ) → all_ascii_digits d ≡ true → x ≡ start ++ byte ∷ [] → is_ascii_digit byte ≡ false → d ++ z ≡ x ++ y → Skipped d x y z
skip [] x y z start byte digits e other s = record { more = x; prefix = refl; remainder = s; last = record { start = start; byte = byte; spelled = e; other = other } }
skip (a ∷ d) [] y z start byte digits e other s = absurd (none_last (record { start = start; byte = byte; spelled = e; other = other }))
skip (a ∷ d) (b ∷ x) y z [] byte digits e other s =
    let digit : is_ascii_digit a ≡ true = search (rules) in
    let same : a ≡ b = cc in
    let is : b ≡ byte = cc in
    let none : is_ascii_digit a ≡ false = ap is_ascii_digit (same ∙ is) ∙ other in
    absurd (cc)
skip (a ∷ d) (b ∷ x) y z (c ∷ start) byte digits e other s =
    let same : a ≡ b = cc in
    let remainder : d ++ z ≡ x ++ y = cc in
    let left : x ≡ start ++ byte ∷ [] = cc in
    let m = skip d x y z start byte (search (rules)) left other remainder in
    record { more = m.more; prefix = λ i. sym same i ∷ m.prefix i; remainder = m.remainder; last = m.last }

-- the text of a list is cut into `x` and `y` where a range begins
record StartsAt (x y : List ℕ) : Type 0 where
  prefix : List Range
  back : List Range
  fit : AllByRecursion FitsU64 prefix
  more : AllByRecursion FitsU64 back
  is : x ≡ ranges_and_commas prefix
  remainder : y ≡ joined (map written back)

-- the text of a list is cut into `x` and `y` where a count begins
record CountsAt (x y : List ℕ) : Type 0 where
  prefix : List Range
  range : Range
  back : List Range
  fit : AllByRecursion FitsU64 prefix
  fits : FitsU64 range
  is : x ≡ ranges_and_commas prefix ++ (decimal range.first ++ 43 ∷ [])
  remainder : y ≡ decimal range.count ++ tail (map written back)

abbrev At : List ℕ → List ℕ → Type 0
At x y = StartsAt x y ⊎ CountsAt x y

-- if the text is cut where a range or a count begins, this also holds with one more range in front of the text
consed : (r : Range) → FitsU64 r → (x more y : List ℕ) → x ≡ pair_text (written r) ++ 44 ∷ more → At more y → At x y
consed r fits x more y e (inl a) = inl (record {
  prefix = r ∷ a.prefix;
  back = a.back;
  fit = (fits, a.fit);
  more = a.more;
  is = e ∙ ap (λ (t : List ℕ). pair_text (written r) ++ 44 ∷ t) a.is;
  remainder = a.remainder;
})
consed r fits x more y e (inr a) = inr (record {
  prefix = r ∷ a.prefix;
  range = a.range;
  back = a.back;
  fit = (fits, a.fit);
  fits = a.fits;
  is = e ∙ ap (λ (t : List ℕ). pair_text (written r) ++ 44 ∷ t) a.is
      ∙ sym (append_assoc (pair_text (written r)) (44 ∷ ranges_and_commas a.prefix) (decimal a.range.first ++ 43 ∷ []));
  remainder = a.remainder;
})

-- a cut past the count of the first range, after a byte that isn't a digit, is where a range or a count begins
after_count : (r : Range) (rs : List Range) → FitsU64 r → ((x y : List ℕ) → Apart x → joined (map written rs) ≡ x ++ y → At x y) → (x y more : List ℕ)
    → x ≡ pair_text (written r) ++ more → tail (map written rs) ≡ more ++ y → LastByte more → At x y
after_count r rs fits go x y [] e s last = absurd (none_last last)
after_count r [] fits go x y (b ∷ more) e s last = absurd (cc)
after_count r (q ∷ rs) fits go x y (b ∷ more) e s last =
    let comma : 44 ≡ b = cc in
    let remainder : joined (map written (q ∷ rs)) ≡ more ++ y = cc in
    consed r fits x more y (e ∙ ap (λ (n : ℕ). pair_text (written r) ++ n ∷ more) (sym comma)) (go more y (apart last.start last.spelled) remainder)
  where
    apart : (start : List ℕ) → b ∷ more ≡ start ++ last.byte ∷ [] → Apart more
    apart [] f = inl (cc)
    apart (c ∷ start) f = let left : more ≡ start ++ last.byte ∷ [] = cc in
        inr (record { start = start; byte = last.byte; spelled = left; other = last.other })

-- a cut past the first number of the first range, after a byte that isn't a digit, is where a range or a count begins
after_first : (r : Range) (rs : List Range) → FitsU64 r → ((x y : List ℕ) → Apart x → joined (map written rs) ≡ x ++ y → At x y) → (x y more : List ℕ)
    → x ≡ decimal r.first ++ more → 43 ∷ (decimal r.count ++ tail (map written rs)) ≡ more ++ y → (last : LastByte more) → (start : List ℕ)
    → more ≡ start ++ last.byte ∷ [] → At x y
after_first r rs fits go x y [] e s last start f = absurd (none_last last)
after_first r rs fits go x y (b ∷ more) e s last [] f =
    let plus : 43 ≡ b = cc in
    let none : more ≡ [] = cc in
    let remainder : decimal r.count ++ tail (map written rs) ≡ more ++ y = cc in
    inr (record {
      prefix = [];
      range = r;
      back = rs;
      fit = tt;
      fits = fits;
      is = e ∙ (λ i. decimal r.first ++ sym plus i ∷ none i);
      remainder = sym (remainder ∙ ap (λ (t : List ℕ). t ++ y) none);
    })
after_first r rs fits go x y (b ∷ more) e s last (c ∷ start) f =
    let plus : 43 ≡ b = cc in
    let left : more ≡ start ++ last.byte ∷ [] = cc in
    let remainder : decimal r.count ++ tail (map written rs) ≡ more ++ y = cc in
    let digits = (IsDecimal-decimal r.count fits.1).digits in
    let m = skip (decimal r.count) more y (tail (map written rs)) start last.byte digits left last.other remainder in
    after_count r rs fits go x y m.more
    (e ∙ (λ i. decimal r.first ++ sym plus i ∷ m.prefix i) ∙ sym (append_assoc (decimal r.first) (43 ∷ decimal r.count) m.more)) m.remainder m.last

at : (rs : List Range) → AllByRecursion FitsU64 rs → (x y : List ℕ) → Apart x → joined (map written rs) ≡ x ++ y → At x y
at rs fit x y (inl e) s =
    inl (record { prefix = []; back = rs; fit = tt; more = fit; is = e; remainder = sym (s ∙ ap (λ (t : List ℕ). t ++ y) e) })
at [] fit x y (inr l) s =
    let e = ap length s in
    let f = ap length l.spelled in
    absurd (omega (arith, length-append x y, length-append l.start (l.byte ∷ [])))
at (r ∷ rs) fit x y (inr l) s =
    let whole : decimal r.first ++ 43 ∷ (decimal r.count ++ tail (map written rs)) ≡ x ++ y =
    sym (pair-append (written r) (tail (map written rs))) ∙ sym (joined-cons (written r) (map written rs)) ∙ s in
    let digits = (IsDecimal-decimal r.first fit.0.0).digits in
    let m = skip (decimal r.first) x y (43 ∷ (decimal r.count ++ tail (map written rs))) l.start l.byte digits l.spelled l.other whole in
    after_first r rs fit.0 (at rs fit.1) x y m.more m.prefix m.remainder m.last m.last.start m.last.spelled

-- ---- beginnings of lists

begins_at : (x remainder : List ℕ) → Apart x → IsListText (x ++ remainder) → At x remainder
begins_at x remainder apart list =
    at list.ranges (recursion_from_All FitsU64 list.ranges list.fit) x remainder apart (sym (list_text-joined list.ranges) ∙ list.spelled)

-- in the text of a list, no decimal of 2^64 or more stands at the start or after a byte that isn't a digit
no_large : (x there : List ℕ) → Apart x → BeginsLargeDecimal there → ¬ IsListText (x ++ there)
no_large x there apart large list = go (begins_at x there apart list)
  where
    starts : (back : List Range) → AllByRecursion FitsU64 back → there ≡ joined (map written back) → ⊥
    starts [] more e = large_some there large e
    starts (v ∷ vs) more e =
        small_decimal v.first (43 ∷ (decimal v.count ++ tail (map written vs))) there more.0.0 refl large
        (sym (e ∙ joined-cons (written v) (map written vs) ∙ pair-append (written v) (tail (map written vs))))

    go : At x there → ⊥
    go (inl a) = starts a.back a.more a.remainder
    go (inr a) = small_decimal a.range.count (tail (map written a.back)) there a.fits.1 (tail-no_digit (map written a.back)) large (sym a.remainder)

no_large_prefix : (x number : List ℕ) → Apart x → ((remainder : List ℕ) → BeginsLargeDecimal (number ++ remainder)) → ¬ BeginsList (x ++ number)
no_large_prefix x number apart large b =
    no_large x (number ++ b.remainder) apart (large b.remainder) (subst IsListText (append_assoc x number b.remainder) b.whole)

tail-last : (rs : List Range) (w : Written) → tail (map written rs ++ w ∷ []) ≡ 44 ∷ joined (map written rs ++ w ∷ [])
tail-last [] w = refl
tail-last (a ∷ rs) w = refl

joined-last : (rs : List Range) (w : Written) → joined (map written rs ++ w ∷ []) ≡ ranges_and_commas rs ++ pair_text w
joined-last [] w = refl
joined-last (a ∷ rs) w =
    joined-cons (written a) (map written rs ++ w ∷ [])
    ∙ ap (λ (t : List ℕ). pair_text (written a) ++ t) (tail-last rs w ∙ ap (λ (t : List ℕ). 44 ∷ t) (joined-last rs w))
    ∙ sym (append_assoc (pair_text (written a)) (44 ∷ ranges_and_commas rs) (pair_text w))

are_written : (rs : List Range) (w : Written) → AllByRecursion FitsU64 rs → IsWritten w → All (λ v. IsDecimal v.first × IsDecimal v.count) (map written rs ++ w ∷ [])
are_written rs w fit one =
    All-append IsWritten (map written rs) (w ∷ []) (All-from_recursion IsWritten (map written rs) (written-all rs fit))
    (All-cons IsWritten w [] one (All-nil IsWritten))

zero_is_decimal : IsDecimal (48 ∷ [])
zero_is_decimal = record { digits = refl; some = omega arith; plain = λ e. refl }

-- if the beginning of a list's text is empty or ends with a byte that isn't a digit, any decimal may follow, provided
-- that numbers of any size are allowed
goes_on : (x number : List ℕ) → Apart x → BeginsList x → IsDecimal number → BeginsLongList (x ++ number)
goes_on x number apart b is = go (begins_at x b.remainder apart b.whole)
  where
    go : At x b.remainder → BeginsLongList (x ++ number)
    go (inl a) =
        let w : Written = record { first = number; count = 48 ∷ [] } in
        record {
          ranges = map written a.prefix ++ w ∷ [];
          remainder = 43 ∷ 48 ∷ [];
          decimals = are_written a.prefix w a.fit (is, zero_is_decimal);
          spelled = joined-last a.prefix w ∙ ap (λ (t : List ℕ). t ++ (number ++ 43 ∷ 48 ∷ [])) (sym a.is) ∙ sym (append_assoc x number (43 ∷ 48 ∷ []));
        }
    go (inr a) =
        let w : Written = record { first = decimal a.range.first; count = number } in
        record {
          ranges = map written a.prefix ++ w ∷ [];
          remainder = [];
          decimals = are_written a.prefix w a.fit (IsDecimal-decimal a.range.first a.fits.0, is);
          spelled = joined-last a.prefix w
              ∙ ap (λ (t : List ℕ). ranges_and_commas a.prefix ++ t) (sym (append_assoc (decimal a.range.first) (43 ∷ []) number))
              ∙ sym (append_assoc (ranges_and_commas a.prefix) (decimal a.range.first ++ 43 ∷ []) number)
              ∙ ap (λ (t : List ℕ). t ++ number) (sym a.is) ∙ sym (append-nil (x ++ number));
        }

long_of : (x : List ℕ) → BeginsList x → BeginsLongList x
long_of x b = record {
  ranges = map written b.whole.ranges;
  remainder = b.remainder;
  decimals = All-from_recursion IsWritten (map written b.whole.ranges)
      (written-all b.whole.ranges (recursion_from_All FitsU64 b.whole.ranges b.whole.fit));
  spelled = sym (list_text-joined b.whole.ranges) ∙ b.whole.spelled;
}

-- ---- prefixes of a text

prefix_of : (text : List ℕ) (m n : ℕ) → m ≤ n → take n text ≡ take m text ++ drop m (take n text)
prefix_of text m n le = sym (take-append-drop m (take n text)) ∙ ap (λ (t : List ℕ). t ++ drop m (take n text)) (take-take m n text le)

shorter : (text : List ℕ) (m n : ℕ) → m ≤ n → BeginsList (take n text) → BeginsList (take m text)
shorter text m n le b =
    let more : List ℕ = drop m (take n text) in
    record {
      remainder = more ++ b.remainder;
      whole = subst IsListText (ap (λ (t : List ℕ). t ++ b.remainder) (prefix_of text m n le) ∙ append_assoc (take m text) more b.remainder) b.whole;
    }

shorter_long : (text : List ℕ) (m n : ℕ) → m ≤ n → BeginsLongList (take n text) → BeginsLongList (take m text)
shorter_long text m n le b =
    let more : List ℕ = drop m (take n text) in
    record {
      ranges = b.ranges;
      remainder = more ++ b.remainder;
      decimals = b.decimals;
      spelled = b.spelled ∙ ap (λ (t : List ℕ). t ++ b.remainder) (prefix_of text m n le) ∙ append_assoc (take m text) more b.remainder;
    }

-- at this place, the text has a decimal of 2^64 or more
record Large (text : List ℕ) (place : ℕ) : Type 0 where
  size : ℕ
  some : 1 ≤ size
  within : place + size ≤ length text
  apart : Apart (take place text)
  number : List ℕ
  long : length number ≡ size
  prefix : take (place + size) text ≡ take place text ++ number
  is : IsDecimal number
  large : (remainder : List ℕ) → BeginsLargeDecimal (number ++ remainder)
  whole : text ≡ take place text ++ (number ++ drop (place + size) text)

apart_at : (text : List ℕ) (place : ℕ) → place ≤ length text → (1 ≤ place → is_ascii_digit (slice_index text (place - 1)) ≡ false) → Apart (take place text)
apart_at text zero low h = inl refl
apart_at text (suc place) low h = inr (record {
  start = take place text;
  byte = get_or text place 0;
  spelled = ap (λ (n : ℕ). take n text) next ∙ take_more text place 0 (omega arith);
  other = ap (λ (n : ℕ). is_ascii_digit (slice_index text n)) before ∙ h (omega arith);
})
  where
    next : suc place ≡ place + 1
    next = omega arith

    before : place ≡ suc place - 1
    before = omega arith

large_in : (text : List ℕ) (place : ℕ) → IsLargeDecimal text place → Large text place
large_in text place l =
    let n : List ℕ = l.there.number in
    let some = l.there.is_decimal.some in
    let sizes : length (drop place text) ≡ length n + length l.there.remainder = ap length l.there.spelled ∙ length-append n l.there.remainder in
    let left = length-drop place text in
    let within : place + length n ≤ length text = omega arith in
    let prefix : length (take place text) ≡ place = length-take-le place text (omega arith) in
    let whole : text ≡ (take place text ++ n) ++ l.there.remainder =
    sym (take-append-drop place text) ∙ ap (λ (t : List ℕ). take place text ++ t) l.there.spelled ∙ sym (append_assoc (take place text) n l.there.remainder) in
    let size : length (take place text ++ n) ≡ place + length n = length-append (take place text) n ∙ ap (λ (m : ℕ). m + length n) prefix in
    let cut : take (place + length n) text ≡ take place text ++ n =
    ap (take (place + length n)) whole ∙ take_at (take place text ++ n) l.there.remainder (place + length n) size in
    record {
      size = length n;
      some = some;
      within = within;
      apart = apart_at text place (omega arith) l.apart;
      number = n;
      long = refl;
      prefix = cut;
      is = l.there.is_decimal;
      large = λ remainder. record { number = n; remainder = remainder; is_decimal = l.there.is_decimal; large = l.there.large; spelled = refl };
      whole = sym (take-append-drop (place + length n) text) ∙ ap (λ (t : List ℕ). t ++ drop (place + length n) text) cut
          ∙ append_assoc (take place text) n (drop (place + length n) text);
    }

digit_at : (number : List ℕ) (i : ℕ) → all_ascii_digits number ≡ true → i < length number → is_ascii_digit (get_or number i 0) ≡ true
digit_at [] i digits low = absurd (omega arith)
digit_at (a ∷ number) zero digits low = search (rules)
digit_at (a ∷ number) (suc i) digits low = digit_at number i (search (rules)) (omega arith)

-- ---- two first faults can't be at different places

bad_after : (text : List ℕ) (p q : ℕ) → p < q → q ≤ length text → IsBadListByte text p → BeginsList (take q text) → ⊥
bad_after text p q less within a before = a.there (omega arith) (long_of (take (p + 1) text) (shorter text (p + 1) q (omega arith) before))

large_before : (text : List ℕ) (p q : ℕ) → q < p → IsBadListByte text p → BeginsList (take q text) → Large text q → ⊥
large_before text p q less a before l = elim (cases_lt p (q + l.size)) [
  | inl inside ↦
      let within = l.within in
      a.there (omega arith) (shorter_long text (p + 1) (q + l.size) (omega arith)
      (subst BeginsLongList (sym l.prefix) (goes_on (take q text) l.number l.apart before l.is)))
  | inr past ↦ no_large_prefix (take q text) l.number l.apart l.large (subst BeginsList l.prefix (shorter text (q + l.size) p past a.before))
]

two_large : (text : List ℕ) (p q : ℕ) → p < q → Large text p → IsLargeDecimal text q → ⊥
two_large text p q less l m = elim (cases_lt q (p + l.size + 1)) [
  | inl inside ↦
      let within = l.within in
      let long = l.long in
      let prefix : length (take p text) ≡ p = length-take-le p text (omega arith) in
      let there : get_or text (q - 1) 0 ≡ get_or l.number (q - 1 - p) 0 =
      ap (λ (t : List ℕ). get_or t (q - 1) 0) l.whole
      ∙ get_or-append_right (take p text) (l.number ++ drop (p + l.size) text) p (q - 1) 0 prefix (omega arith)
      ∙ get_or_append_left l.number (drop (p + l.size) text) 0 (q - 1 - p) (omega arith) in
      let digit : is_ascii_digit (get_or text (q - 1) 0) ≡ true = ap is_ascii_digit there ∙ digit_at l.number (q - 1 - p) l.is.digits (omega arith) in
      let none : is_ascii_digit (get_or text (q - 1) 0) ≡ false = m.apart (omega arith) in
      absurd (cc)
  | inr past ↦ no_large_prefix (take p text) l.number l.apart l.large (subst BeginsList l.prefix (shorter text (p + l.size) q (omega arith) m.before))
]

large_within : (text : List ℕ) (place : ℕ) → Large text place → place ≤ length text
large_within text place l = let within = l.within in omega arith

one_before : (text : List ℕ) (p q : ℕ) → p < q → IsFirstListFault text p → IsFirstListFault text q → ⊥
one_before text p q less (inl a) (inl b) = bad_after text p q less b.within a b.before
one_before text p q less (inl a) (inr b) = bad_after text p q less (large_within text q (large_in text q b)) a b.before
one_before text p q less (inr a) (inl b) = large_before text q p less b a.before (large_in text p a)
one_before text p q less (inr a) (inr b) = two_large text p q less (large_in text p a) b

pub one_fault : (text : List ℕ) (one other : ℕ) → IsFirstListFault text one → IsFirstListFault text other → one ≡ other
one_fault text one other h k = elim (cases_order one other) [
  | inl same ↦ same
  | inr (inl less) ↦ absurd (one_before text one other less h k)
  | inr (inr more) ↦ absurd (one_before text other one more k h)
]
