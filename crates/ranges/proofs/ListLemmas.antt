-- How the ranges of a text are read one after another, up to the end of the text or its first fault.
use Rattle.std.proofs.Common.{◌≡◌, ◌≢◌, ◌+◌, ◌-◌, ◌++◌, ◌⊎◌, inl, inr, ℕ, Bool, true, false, List, [], ◌∷◌, Option, Some, None, length, map}
use Rattle.std.proofs.Common.{decimal, refl, sym, ◌∙◌, ap, subst, arith, append_assoc, append-nil}
use Rattle.std.proofs.lemmas.Fmt.{decimal_injective}
use Rattle.std.proofs.lemmas.List.Elements.{All-nil, All-push, recursion_from_All}
use Rattle.std.specs.List.{AllByRecursion}
use Rattle.ranges.specs.declared.range.Range.{Range}
use Rattle.ranges.specs.RangeLists.{FitU64, IsListText, joined, list_text, pair_text, written}
use Rattle.ranges.specs.RangeListFaults.{BeginsList, IsFirstListFault}
use Rattle.ranges.specs.RangeListSteps.{BeginsNoDecimal, HasPassed, IsNoRange, LacksComma, LacksCount, LacksPlus, Passes, Starts, has_digit, ranges_and_commas}
use Rattle.ranges.proofs.CutLemmas.{joined-cons, joined-injective, tail}
use Rattle.ranges.proofs.FaultLemmas.{Apart, FitsU64, Refused, bad, large_at, list_text-joined, not_list, opening-apart, refused_after, refused_comma}
use Rattle.ranges.proofs.FaultLemmas.{refused_count}
use Rattle.ranges.proofs.FaultLemmas.{refused_first, refused_large, refused_large_count, refused_plus, written-all}

-- what `tail`, `joined`, `list_text` and `ranges_and_commas` are for a list with the range r at its end
tail-push : (rs : List Range) (r : Range) → tail (map written (rs ++ r ∷ [])) ≡ 44 ∷ joined (map written (rs ++ r ∷ []))
tail-push [] r = refl
tail-push (a ∷ rs) r = refl

joined-push : (rs : List Range) (r : Range) → joined (map written (rs ++ r ∷ [])) ≡ ranges_and_commas rs ++ pair_text (written r)
joined-push [] r = refl
joined-push (a ∷ rs) r =
    joined-cons (written a) (map written (rs ++ r ∷ []))
    ∙ ap (λ (t : List ℕ). pair_text (written a) ++ t) (tail-push rs r ∙ ap (λ (t : List ℕ). 44 ∷ t) (joined-push rs r))
    ∙ sym (append_assoc (pair_text (written a)) (44 ∷ ranges_and_commas rs) (pair_text (written r)))

list_text-push : (rs : List Range) (r : Range) → list_text (rs ++ r ∷ []) ≡ ranges_and_commas rs ++ pair_text (written r)
list_text-push rs r = list_text-joined (rs ++ r ∷ []) ∙ joined-push rs r

opening-push : (rs : List Range) (r : Range) (x : List ℕ) → ranges_and_commas (rs ++ r ∷ []) ++ x ≡ ranges_and_commas rs ++ (pair_text (written r) ++ 44 ∷ x)
opening-push [] r x = append_assoc (pair_text (written r)) (44 ∷ []) x
opening-push (a ∷ rs) r x =
    append_assoc (pair_text (written a)) (44 ∷ ranges_and_commas (rs ++ r ∷ [])) x
    ∙ ap (λ (t : List ℕ). pair_text (written a) ++ 44 ∷ t) (opening-push rs r x)
    ∙ sym (append_assoc (pair_text (written a)) (44 ∷ ranges_and_commas rs) (pair_text (written r) ++ 44 ∷ x))

begins : (rs : List Range) (r : Range) (prefix remainder : List ℕ) → FitU64 rs → FitsU64 r → prefix ++ remainder ≡ pair_text (written r) → BeginsList (ranges_and_commas rs ++ prefix)
begins rs r prefix remainder fit fits s = record {
  remainder = remainder;
  whole = record {
    ranges = rs ++ r ∷ [];
    fit = All-push FitsU64 rs r fit fits;
    spelled = list_text-push rs r ∙ sym (append_assoc (ranges_and_commas rs) prefix remainder ∙ ap (λ (t : List ℕ). ranges_and_commas rs ++ t) s);
  };
}

abbrev of_first : ℕ → Range
of_first n = record { first = n; count = 0 }

-- the first fault of the text is at this place, and the text isn't a list
abbrev pub IsFaulty : List ℕ → ℕ → Type 0
IsFaulty text place = IsFirstListFault text place × ¬ IsListText text

wrong : (text prefix there : List ℕ) → text ≡ prefix ++ there → BeginsList prefix → Refused prefix there → IsFaulty text (length text - length there)
wrong text prefix there s b refused = (inl (bad text prefix there s b refused), not_list text prefix there s refused)

no_first : (text remainder : List ℕ) (rs : List Range) → FitU64 rs → text ≡ ranges_and_commas rs ++ remainder → text ≢ [] → BeginsNoDecimal remainder
    → IsFaulty text (length text - length remainder)
no_first text remainder rs fit s some none = go (has_digit remainder) refl
  where
    prefix : List ℕ
    prefix = ranges_and_commas rs ++ []

    whole : text ≡ prefix ++ remainder
    whole = s ∙ ap (λ (t : List ℕ). t ++ remainder) (sym (append-nil (ranges_and_commas rs)))

    b : BeginsList prefix
    b = begins rs (of_first 0) [] (pair_text (written (of_first 0))) fit (omega arith, omega arith) refl

    apart : Apart prefix
    apart = subst Apart (sym (append-nil (ranges_and_commas rs))) (opening-apart rs)

    go : (d : Bool) → has_digit remainder ≡ d → IsFaulty text (length text - length remainder)
    go false h = wrong text prefix remainder whole b (refused_after rs [] remainder fit (λ e. some (whole ∙ e)) (refused_first remainder h))
    go true h = (inr (large_at text prefix remainder whole b apart (none h)), refused_large text remainder rs fit s (none h))

no_plus : (text remainder there : List ℕ) (rs : List Range) → FitU64 rs → text ≡ ranges_and_commas rs ++ remainder → text ≢ [] → LacksPlus remainder there
    → IsFaulty text (length text - length there)
no_plus text remainder there rs fit s some l =
    let n = l.n in
    let prefix = ranges_and_commas rs ++ decimal n in
    let whole : text ≡ prefix ++ there = s ∙ ap (λ (t : List ℕ). ranges_and_commas rs ++ t) l.begins.spelled ∙ sym (append_assoc (ranges_and_commas rs) (decimal n) there) in
    let b : BeginsList prefix = begins rs (of_first n) (decimal n) (43 ∷ decimal 0) fit (l.begins.fits, omega arith) refl in
    wrong text prefix there whole b
    (refused_after rs (decimal n) there fit (λ e. some (whole ∙ e)) (refused_plus n there l.begins.fits l.begins.ends l.other))

no_count : (text remainder there : List ℕ) (rs : List Range) → FitU64 rs → text ≡ ranges_and_commas rs ++ remainder → text ≢ [] → LacksCount remainder there
    → IsFaulty text (length text - length there)
no_count text remainder there rs fit s some l = go (has_digit there) refl
  where
    piece : List ℕ
    piece = decimal l.n ++ 43 ∷ []

    prefix : List ℕ
    prefix = ranges_and_commas rs ++ piece

    cut : text ≡ ranges_and_commas rs ++ (decimal l.n ++ 43 ∷ there)
    cut = s ∙ ap (λ (t : List ℕ). ranges_and_commas rs ++ t) l.begins.spelled

    whole : text ≡ prefix ++ there
    whole = cut ∙ ap (λ (t : List ℕ). ranges_and_commas rs ++ t) (sym (append_assoc (decimal l.n) (43 ∷ []) there)) ∙ sym (append_assoc (ranges_and_commas rs) piece there)

    b : BeginsList prefix
    b = begins rs (of_first l.n) piece (decimal 0) fit (l.begins.fits, omega arith) (append_assoc (decimal l.n) (43 ∷ []) (decimal 0))

    apart : Apart prefix
    apart = inr (record { start = ranges_and_commas rs ++ decimal l.n; byte = 43; spelled = sym (append_assoc (ranges_and_commas rs) (decimal l.n) (43 ∷ [])); other = refl })

    go : (d : Bool) → has_digit there ≡ d → IsFaulty text (length text - length there)
    go false h = wrong text prefix there whole b
        (refused_after rs piece there fit (λ e. some (whole ∙ e)) (refused_count l.n there l.begins.fits h))
    go true h = (inr (large_at text prefix there whole b apart (l.none h)), refused_large_count text there rs l.n fit l.begins.fits cut (l.none h))

no_comma : (text remainder there : List ℕ) (rs : List Range) → FitU64 rs → text ≡ ranges_and_commas rs ++ remainder → text ≢ [] → LacksComma remainder there
    → IsFaulty text (length text - length there)
no_comma text remainder there rs fit s some l =
    let r = l.range in
    let fits : FitsU64 r = (l.begins.first, l.begins.count) in
    let prefix = ranges_and_commas rs ++ pair_text (written r) in
    let whole : text ≡ prefix ++ there =
    s ∙ ap (λ (t : List ℕ). ranges_and_commas rs ++ t) l.begins.spelled ∙ sym (append_assoc (ranges_and_commas rs) (pair_text (written r)) there) in
    let b : BeginsList prefix = begins rs r (pair_text (written r)) [] fit fits (append-nil (pair_text (written r))) in
    wrong text prefix there whole b
    (refused_after rs (pair_text (written r)) there fit (λ e. some (whole ∙ e)) (refused_comma r there fits l.begins.ends l.some l.other))

fault_after : (text remainder there : List ℕ) (rs : List Range) → FitU64 rs → text ≡ ranges_and_commas rs ++ remainder → text ≢ [] → IsNoRange remainder there ⊎ LacksComma remainder there
    → IsFaulty text (length text - length there)
fault_after text remainder there rs fit s some (inl (inl h)) =
    subst (λ (t : List ℕ). IsFaulty text (length text - length t)) (sym h.0) (no_first text remainder rs fit s some h.1)
fault_after text remainder there rs fit s some (inl (inr (inl h))) = no_plus text remainder there rs fit s some h
fault_after text remainder there rs fit s some (inl (inr (inr h))) = no_count text remainder there rs fit s some h
fault_after text remainder there rs fit s some (inr h) = no_comma text remainder there rs fit s some h

-- these ranges have been read, and the remainder is the text from the next range on, or `None` if no range follows
pub record Passed (text : List ℕ) (ranges : List Range) (remainder : Option (List ℕ)) : Type 0 where
  pub fit : FitU64 ranges
  pub passed : HasPassed text ranges remainder
  pub some : (here : List ℕ) → remainder ≡ Some here → text ≢ []

pub passed_fault : (text : List ℕ) (ranges : List Range) (here there : List ℕ) → Passed text ranges (Some here) → IsNoRange here there ⊎ LacksComma here there
    → IsFaulty text (length text - length there)
passed_fault text ranges here there p h = fault_after text here there ranges p.fit p.passed (p.some here refl) h

pub passed_first : (text : List ℕ) (remainder : Option (List ℕ)) → Starts text remainder → Passed text [] remainder
passed_first text None e = record { fit = All-nil FitsU64; passed = list_text-joined [] ∙ sym e; some = λ here h. absurd (cc) }
passed_first text (Some here) h = record { fit = All-nil FitsU64; passed = sym h.0; some = λ here' f g. h.1 (h.0 ∙ g) }

pub passed_more : (text : List ℕ) (ranges : List Range) (here : List ℕ) (r : Range) (next : Option (List ℕ)) → Passed text ranges (Some here)
    → Passes here r next
    → Passed text (ranges ++ r ∷ []) next
passed_more text ranges here r None p h = record {
  fit = All-push FitsU64 ranges r p.fit (h.first, h.count);
  passed = list_text-push ranges r ∙ sym (p.passed ∙ ap (λ (t : List ℕ). ranges_and_commas ranges ++ t) (h.spelled ∙ append-nil (pair_text (written r))));
  some = λ here' e. absurd (cc);
}
passed_more text ranges here r (Some remainder) p h = record {
  fit = All-push FitsU64 ranges r p.fit (h.first, h.count);
  passed = p.passed ∙ ap (λ (t : List ℕ). ranges_and_commas ranges ++ t) h.spelled ∙ sym (opening-push ranges r remainder);
  some = λ here' e. p.some here refl;
}

-- the measure that each iteration of a loop over the ranges of a text decreases: 0 if no range follows, otherwise one
-- more than the number of bytes left
abbrev pub left_of : Option (List ℕ) → ℕ
left_of None = 0
left_of (Some remainder) = 1 + length remainder

-- `written` and `list_text` are injective on ranges whose numbers are below 2^64
written-injective : (r s : Range) → FitsU64 r → FitsU64 s → written r ≡ written s → r ≡ s
written-injective r s h k e = λ i. record {
  first = decimal_injective r.first s.first h.0 k.0 (ap (λ w. w.first) e) i;
  count = decimal_injective r.count s.count h.1 k.1 (ap (λ w. w.count) e) i;
}

map-written-injective : (rs ss : List Range) → AllByRecursion FitsU64 rs → AllByRecursion FitsU64 ss → map written rs ≡ map written ss → rs ≡ ss
map-written-injective [] [] h k e = refl
map-written-injective [] (s ∷ ss) h k e = absurd (cc)
map-written-injective (r ∷ rs) [] h k e = absurd (cc)
map-written-injective (r ∷ rs) (s ∷ ss) h k e =
    let first : written r ≡ written s = cc in
    let more : map written rs ≡ map written ss = cc in
    let f = written-injective r s h.0 k.0 first in
    let m = map-written-injective rs ss h.1 k.1 more in
    λ i. f i ∷ m i

pub one_list : (rs ss : List Range) → FitU64 rs → FitU64 ss → list_text rs ≡ list_text ss → rs ≡ ss
one_list rs ss h k e =
    let p = recursion_from_All FitsU64 rs h in
    let q = recursion_from_All FitsU64 ss k in
    map-written-injective rs ss p q (joined-injective (map written rs) (map written ss) (written-all rs p) (written-all ss q)
    (sym (list_text-joined rs) ∙ e ∙ list_text-joined ss))
