-- The totals and samples of all codes determine the rows of a census.
use Rattle.std.proofs.Common.{◌≡◌, ◌∙◌, ◌≤◌, Bool, true, false, List, [], ◌∷◌, ◌||◌, ℕ, ap, sym, subst, refl, inl, inr, map, nat_le}
use Rattle.std.specs.Cmp.{both_ways as both_true, tied_itself}
use Rattle.std.specs.Cmp.Lexicographic.{nat_list_cmp_total, slice_cmp}
use Rattle.std.specs.List.{All, AllByRecursion, list_any}
use Rattle.std.specs.List.Sorted.{IsStrictlySortedBy}
use Rattle.std.specs.Ordering.{is_eq, nat_cmp, ordering_reverse}
use Rattle.std.specs.declared.cmp.Ordering.{Ordering}
use Rattle.std.specs.declared.cmp.Ordering.TheVariants.{Less, Equal, Greater}
use Rattle.std.proofs.lemmas.Bool.{cases_Bool, false≢true, le-leb, leb-true}
use Rattle.std.proofs.lemmas.List.Elements.{All-head, All-tail}
use Rattle.survey_core.specs.shapes.Objects.{is_code}
use Rattle.haul_core.specs.declared.book.census_rows.Row.{Row}
use Rattle.haul_core.specs.Rows.{AreRowsOf, IsRowOf, codes_of}
use Rattle.haul_core.specs.Keeping.{samples}
use Rattle.haul_core.specs.Totals.{Survey, numbers_with, total}
use Rattle.haul_core.proofs.LeastLemmas.{one_least}
use Rattle.haul_core.proofs.ScoreLemmas.{code_same, is_code-same}

-- ---- codes in order

abbrev code_cmp : List ℕ → List ℕ → Ordering
code_cmp a b = slice_cmp nat_cmp a b

pub one_code : (a b : List ℕ) → is_code a b ≡ true → a ≡ b
one_code a b h = code_same a b (sym (is_code-same a b) ∙ h)

-- a code that comes before all codes of a list isn't among them
not_among : (code : List ℕ) (codes : List (List ℕ)) → AllByRecursion (λ c. code_cmp code c ≡ Less) codes → list_any (is_code code) codes ≡ false
not_among code [] before = refl
not_among code (c ∷ cs) before = ap (λ (o : Ordering). is_eq o || list_any (is_code code) cs) before.0 ∙ not_among code cs before.1

all_before : (a b : List ℕ) (codes : List (List ℕ)) → code_cmp a b ≡ Less → AllByRecursion (λ c. code_cmp b c ≡ Less) codes
    → AllByRecursion (λ c. code_cmp a c ≡ Less) codes
all_before a b [] less before = tt
all_before a b (c ∷ cs) less before = (nat_list_cmp_total.trans a b c less before.0, all_before a b cs less before.1)

among_first : (code : List ℕ) (codes : List (List ℕ)) → list_any (is_code code) (code ∷ codes) ≡ true
among_first code codes = ap (λ (o : Ordering). is_eq o || list_any (is_code code) codes) (tied_itself nat_list_cmp_total code)

both_false : {b d : Bool} → b ≡ false → b ≡ d → d ≡ true → ⊥
both_false e same h = false≢true (sym e ∙ same ∙ h)

-- strictly sorted lists of codes with the same members are equal
pub one_order : (xs ys : List (List ℕ)) → IsStrictlySortedBy (slice_cmp nat_cmp) xs → IsStrictlySortedBy (slice_cmp nat_cmp) ys
    → ((code : List ℕ) → list_any (is_code code) xs ≡ list_any (is_code code) ys) → xs ≡ ys
unfolding IsStrictlySortedBy
one_order [] [] h k same = refl
one_order [] (y ∷ ys) h k same = absurd (both_false refl (same y) (among_first y ys))
one_order (x ∷ xs) [] h k same = absurd (both_false refl (sym (same x)) (among_first x xs))
one_order (x ∷ xs) (y ∷ ys) h k same = go (code_cmp x y) refl (one_order xs ys h.1 k.1)
  where
    tails : x ≡ y → (code : List ℕ) → list_any (is_code code) xs ≡ list_any (is_code code) ys
    tails first code = elim (cases_Bool (is_code code x)) [
      | inl hit ↦
          let here : code ≡ x = one_code code x hit in
          ap (λ (c : List ℕ). list_any (is_code c) xs) here ∙ not_among x xs h.0
          ∙ sym (ap (λ (c : List ℕ). list_any (is_code c) ys) (here ∙ first) ∙ not_among y ys k.0)
      | inr miss ↦
          let other : is_code code y ≡ false = ap (is_code code) (sym first) ∙ miss in
          sym (ap (λ (b : Bool). b || list_any (is_code code) xs) miss) ∙ same code ∙ ap (λ (b : Bool). b || list_any (is_code code) ys) other
    ]

    go : (o : Ordering) → code_cmp x y ≡ o → (((code : List ℕ) → list_any (is_code code) xs ≡ list_any (is_code code) ys) → xs ≡ ys)
        → x ∷ xs ≡ y ∷ ys
    go Less e remainder = absurd (both_false (not_among x (y ∷ ys) (e, all_before x y ys e k.0)) (sym (same x)) (among_first x xs))
    go Greater e remainder =
        let less : code_cmp y x ≡ Less = nat_list_cmp_total.antisymm y x ∙ ap ordering_reverse e in
        absurd (both_false (not_among y (x ∷ xs) (less, all_before y x xs less h.0)) (same y) (among_first y ys))
    go Equal e remainder =
        let first : x ≡ y = one_code x y (ap is_eq e) in
        λ i. first i ∷ remainder (tails first) i

-- ---- rows

-- a code with a row has a total of at least 1
known : (surveys : List Survey) (rows : List Row) → All (IsRowOf surveys) rows → (code : List ℕ) → list_any (is_code code) (codes_of rows) ≡ true
    → 1 ≤ total surveys code
known surveys [] each code h = absurd (false≢true h)
known surveys (row ∷ rows) each code h = elim (cases_Bool (is_code code row.code)) [
  | inl hit ↦
      let is : IsRowOf surveys row = All-head (IsRowOf surveys) row rows each in
      let here : code ≡ row.code = one_code code row.code hit in
      subst (λ (n : ℕ). 1 ≤ n) (is.total_is ∙ ap (total surveys) (sym here)) is.some
  | inr miss ↦ known surveys rows (All-tail (IsRowOf surveys) row rows each) code
      (sym (ap (λ (b : Bool). b || list_any (is_code code) (codes_of rows)) miss) ∙ h)
]

pub has_row : (surveys : List Survey) (rows : List Row) → AreRowsOf surveys rows → (code : List ℕ)
    → list_any (is_code code) (codes_of rows) ≡ nat_le 1 (total surveys code)
has_row surveys rows are code =
    both_true (list_any (is_code code) (codes_of rows)) (nat_le 1 (total surveys code))
    (λ h. le-leb 1 (total surveys code) (known surveys rows are.each code h))
    (λ h. are.whole code (leb-true 1 (total surveys code) h))

abbrev row_at : List Survey → List ℕ → Row
row_at surveys code = record { code = code; total = total surveys code; samples = samples surveys code }

rows_by : (surveys : List Survey) (rows : List Row) → All (IsRowOf surveys) rows → rows ≡ map (row_at surveys) (codes_of rows)
rows_by surveys [] each = refl
rows_by surveys (row ∷ rows) each =
    let is : IsRowOf surveys row = All-head (IsRowOf surveys) row rows each in
    let remainder : rows ≡ map (row_at surveys) (codes_of rows) = rows_by surveys rows (All-tail (IsRowOf surveys) row rows each) in
    let least : row.samples ≡ samples surveys row.code = one_least (numbers_with surveys row.code) row.samples is.samples_are in
    λ i. record { code = row.code; total = is.total_is i; samples = least i } ∷ remainder i

pub same_rows : (surveys others : List Survey) (rows more : List Row) → ((code : List ℕ) → total surveys code ≡ total others code)
    → ((code : List ℕ) → samples surveys code ≡ samples others code) → AreRowsOf surveys rows → AreRowsOf others more → rows ≡ more
same_rows surveys others rows more totals least are were =
    let codes : codes_of rows ≡ codes_of more = one_order (codes_of rows) (codes_of more) are.in_order were.in_order
    (λ code. has_row surveys rows are code ∙ ap (nat_le 1) (totals code) ∙ sym (has_row others more were code)) in
    rows_by surveys rows are.each ∙ ap (map (row_at surveys)) codes
    ∙ (λ i. map (λ (code : List ℕ). record { code = code; total = totals code i; samples = least code i }) (codes_of more))
    ∙ sym (rows_by others more were.each)
