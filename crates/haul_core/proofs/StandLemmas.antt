-- Arrivals that lead to a joined haul.
use Rattle.std.proofs.Common.{◌≡◌, ◌∙◌, ◌≤◌, ◌||◌, ◌++◌, ℕ, Bool, true, false, not, nat_le, List, [], ◌∷◌, ap, sym, refl, subst, arith}
use Rattle.std.proofs.Common.{rules, map, filter, if◌then◌else◌}
use Rattle.std.specs.List.{All}
use Rattle.std.proofs.lemmas.Bool.{and_from, and_parts, le-leb, leb-true}
use Rattle.std.proofs.lemmas.List.{append-nil, map-append}
use Rattle.std.proofs.lemmas.List.Elements.{All-append, All-cons, All-filter, All-head, All-tail, All-weaker, filter_passes}
use Rattle.std.proofs.lemmas.List.Folds.{list_any-append}
use Rattle.survey_core.specs.declared.job.Job.{Job}
use Rattle.haul_core.specs.declared.book.arrival.Arrival.{Arrival}
use Rattle.haul_core.specs.declared.book.arrival.Arrival.TheVariants.{Closing, Offer}
use Rattle.ranges.specs.declared.range.Range.{Range}
use Rattle.haul_core.specs.Books.{Held, StandsFor, Terms, eligible, entry, first_of_each, has_closing, has_number, is_lawful, offered, taken_of}
use Rattle.survey_core.specs.Jobs.{same_job}
use Rattle.haul_core.specs.Joins.{CanJoin, IsJoined, joined_arrivals, taken_offers}
use Rattle.ranges.specs.Ranges.{ShareNumber, is_in, is_in_range}
use Rattle.haul_core.specs.Reports.{Reported}
use Rattle.survey_core.proofs.lemmas.JobLemmas.{jobs_decide}

offered-offers : (xs : List Reported) (remainder : List Arrival) → offered (map (λ r. Offer r) xs ++ remainder) ≡ xs ++ offered remainder
offered-offers [] remainder = refl
offered-offers (x ∷ xs) remainder = ap (λ (t : List Reported). x ∷ t) (offered-offers xs remainder)

closing-offers : (xs : List Reported) (remainder : List Arrival) → has_closing (map (λ r. Offer r) xs ++ remainder) ≡ has_closing remainder
closing-offers [] remainder = refl
closing-offers (x ∷ xs) remainder = closing-offers xs remainder

-- no two of the reports have the same number
abbrev Differ : List Reported → Type 0
Differ [] = Unit {0}
Differ (r ∷ more) = All (λ s. has_number r.number s ≡ false) more × Differ more

differ-filter : (p : Reported → Bool) (rs : List Reported) → Differ rs → Differ (filter p rs)
differ-filter p [] h = tt
differ-filter p (r ∷ rs) h = go (p r) (differ-filter p rs h.1)
  where
    go : (b : Bool) → Differ (filter p rs) → Differ (if b then r ∷ filter p rs else filter p rs)
    go true remainder = (All-filter p (λ s. has_number r.number s ≡ false) rs h.0, remainder)
    go false remainder = remainder

not_false : (b : Bool) → not b ≡ true → b ≡ false
not_false true h = absurd (cc)
not_false false h = refl

not_true : (b : Bool) → b ≡ false → not b ≡ true
not_true true h = absurd (cc)
not_true false h = refl

differ-first : (rs : List Reported) → Differ (first_of_each rs)
differ-first [] = tt
differ-first (r ∷ rs) =
    let p : Reported → Bool = (λ s. not (has_number r.number s)) in (
      All-weaker (λ s. p s ≡ true) (λ s. has_number r.number s ≡ false) (λ s h. not_false (has_number r.number s) h) (filter p (first_of_each rs))
          (filter_passes p (first_of_each rs)),
      differ-filter p (first_of_each rs) (differ-first rs),
    )

filter_same : (p : Reported → Bool) (rs : List Reported) → All (λ s. p s ≡ true) rs → filter p rs ≡ rs
filter_same p [] h = refl
filter_same p (r ∷ rs) h =
    ap (λ (b : Bool). if b then r ∷ filter p rs else filter p rs) (All-head (λ s. p s ≡ true) r rs h)
    ∙ ap (λ (t : List Reported). r ∷ t) (filter_same p rs (All-tail (λ s. p s ≡ true) r rs h))

first_same : (rs : List Reported) → Differ rs → first_of_each rs ≡ rs
first_same [] h = refl
first_same (r ∷ rs) h =
    let p : Reported → Bool = (λ s. not (has_number r.number s)) in
    ap (λ (t : List Reported). r ∷ filter p t) (first_same rs h.1)
    ∙ ap (λ (t : List Reported). r ∷ t) (filter_same p rs
    (All-weaker (λ s. has_number r.number s ≡ false) (λ s. p s ≡ true) (λ s k. not_true (has_number r.number s) k) rs h.0))

-- if neither of two lists of reports has a number twice, and their numbers are from two sets that share no number, the
-- joined list has no number twice
differ-append : (a b : List Range) (xs ys : List Reported) → ¬ ShareNumber a b → All (λ r. is_in a r.number ≡ true) xs → All (λ r. is_in b r.number ≡ true) ys
    → Differ xs → Differ ys → Differ (xs ++ ys)
differ-append a b [] ys apart h k d e = e
differ-append a b (x ∷ xs) ys apart h k d e = (
  All-append (λ s. has_number x.number s ≡ false) xs ys d.0
      (All-weaker (λ r. is_in b r.number ≡ true) (λ s. has_number x.number s ≡ false) (λ s inside. go s inside (has_number x.number s) refl) ys k),
  differ-append a b xs ys apart (All-tail (λ r. is_in a r.number ≡ true) x xs h) k d.1 e,
)
  where
    go : (s : Reported) → is_in b s.number ≡ true → (t : Bool) → has_number x.number s ≡ t → has_number x.number s ≡ false
    go s inside false f = f
    go s inside true f =
        let same : x.number ≡ s.number = grind (arith, f) in
        absurd (apart (record {
          number = x.number;
          first = All-head (λ r. is_in a r.number ≡ true) x xs h;
          second = subst (λ (n : ℕ). is_in b n ≡ true) (sym same) inside;
        }))

all-first : (P : Reported → Type 0) (rs : List Reported) → All P rs → All P (first_of_each rs)
all-first P [] h = h
all-first P (r ∷ rs) h =
    All-cons P r (filter (λ s. not (has_number r.number s)) (first_of_each rs)) (All-head P r rs h)
    (All-filter (λ s. not (has_number r.number s)) P (first_of_each rs) (all-first P rs (All-tail P r rs h)))

-- the reports that a haul has taken
abbrev reports : Terms → List Arrival → List Reported
reports terms arrivals = first_of_each (eligible terms arrivals)

reports_lawful : (terms : Terms) (arrivals : List Arrival) → All (λ r. is_lawful terms r ≡ true) (reports terms arrivals)
reports_lawful terms arrivals =
    all-first (λ r. is_lawful terms r ≡ true) (eligible terms arrivals) (filter_passes (is_lawful terms) (offered arrivals))

in_set : (terms : Terms) (r : Reported) → is_lawful terms r ≡ true → is_in terms.ranges r.number ≡ true
in_set terms r h = search (rules)

module _ (a b j : Held) (can : CanJoin a b) (is : IsJoined a b j) where
  either : (n : ℕ) → is_in j.terms.ranges n ≡ (is_in a.terms.ranges n || is_in b.terms.ranges n)
  either n = is.set.same n ∙ list_any-append (is_in_range n) a.terms.ranges b.terms.ranges

  lawful_first : (r : Reported) → is_lawful a.terms r ≡ true → is_lawful j.terms r ≡ true
  lawful_first r h =
      let job : same_job j.terms.job r.job ≡ true = ap (λ (k : Job). same_job k r.job) is.job ∙ (and_parts _ _ h).0 in
      let few : r.worker ≤ a.terms.workers = leb-true r.worker a.terms.workers (and_parts _ _ (and_parts _ _ h).1).0 in
      let worker : nat_le r.worker j.terms.workers ≡ true = le-leb r.worker j.terms.workers (omega (arith, few, is.workers)) in
      let inside : is_in j.terms.ranges r.number ≡ true = either r.number ∙ ap (λ (t : Bool). t || is_in b.terms.ranges r.number) (in_set a.terms r h) in
      and_from _ _ job (and_from _ _ worker inside)

  lawful_second : (r : Reported) → is_lawful b.terms r ≡ true → is_lawful j.terms r ≡ true
  lawful_second r h =
      let one : a.terms.job ≡ b.terms.job = (jobs_decide a.terms.job b.terms.job).0 can.job in
      let job : same_job j.terms.job r.job ≡ true = ap (λ (k : Job). same_job k r.job) (is.job ∙ one) ∙ (and_parts _ _ h).0 in
      let few : r.worker ≤ b.terms.workers = leb-true r.worker b.terms.workers (and_parts _ _ (and_parts _ _ h).1).0 in
      let worker : nat_le r.worker j.terms.workers ≡ true = le-leb r.worker j.terms.workers (omega (arith, few, is.workers)) in
      let inside : is_in j.terms.ranges r.number ≡ true = either r.number ∙ or_true (is_in a.terms.ranges r.number) (in_set b.terms r h) in
      and_from _ _ job (and_from _ _ worker inside)
    where
      or_true : (x : Bool) {y : Bool} → y ≡ true → (x || y) ≡ true
      or_true true h = refl
      or_true false h = h

  pub stands_joined : (before after : List Arrival) → StandsFor before a → StandsFor after b → StandsFor (joined_arrivals a.terms before b.terms after) j
  stands_joined before after s t = record { taken = taken; closed = closed }
    where
      xs : List Reported
      xs = reports a.terms before

      ys : List Reported
      ys = reports b.terms after

      arrivals : List Arrival
      arrivals = joined_arrivals a.terms before b.terms after

      came : offered arrivals ≡ xs ++ ys
      came = offered-offers xs (taken_offers b.terms after ++ Closing ∷ [])
          ∙ ap (λ (rs : List Reported). xs ++ rs) (offered-offers ys (Closing ∷ []) ∙ append-nil ys)

      lawful : All (λ r. is_lawful j.terms r ≡ true) (xs ++ ys)
      lawful = All-append (λ r. is_lawful j.terms r ≡ true) xs ys
          (All-weaker (λ r. is_lawful a.terms r ≡ true) (λ r. is_lawful j.terms r ≡ true) lawful_first xs (reports_lawful a.terms before))
          (All-weaker (λ r. is_lawful b.terms r ≡ true) (λ r. is_lawful j.terms r ≡ true) lawful_second ys (reports_lawful b.terms after))

      differ : Differ (xs ++ ys)
      differ = differ-append a.terms.ranges b.terms.ranges xs ys can.apart
          (All-weaker (λ r. is_lawful a.terms r ≡ true) (λ r. is_in a.terms.ranges r.number ≡ true) (in_set a.terms) xs (reports_lawful a.terms before))
          (All-weaker (λ r. is_lawful b.terms r ≡ true) (λ r. is_in b.terms.ranges r.number ≡ true) (in_set b.terms) ys (reports_lawful b.terms after))
          (differ-first (eligible a.terms before)) (differ-first (eligible b.terms after))

      all : reports j.terms arrivals ≡ xs ++ ys
      all = ap (λ (rs : List Reported). first_of_each (filter (is_lawful j.terms) rs)) came
          ∙ ap first_of_each (filter_same (is_lawful j.terms) (xs ++ ys) lawful) ∙ first_same (xs ++ ys) differ

      taken : j.taken ≡ taken_of j.terms arrivals
      taken = is.taken ∙ (λ i. s.taken i ++ t.taken i) ∙ sym (ap (map entry) all ∙ map-append entry xs ys)

      closed : j.closed ≡ has_closing arrivals
      closed = is.closed ∙ sym (closing-offers xs (taken_offers b.terms after ++ Closing ∷ []) ∙ closing-offers ys (Closing ∷ []))
