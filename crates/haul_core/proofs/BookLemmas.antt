-- What the book does at one more arrival, and why a haul does the same.
use Rattle.std.proofs.Common.{◌≡◌, ◌≢◌, ◌∙◌, ◌&&◌, ◌||◌, ℕ, Bool, true, false, cond, not, nat_le, nat_lt, List, [], ◌∷◌}
use Rattle.std.proofs.Common.{◌++◌, Option, None, Some, ap, sym, subst, refl, inl, inr, ◌⊎◌, filter, map, option_map, if◌then◌else◌, Result, Ok, Err}
use Rattle.std.specs.List.{find}
use Rattle.std.specs.Iterator.{Yields}
use Rattle.std.specs.Result.{IsOk, OnErr, is_ok}
use Rattle.std.specs.Vec.Iter.{into_iter_items, into_iter_steps}
use Rattle.std.specs.declared.vec.IntoIter.{IntoIter}
use Rattle.std.proofs.lemmas.Bool.{cases_Bool, false≢true, eq-eqb, eqb-true, ne_eqb, leb-false, leb-true, le-ltb, lt-ltb, or_right}
use Rattle.std.proofs.lemmas.List.{append-nil, append_assoc, map_push}
use Rattle.std.proofs.lemmas.List.Elements.{filter-append}
use Rattle.std.proofs.lemmas.List.Folds.{list_any-append}
use Rattle.memory.specs.Witness.{out_of_memory}
use Rattle.haul_core.specs.declared.book.arrival.Arrival.{Arrival}
use Rattle.haul_core.specs.declared.book.arrival.Arrival.TheVariants.{Closing, Offer}
use Rattle.haul_core.specs.declared.book.refused.OfferError.{OfferError}
use Rattle.haul_core.specs.declared.book.refused.OfferError.TheVariants.{Closed, Memory, OtherJob, OutOfRange, UnknownWorker}
use Rattle.haul_core.specs.Replies.{IsTakenNext, StandsForPrefix, refusal_at, worker_in}
use Rattle.haul_core.specs.Books.{Held, StandsFor, Terms, eligible, entry, first_of_each}
use Rattle.haul_core.specs.Refusals.{IsReply, double, first_worker, refusal_of, replies_to, reply_to}
use Rattle.haul_core.specs.Books.{has_closing, has_number, is_closing, is_lawful, offered, taken_of}
use Rattle.haul_core.specs.declared.book.arrival.Reply.{Reply}
use Rattle.survey_core.specs.Jobs.{same_job}
use Rattle.ranges.specs.Ranges.{is_in}
use Rattle.haul_core.specs.Reports.{Reported}

-- ---- one more offer

offered_open : (arrivals : List Arrival) (r : Reported) → has_closing arrivals ≡ false → offered (arrivals ++ Offer r ∷ []) ≡ offered arrivals ++ r ∷ []
offered_open [] r h = refl
offered_open (Offer s ∷ more) r h = ap (λ (rs : List Reported). s ∷ rs) (offered_open more r h)
offered_open (Closing ∷ more) r h = absurd (false≢true (sym h))

offered_closed : (arrivals : List Arrival) (a : Arrival) → has_closing arrivals ≡ true → offered (arrivals ++ a ∷ []) ≡ offered arrivals
offered_closed [] a h = absurd (false≢true h)
offered_closed (Offer s ∷ more) a h = ap (λ (rs : List Reported). s ∷ rs) (offered_closed more a h)
offered_closed (Closing ∷ more) a h = refl

offered_closing : (arrivals : List Arrival) → offered (arrivals ++ Closing ∷ []) ≡ offered arrivals
offered_closing [] = refl
offered_closing (Offer s ∷ more) = ap (λ (rs : List Reported). s ∷ rs) (offered_closing more)
offered_closing (Closing ∷ more) = refl

eligible_lawful : (terms : Terms) (arrivals : List Arrival) (r : Reported) → has_closing arrivals ≡ false → is_lawful terms r ≡ true
    → eligible terms (arrivals ++ Offer r ∷ []) ≡ eligible terms arrivals ++ r ∷ []
eligible_lawful terms arrivals r before lawful =
    ap (filter (is_lawful terms)) (offered_open arrivals r before) ∙ filter-append (is_lawful terms) (offered arrivals) (r ∷ [])
    ∙ ap (λ (b : Bool). eligible terms arrivals ++ cond b (r ∷ []) []) lawful

eligible_unlawful : (terms : Terms) (arrivals : List Arrival) (r : Reported) → has_closing arrivals ≡ false → is_lawful terms r ≡ false
    → eligible terms (arrivals ++ Offer r ∷ []) ≡ eligible terms arrivals
eligible_unlawful terms arrivals r before lawful =
    ap (filter (is_lawful terms)) (offered_open arrivals r before) ∙ filter-append (is_lawful terms) (offered arrivals) (r ∷ [])
    ∙ ap (λ (b : Bool). eligible terms arrivals ++ cond b (r ∷ []) []) lawful ∙ append-nil (eligible terms arrivals)

-- ---- the first report on each number

other : ℕ → Reported → Bool
other n s = not (has_number n s)

find_other : (n m : ℕ) (rs : List Reported) → (n ≡ m → ⊥) → find (has_number n) (filter (λ s. not (has_number m s)) rs) ≡ find (has_number n) rs
find_other n m [] h = refl
find_other n m (r ∷ rs) h = go (cases_Bool (has_number m r)) (find_other n m rs h)
  where
    go : (has_number m r ≡ true) ⊎ (has_number m r ≡ false) → find (has_number n) (filter (λ s. not (has_number m s)) rs) ≡ find (has_number n) rs
        → find (has_number n) (cond (not (has_number m r)) (r ∷ filter (λ s. not (has_number m s)) rs) (filter (λ s. not (has_number m s)) rs))
        ≡ cond (has_number n r) (Some r) (find (has_number n) rs)
    go (inl same) remainder =
        let apart : has_number n r ≡ false = ne_eqb n r.number (λ e. h (e ∙ sym (eqb-true m r.number same))) in
        ap (λ (b : Bool). find (has_number n) (cond (not b) (r ∷ filter (λ s. not (has_number m s)) rs) (filter (λ s. not (has_number m s)) rs))) same ∙ remainder
        ∙ sym (ap (λ (b : Bool). cond b (Some r) (find (has_number n) rs)) apart)
    go (inr apart) remainder =
        ap (λ (b : Bool). find (has_number n) (cond (not b) (r ∷ filter (λ s. not (has_number m s)) rs) (filter (λ s. not (has_number m s)) rs))) apart
        ∙ ap (λ (o : Option Reported). cond (has_number n r) (Some r) o) remainder

-- a search for a number in `first_of_each` finds the same report as a search in the whole list
pub find_first : (n : ℕ) (rs : List Reported) → find (has_number n) (first_of_each rs) ≡ find (has_number n) rs
find_first n [] = refl
find_first n (r ∷ rs) = go (cases_Bool (has_number n r)) (find_first n rs)
  where
    go : (has_number n r ≡ true) ⊎ (has_number n r ≡ false) → find (has_number n) (first_of_each rs) ≡ find (has_number n) rs
        → cond (has_number n r) (Some r) (find (has_number n) (filter (λ s. not (has_number r.number s)) (first_of_each rs)))
        ≡ cond (has_number n r) (Some r) (find (has_number n) rs)
    go (inl same) remainder =
        ap (λ (b : Bool). cond b (Some r) (find (has_number n) (filter (λ s. not (has_number r.number s)) (first_of_each rs)))) same
        ∙ sym (ap (λ (b : Bool). cond b (Some r) (find (has_number n) rs)) same)
    go (inr apart) remainder =
        ap (λ (o : Option Reported). cond (has_number n r) (Some r) o)
        (find_other n r.number (first_of_each rs) (λ e. false≢true (sym apart ∙ eq-eqb n r.number e)) ∙ remainder)

-- a report on a number that wasn't reported yet is added to the first reports
pub first_new : (rs : List Reported) (r : Reported) → find (has_number r.number) rs ≡ None → first_of_each (rs ++ r ∷ []) ≡ first_of_each rs ++ r ∷ []
first_new [] r h = refl
first_new (s ∷ rs) r h = go (λ remainder. first_new rs r remainder) (cases_Bool (has_number r.number s))
  where
    go : (find (has_number r.number) rs ≡ None → first_of_each (rs ++ r ∷ []) ≡ first_of_each rs ++ r ∷ [])
        → (has_number r.number s ≡ true) ⊎ (has_number r.number s ≡ false) → s ∷ filter (λ t. not (has_number s.number t)) (first_of_each (rs ++ r ∷ []))
        ≡ (s ∷ filter (λ t. not (has_number s.number t)) (first_of_each rs)) ++ r ∷ []
    go more (inl same) = let bad : Some s ≡ None = sym (ap (λ (b : Bool). cond b (Some s) (find (has_number r.number) rs)) same) ∙ h in absurd (cc)
    go more (inr apart) =
        let remainder : find (has_number r.number) rs ≡ None = sym (ap (λ (b : Bool). cond b (Some s) (find (has_number r.number) rs)) apart) ∙ h in
        let here : has_number s.number r ≡ false = ne_eqb s.number r.number (λ e. false≢true (sym apart ∙ eq-eqb r.number s.number (sym e))) in
        ap (λ (xs : List Reported). s ∷ xs)
        (ap (filter (λ t. not (has_number s.number t))) (more remainder)
        ∙ filter-append (λ t. not (has_number s.number t)) (first_of_each rs) (r ∷ [])
        ∙ ap (λ (b : Bool). filter (λ t. not (has_number s.number t)) (first_of_each rs) ++ cond (not b) (r ∷ []) []) here)

-- a report on a number that was already reported doesn't change the first reports
pub first_old : (rs : List Reported) (r s : Reported) → find (has_number r.number) rs ≡ Some s → first_of_each (rs ++ r ∷ []) ≡ first_of_each rs
first_old [] r s h = cc
first_old (x ∷ rs) r s h = go (λ y found. first_old rs r y found) (cases_Bool (has_number r.number x))
  where
    dropped : (ys zs : List Reported) → zs ≡ ys ++ r ∷ [] → has_number x.number r ≡ true
        → filter (λ t. not (has_number x.number t)) zs ≡ filter (λ t. not (has_number x.number t)) ys
    dropped ys zs e same =
        ap (filter (λ t. not (has_number x.number t))) e ∙ filter-append (λ t. not (has_number x.number t)) ys (r ∷ [])
        ∙ ap (λ (b : Bool). filter (λ t. not (has_number x.number t)) ys ++ cond (not b) (r ∷ []) []) same
        ∙ append-nil (filter (λ t. not (has_number x.number t)) ys)

    tail : ((y : Reported) → find (has_number r.number) rs ≡ Some y → first_of_each (rs ++ r ∷ []) ≡ first_of_each rs) → (o : Option Reported)
        → find (has_number r.number) rs ≡ o → has_number x.number r ≡ true
        → filter (λ t. not (has_number x.number t)) (first_of_each (rs ++ r ∷ [])) ≡ filter (λ t. not (has_number x.number t)) (first_of_each rs)
    tail more None e same = dropped (first_of_each rs) (first_of_each (rs ++ r ∷ [])) (first_new rs r e) same
    tail more (Some y) e same = ap (filter (λ t. not (has_number x.number t))) (more y e)

    go : ((y : Reported) → find (has_number r.number) rs ≡ Some y → first_of_each (rs ++ r ∷ []) ≡ first_of_each rs)
        → (has_number r.number x ≡ true) ⊎ (has_number r.number x ≡ false) → x ∷ filter (λ t. not (has_number x.number t)) (first_of_each (rs ++ r ∷ []))
        ≡ x ∷ filter (λ t. not (has_number x.number t)) (first_of_each rs)
    go more (inl same) =
        ap (λ (xs : List Reported). x ∷ xs) (tail more (find (has_number r.number) rs) refl (eq-eqb x.number r.number (sym (eqb-true r.number x.number same))))
    go more (inr apart) =
        let remainder : find (has_number r.number) rs ≡ Some s = sym (ap (λ (b : Bool). cond b (Some x) (find (has_number r.number) rs)) apart) ∙ h in
        ap (λ (xs : List Reported). x ∷ filter (λ t. not (has_number x.number t)) xs) (more s remainder)

-- ---- replies

-- why an offer is refused if the tests have these results: the first reason that fits, or `None` if the offer is taken
abbrev pub refuses : Bool → Bool → Bool → Bool → Option ℕ → Option OfferError
refuses closed job over inside worker =
    if closed then Some Closed
    else if not job then Some OtherJob
    else if over then Some UnknownWorker
    else if not inside then Some OutOfRange
    else double worker

-- the offer passes each test
pub record None_holds (closed job over inside : Bool) (worker : Option ℕ) : Type 0 where
  pub not_closed : closed ≡ false
  pub own_job : job ≡ true
  pub own_worker : over ≡ false
  pub in_set : inside ≡ true
  pub new : worker ≡ None

double_none : (worker : Option ℕ) → double worker ≡ None → worker ≡ None
double_none None e = refl
double_none (Some w) e = absurd (cc)

pub none_holds : (closed job over inside : Bool) (worker : Option ℕ) → refuses closed job over inside worker ≡ None → None_holds closed job over inside worker
none_holds true job over inside worker e = absurd (cc)
none_holds false false over inside worker e = absurd (cc)
none_holds false true true inside worker e = absurd (cc)
none_holds false true false false worker e = absurd (cc)
none_holds false true false true worker e = record { not_closed = refl; own_job = refl; own_worker = refl; in_set = refl; new = double_none worker e }

-- the kind of reason for which an offer is refused
pub data Why (closed job over inside : Bool) (worker : Option ℕ) : Type 0 where
  Was_closed : closed ≡ true → Why closed job over inside worker
  Unlawful : closed ≡ false → (job && (not over && inside)) ≡ false → Why closed job over inside worker
  Was_taken : closed ≡ false → (w : ℕ) → worker ≡ Some w → Why closed job over inside worker

pub why : (closed job over inside : Bool) (worker : Option ℕ) (reason : OfferError) → refuses closed job over inside worker ≡ Some reason
    → Why closed job over inside worker
why true job over inside worker reason e = Was_closed refl
why false false over inside worker reason e = Unlawful refl refl
why false true true inside worker reason e = Unlawful refl refl
why false true false false worker reason e = Unlawful refl refl
why false true false true None reason e = absurd (cc)
why false true false true (Some w) reason e = Was_taken refl w refl

le_not_lt : (a b : ℕ) → nat_le a b ≡ not (nat_lt b a)
le_not_lt a b = go (cases_Bool (nat_le a b))
  where
    go : (nat_le a b ≡ true) ⊎ (nat_le a b ≡ false) → nat_le a b ≡ not (nat_lt b a)
    go (inl le) = le ∙ sym (ap not (le-ltb b a (leb-true a b le)))
    go (inr gt) = gt ∙ sym (ap not (lt-ltb b a (leb-false a b gt)))

lawful_is : (terms : Terms) (r : Reported)
    → is_lawful terms r ≡ (same_job terms.job r.job && (not (nat_lt terms.workers r.worker) && is_in terms.ranges r.number))
lawful_is terms r = ap (λ (b : Bool). same_job terms.job r.job && (b && is_in terms.ranges r.number)) (le_not_lt r.worker terms.workers)

-- a refused offer doesn't change what is taken
pub refused_leaves : (terms : Terms) (arrivals : List Arrival) (r : Reported) (reason : OfferError) → refusal_of terms arrivals r ≡ Some reason
    → taken_of terms (arrivals ++ Offer r ∷ []) ≡ taken_of terms arrivals
refused_leaves terms arrivals r reason e = go (why (has_closing arrivals) (same_job terms.job r.job) (nat_lt terms.workers r.worker)
    (is_in terms.ranges r.number) (first_worker r.number (eligible terms arrivals)) reason e)
  where
    lawful_go : has_closing arrivals ≡ false → (s : Reported) → find (has_number r.number) (eligible terms arrivals) ≡ Some s
        → (is_lawful terms r ≡ true) ⊎ (is_lawful terms r ≡ false)
        → first_of_each (eligible terms (arrivals ++ Offer r ∷ [])) ≡ first_of_each (eligible terms arrivals)
    lawful_go before s found (inl lawful) = ap first_of_each (eligible_lawful terms arrivals r before lawful) ∙ first_old (eligible terms arrivals) r s found
    lawful_go before s found (inr unlawful) = ap first_of_each (eligible_unlawful terms arrivals r before unlawful)

    found_go : has_closing arrivals ≡ false → (w : ℕ) (o : Option Reported) → find (has_number r.number) (eligible terms arrivals) ≡ o
        → option_map (λ s. s.worker) o ≡ Some w
        → taken_of terms (arrivals ++ Offer r ∷ []) ≡ taken_of terms arrivals
    found_go before w None found is = absurd (cc)
    found_go before w (Some s) found is = ap (map entry) (lawful_go before s found (cases_Bool (is_lawful terms r)))

    go : Why (has_closing arrivals) (same_job terms.job r.job) (nat_lt terms.workers r.worker) (is_in terms.ranges r.number) (first_worker r.number (eligible terms arrivals))
        → taken_of terms (arrivals ++ Offer r ∷ []) ≡ taken_of terms arrivals
    go (Was_closed closed) = ap (λ (rs : List Reported). map entry (first_of_each (filter (is_lawful terms) rs))) (offered_closed arrivals (Offer r) closed)
    go (Unlawful before unlawful) =
        ap (λ (rs : List Reported). map entry (first_of_each rs)) (eligible_unlawful terms arrivals r before (lawful_is terms r ∙ unlawful))
    go (Was_taken before w is) = found_go before w (find (has_number r.number) (eligible terms arrivals)) refl is

-- if the book has no reason to refuse an offer, the offer's worker and number are appended to what is taken
pub taken_more : (terms : Terms) (arrivals : List Arrival) (r : Reported) → refusal_of terms arrivals r ≡ None
    → taken_of terms (arrivals ++ Offer r ∷ []) ≡ taken_of terms arrivals ++ entry r ∷ []
taken_more terms arrivals r e =
    let h = none_holds (has_closing arrivals) (same_job terms.job r.job) (nat_lt terms.workers r.worker) (is_in terms.ranges r.number)
    (first_worker r.number (eligible terms arrivals)) e in
    let lawful : is_lawful terms r ≡ true = lawful_is terms r ∙ (λ i. h.own_job i && (not (h.own_worker i) && h.in_set i)) in
    let new : find (has_number r.number) (eligible terms arrivals) ≡ None = unfound (find (has_number r.number) (eligible terms arrivals)) h.new in
    ap (λ (rs : List Reported). map entry (first_of_each rs)) (eligible_lawful terms arrivals r h.not_closed lawful)
    ∙ ap (map entry) (first_new (eligible terms arrivals) r new) ∙ map_push entry (first_of_each (eligible terms arrivals)) r
  where
    unfound : (o : Option Reported) → option_map (λ s. s.worker) o ≡ None → o ≡ None
    unfound None is = refl
    unfound (Some s) is = absurd (cc)

-- ---- the book and the haul

pub worker_found : (n : ℕ) (rs : List Reported) → worker_in n (map entry rs) ≡ first_worker n rs
worker_found n [] = refl
worker_found n (r ∷ rs) = go (has_number n r) (worker_found n rs)
  where
    go : (b : Bool) → worker_in n (map entry rs) ≡ first_worker n rs
        → cond b (Some r.worker) (worker_in n (map entry rs)) ≡ option_map (λ s. s.worker) (cond b (Some r) (find (has_number n) rs))
    go true remainder = refl
    go false remainder = remainder

-- a haul that has received these arrivals refuses the same offers as the book, for the same reasons
pub same_refusal : (arrivals : List Arrival) (held : Held) (r : Reported) → StandsFor arrivals held → refusal_of held.terms arrivals r ≡ refusal_at held r
same_refusal arrivals held r s =
    let reports : List Reported = eligible held.terms arrivals in
    let found : first_worker r.number reports ≡ worker_in r.number held.taken =
    ap (option_map (λ (r : Reported). r.worker)) (sym (find_first r.number reports)) ∙ sym (worker_found r.number (first_of_each reports))
    ∙ ap (worker_in r.number) (sym s.taken) in
    let open_same : has_closing arrivals ≡ held.closed = sym s.closed in
    λ i. refuses (open_same i) (same_job held.terms.job r.job) (nat_lt held.terms.workers r.worker) (is_in held.terms.ranges r.number) (found i)

closing_offer : (arrivals : List Arrival) (r : Reported) → has_closing (arrivals ++ Offer r ∷ []) ≡ has_closing arrivals
closing_offer arrivals r = list_any-append is_closing arrivals (Offer r ∷ []) ∙ or_false (has_closing arrivals)
  where
    or_false : (b : Bool) → (b || false) ≡ b
    or_false true = refl
    or_false false = refl

pub stands_refused : (arrivals : List Arrival) (held : Held) (r : Reported) (reason : OfferError) → StandsFor arrivals held → refusal_at held r ≡ Some reason
    → StandsFor (arrivals ++ Offer r ∷ []) held
stands_refused arrivals held r reason s e = record {
  taken = s.taken ∙ sym (refused_leaves held.terms arrivals r reason (same_refusal arrivals held r s ∙ e));
  closed = s.closed ∙ sym (closing_offer arrivals r);
}

pub stands_taken : (arrivals : List Arrival) (held : Held) (r : Reported) → StandsFor arrivals held → refusal_at held r ≡ None
    → StandsFor (arrivals ++ Offer r ∷ []) (record { terms = held.terms; closed = held.closed; taken = held.taken ++ entry r ∷ [] })
stands_taken arrivals held r s e = record {
  taken = ap (λ (ts : List (ℕ × ℕ)). ts ++ entry r ∷ []) s.taken ∙ sym (taken_more held.terms arrivals r (same_refusal arrivals held r s ∙ e));
  closed = s.closed ∙ sym (closing_offer arrivals r);
}

pub stands_closed : (arrivals : List Arrival) (held : Held) → StandsFor arrivals held
    → StandsFor (arrivals ++ Closing ∷ []) (record { terms = held.terms; closed = true; taken = held.taken })
stands_closed arrivals held s = record {
  taken = s.taken ∙ ap (λ (rs : List Reported). map entry (first_of_each (filter (is_lawful held.terms) rs))) (sym (offered_closing arrivals));
  closed = sym (list_any-append is_closing arrivals (Closing ∷ []) ∙ or_right (has_closing arrivals) true refl);
}

-- ---- a list of arrivals

pub replies_push : (terms : Terms) (before xs : List Arrival) (a : Arrival)
    → replies_to terms before (xs ++ a ∷ []) ≡ replies_to terms before xs ++ reply_to terms (before ++ xs) a ∷ []
replies_push terms before [] a = ap (λ (b : List Arrival). reply_to terms b a ∷ []) (sym (append-nil before))
replies_push terms before (x ∷ xs) a =
    ap (λ (rs : List Reply). reply_to terms before x ∷ rs)
    (replies_push terms (before ++ x ∷ []) xs a
    ∙ ap (λ (b : List Arrival). replies_to terms (before ++ x ∷ []) xs ++ reply_to terms b a ∷ []) (append_assoc before (x ∷ []) xs))

-- the book never refuses an offer because memory ran out
no_memory : (closed job over inside : Bool) (worker : Option ℕ) → refuses closed job over inside worker ≢ Some (Memory out_of_memory)
no_memory true job over inside worker e = absurd (cc)
no_memory false false over inside worker e = absurd (cc)
no_memory false true true inside worker e = absurd (cc)
no_memory false true false false worker e = absurd (cc)
no_memory false true false true None e = absurd (cc)
no_memory false true false true (Some w) e = absurd (cc)

-- if a haul runs out of memory at an offer, the book would have taken the offer
pub is_taken : (terms : Terms) (before : List Arrival) (r : Reported) (given : Option OfferError) → IsReply given (refusal_of terms before r)
    → given ≡ Some (Memory out_of_memory) → refusal_of terms before r ≡ None
is_taken terms before r given (inl same) e = absurd (no_memory (has_closing before) (same_job terms.job r.job) (nat_lt terms.workers r.worker)
    (is_in terms.ranges r.number) (first_worker r.number (eligible terms before)) (sym same ∙ e))
is_taken terms before r given (inr none) e = none.1

-- if memory doesn't run out, the reply is the book's
pub answered : (given wanted : Option OfferError) → IsReply given wanted → given ≢ Some (Memory out_of_memory) → given ≡ wanted
answered given wanted (inl same) not_memory = same
answered given wanted (inr none) not_memory = absurd (not_memory none.0)

pub on_err_from : {T E P : Type 0} (r : Result T E) → P → OnErr r P
on_err_from (Ok x) p = tt
on_err_from (Err e) p = p

-- if the result of a push is `Ok`, the vector's items are `more`
pub pushed : {X T E : Type 0} (r : Result T E) (more same : List X) → IsOk r → (if is_ok r then more else same) ≡ more
pushed r more same ok = ap (λ (b : Bool). if b then more else same) ok

pub reason_is : {r s : OfferError} → Some r ≡ Some s → r ≡ s
reason_is e = cc

-- if memory ran out at the next arrival, which the book takes, the haul has received the arrivals before it
pub stopped_at : {T E : Type 0} (r : Result T E) (before arrivals prefix : List Arrival) (next : Arrival) (more : List Arrival) (held new : Held)
    → arrivals ≡ prefix ++ next ∷ more → new ≡ held → IsTakenNext held.terms (before ++ prefix) (next ∷ []) → StandsFor (before ++ prefix) held
    → OnErr r (StandsForPrefix before arrivals new)
stopped_at r before arrivals prefix next more held new cut same taken s = on_err_from r (record {
  prefix = prefix;
  remainder = next ∷ more;
  cut = cut;
  stands = subst (StandsFor (before ++ prefix)) (sym same) s;
  stopped = inr (subst (λ (h : Held). IsTakenNext h.terms (before ++ prefix) (next ∷ more)) (sym same) (is_next held.terms (before ++ prefix) next more taken));
})
  where
    is_next : (terms : Terms) (before : List Arrival) (next : Arrival) (more : List Arrival) → IsTakenNext terms before (next ∷ [])
        → IsTakenNext terms before (next ∷ more)
    is_next terms before (Offer r) more taken = taken
    is_next terms before Closing more taken = taken

-- a vector's iterator had the items that it has yielded, followed by the items that it still has
pub taken_prefix : {X A : Type 0} (s : IntoIter X A) (xs : List X) (t : IntoIter X A) → Yields into_iter_steps s xs t
    → into_iter_items s ≡ xs ++ into_iter_items t
taken_prefix s [] t y = ap into_iter_items y
taken_prefix s (x ∷ xs) t y = y.1.0 ∙ ap (λ ys. x ∷ ys) (taken_prefix y.0 xs t y.2)
