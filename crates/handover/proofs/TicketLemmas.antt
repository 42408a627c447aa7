-- Each atomic step keeps the rule of the tickets.
use Rattle.std.proofs.Common.{◌≡◌, ◌≢◌, ◌<◌, ◌≤◌, ◌+◌, ◌%◌, ◌^◌, ℕ, zero, suc, min, Bool, cond, nat_eq, List, [], ◌∷◌, ◌++◌, All}
use Rattle.std.proofs.Common.{true, false, inl, inr, ◌||◌, set, count_by, sym, refl, ap, ◌∙◌, subst, arith, length, mod-eq_of_lt, ⊎_elim}
use Rattle.std.specs.Prelude.{slice_index}
use Rattle.std.specs.List.{AllByRecursion, IsDistinct, list_any, sum_by}
use Rattle.std.proofs.Math.Nat.{min-eq_left, min-eq_right}
use Rattle.std.proofs.lemmas.Bool.{cases_Bool, eq-eqb, eqb-true, false≢true, lt-ltb, le-ltb, ne_eqb}
use Rattle.std.proofs.lemmas.List.Elements.{All-cons, All-head, All-nil, All-tail}
use Rattle.std.proofs.lemmas.List.Sums.{sum_by-append, sum_by-cons, sum_by_push}
use Rattle.std.proofs.lemmas.Map.Keys.{IsDistinct-cons}
use Rattle.std.proofs.lemmas.Map.Steps.{length-le_from_distinct_below}
use Rattle.atomic_table.specs.Table.{Act, Allows, Final, Joins, Me, Seen, Splits, State, Valid, carried_after, keeps, opening, step, stepped}
use Rattle.atomic_table.proofs.Lists.{at_set}
use Rattle.atomic_table.specs.Seated.{TableId}
use mathlib.Core.Logic.{dite}
use mathlib.Core.Option.{none, some, some-injective, some-ne-none}
use native.Mathlib.Decide.{dec_le, ℕ_discrete}
use lib.ListN.{get_elem?}
use Rattle.std.proofs.Common.{append_assoc, append-nil, length-append}
use Rattle.std.specs.Prelude.{if◌then◌else◌}
use Rattle.std.proofs.lemmas.Grind.{flat_map-append}
use Rattle.handover.specs.Tickets.{Drawn, how_many_heard, drawn_by_all, once_below}
use Rattle.handover.specs.TicketRule.{Draws, KnowsAtEnd, Fits, Gathers, IsLawful, Joining, both_holdings, first_holding, holding_marked, holding_with, kept_part, new_part}
use Rattle.handover.specs.TicketRule.{series_of, spent_holding}
use Rattle.handover.specs.declared.tickets.Holding.{Holding}
use Rattle.handover.specs.declared.tickets.Issue.{Issue}
use Rattle.handover.proofs.SumLemmas.{each_push, each_set, sum_alone, sum_at, sum_below, sum_set}

-- ---- numbers below a bound

abbrev times : ℕ → List ℕ → ℕ
times n xs = count_by (nat_eq n) xs

abbrev one_if : ℕ → ℕ → ℕ
one_if n m = cond {A = ℕ} (nat_eq n m) 1 0

once_yes : (m n : ℕ) → n < m → once_below m n ≡ 1
once_yes m n h = ap (λ (b : Bool). cond {A = ℕ} b 1 0) (lt-ltb n m h)

once_no : (m n : ℕ) → m ≤ n → once_below m n ≡ 0
once_no m n h = ap (λ (b : Bool). cond {A = ℕ} b 1 0) (le-ltb n m h)

is_one : (n m : ℕ) → n ≡ m → one_if n m ≡ 1
is_one n m h = ap (λ (b : Bool). cond {A = ℕ} b 1 0) (eq-eqb n m h)

is_none : (n m : ℕ) → n ≢ m → one_if n m ≡ 0
is_none n m h = ap (λ (b : Bool). cond {A = ℕ} b 1 0) (ne_eqb n m h)

-- `once_below` for a bound that is one higher
once_next : (m n : ℕ) → once_below (m + 1) n ≡ once_below m n + one_if n m
once_next m n = elim (dec_le (suc n) m) [
  | yes h ↦ let a = once_yes (m + 1) n (omega arith) in let b = once_yes m n h in let c = is_none n m (λ e. omega arith) in omega arith
  | no h ↦ dite (ℕ_discrete n m)
      (λ e. let a = once_yes (m + 1) n (omega arith) in let b = once_no m n (omega arith) in let c = is_one n m e in omega arith)
      (λ ne. let a = once_no (m + 1) n (omega arith) in let b = once_no m n (omega arith) in let c = is_none n m ne in omega arith)
]

times_push : (n : ℕ) (xs : List ℕ) (x : ℕ) → times n (xs ++ x ∷ []) ≡ times n xs + one_if n x
times_push n xs x = sum_by_push (λ y. one_if n y) xs x

-- if no number occurs more often than `once_below` allows, all are below the bound
pub all_below : (m : ℕ) (xs : List ℕ) → ((n : ℕ) → times n xs ≤ once_below m n) → All (λ n. n < m) xs
all_below m [] few = All-nil (λ n. n < m)
all_below m (x ∷ xs) few =
    All-cons (λ n. n < m) x xs
    (elim (dec_le (suc x) m) [
      | yes h ↦ h
      | no h ↦ let a = few x in let b = once_no m x (omega arith) in let c = is_one x x refl in absurd (omega (arith, sum_by-cons (λ y. one_if x y) x xs))
    ])
    (all_below m xs (λ n. let a = few n in omega (arith, sum_by-cons (λ y. one_if n y) x xs)))

none_distinct : IsDistinct nat_eq []
unfolding IsDistinct
none_distinct = tt

-- `IsDistinct` holds for a list if each number is counted in it at most once
distinct_of : (xs : List ℕ) → ((n : ℕ) → times n xs ≤ 1) → IsDistinct nat_eq xs
distinct_of [] once = none_distinct
distinct_of (x ∷ xs) once =
    let here = once x in
    let one = is_one x x refl in
    IsDistinct-cons nat_eq x xs (apart x xs (omega (arith, here, one, sum_by-cons (λ y. one_if x y) x xs)))
    (distinct_of xs (λ n. let all = once n in omega (arith, all, sum_by-cons (λ y. one_if n y) x xs)))
  where
    apart : (x : ℕ) (xs : List ℕ) → times x xs ≡ 0 → AllByRecursion (λ y. nat_eq x y ≡ false) xs
    apart x [] zeros = tt
    apart x (y ∷ ys) zeros =
        let sum = sum_by-cons (λ z. one_if x z) y ys in (
          dite (ℕ_discrete x y) (λ same. absurd (let one = is_one x y same in omega (arith, zeros, one, sum))) (λ ne. ne_eqb x y ne),
          apart x ys (omega (arith, zeros, sum)),
        )

-- if no number occurs more often than `once_below` allows, the list is at most as long as the bound
few_below : (m : ℕ) (xs : List ℕ) → ((n : ℕ) → times n xs ≤ once_below m n) → length xs ≤ m
few_below m xs few =
    length-le_from_distinct_below xs m (distinct_of xs (λ n. let all = few n in let one = once_most n in omega (arith, all, one)))
    (λ q any. All-at q xs (all_below m xs few) any)
  where
    once_most : (n : ℕ) → once_below m n ≤ 1
    once_most n = elim (dec_le (suc n) m) [
      | yes h ↦ let a = once_yes m n h in omega (arith, a)
      | no h ↦ let a = once_no m n (omega arith) in omega (arith, a)
    ]

    All-at : (q : ℕ) (ys : List ℕ) → All (λ n. n < m) ys → list_any (nat_eq q) ys ≡ true → q < m
    All-at q [] all any = absurd (false≢true any)
    All-at q (y ∷ ys) all any = elim (cases_Bool (nat_eq q y)) [
      | inl same ↦ subst (λ (n : ℕ). n < m) (sym (eqb-true q y same)) (All-head (λ n. n < m) y ys all)
      | inr other ↦ All-at q ys (All-tail (λ n. n < m) y ys all) (sym (ap (λ (b : Bool). b || list_any (nat_eq q) ys) other) ∙ any)
    ]

-- ---- the steps

later : (issue : Issue) (counter next : ℕ) (v : Holding) → counter ≤ next → Fits issue counter v → Fits issue next v
later issue counter next v le f = record { marks = f.marks; drained = λ h. let d = f.drained h in omega arith; spent = f.spent }

-- the counter never wraps
no_wrap : (issue : Issue) (s : State (Unit {0}) Holding) (h : IsLawful issue s) → (h.counter + 1) % 2 ^ 64 ≡ h.counter + 1
no_wrap issue s h =
    let few = h.few in
    let few_passes = h.few_passes in
    let shares = h.shares in
    let past = h.past in
    let marks = sum_below (λ v. v.marks) (λ v. v.shares) s.views (λ j u e. (h.fits j u e).marks) in
    mod-eq_of_lt (omega arith)

pub begins : (issue : Issue) → issue.count ≤ 2 ^ 24 → issue.passes ≤ 16 → IsLawful issue (opening (0 ∷ []) [] (first_holding issue))
begins issue few few_passes = record {
  counter = 0;
  kept = refl;
  few = few;
  few_passes = few_passes;
  once = λ n. sym (ap (λ (m : ℕ). once_below m n) (min-eq_left (omega arith)) ∙ once_no 0 n (omega arith));
  shares = omega arith;
  fits = one;
  past = omega arith;
}
  where
    one : (j : ℕ) (v : Holding) → get_elem? (first_holding issue ∷ []) j ≡ some v → Fits issue 0 v
    one zero v e = subst (Fits issue 0) (some-injective _ _ e) (record { marks = omega arith; drained = λ h. absurd (omega arith); spent = λ _. refl })
    one (suc j) v e = absurd (some-ne-none v (sym e))

-- A thread that reads `n` from the counter can draw: for some new holding and some valid act, the step keeps the law
-- and is a draw that found the counter at `n`.
abbrev Moves : Issue → ℕ → ℕ → Me (Unit {0}) Holding → State (Unit {0}) Holding → ℕ → Type 0
Moves issue slots id me s n =
    (w : Holding) × (a : Act (Unit {0})) × Valid s.homes me.1 a × IsLawful issue (stepped s 0 ((n + 1) % 2 ^ 64) id me.1 w a)
    × Draws (step slots 0 1 0 none) me n (w, carried_after me.1 a)

next_counter : (issue : Issue) (s : State (Unit {0}) Holding) (h : IsLawful issue s) → set s.words 0 ((h.counter + 1) % 2 ^ 64) ≡ (h.counter + 1) ∷ []
next_counter issue s h = ap (λ (l : List ℕ). set l 0 ((h.counter + 1) % 2 ^ 64)) h.kept ∙ ap (λ (n : ℕ). n ∷ []) (no_wrap issue s h)

has_number : (issue : Issue) (slots id : ℕ) (me : Me (Unit {0}) Holding) (s : State (Unit {0}) Holding) (h : IsLawful issue s)
    → me.0.issue.count ≡ issue.count → get_elem? s.views id ≡ some me.0 → me.0.marks < me.0.shares → h.counter < issue.count → Moves issue slots id me s h.counter
has_number issue slots id me s h same at room below =
    let w : Holding = holding_with h.counter me.0 in
    let mine = h.fits id me.0 at in
    let least : min h.counter issue.count ≡ h.counter = min-eq_left (omega arith) in
    let next : min (h.counter + 1) issue.count ≡ h.counter + 1 = min-eq_left (omega arith) in (
      w,
      keeps,
      tt,
      record {
        counter = h.counter + 1;
        kept = next_counter issue s h;
        few = h.few;
        few_passes = h.few_passes;
        once = λ n.
            let a = sum_set (λ (v : Holding). times n v.numbers) s.views id me.0 w at in
            let b = times_push n me.0.numbers h.counter in
            let c : sum_by (λ (v : Holding). times n v.numbers) s.views ≡ once_below h.counter n = h.once n ∙ ap (λ (m : ℕ). once_below m n) least in
            let d = once_next h.counter n in
            let e : sum_by (λ (v : Holding). times n v.numbers) (set s.views id w) ≡ once_below (h.counter + 1) n = omega arith in
            e ∙ sym (ap (λ (m : ℕ). once_below m n) next);
        shares = let a = sum_set (λ (v : Holding). v.shares) s.views id me.0 w at in let b = h.shares in omega arith;
        fits = each_set (Fits issue (h.counter + 1)) s.views id w (λ j u _ e. later issue h.counter (h.counter + 1) u (omega arith) (h.fits j u e))
            (record { marks = mine.marks; drained = λ m. let d = mine.drained m in omega arith; spent = λ z. absurd (omega arith) });
        past = let a = sum_set (λ (v : Holding). v.marks) s.views id me.0 w at in let b = h.past in omega arith;
      },
      record {
        number = λ _. refl;
        greater = λ _. all_below h.counter me.0.numbers (λ n.
            let a = sum_at (λ (v : Holding). times n v.numbers) s.views id me.0 at in
            let c : sum_by (λ (v : Holding). times n v.numbers) s.views ≡ once_below h.counter n = h.once n ∙ ap (λ (m : ℕ). once_below m n) least in
            omega arith);
        none = λ past. absurd (omega arith);
        slots = refl;
      },
    )

has_none : (issue : Issue) (slots id : ℕ) (me : Me (Unit {0}) Holding) (s : State (Unit {0}) Holding) (h : IsLawful issue s)
    → me.0.issue.count ≡ issue.count → get_elem? s.views id ≡ some me.0 → me.0.marks < me.0.shares → issue.count ≤ h.counter → Moves issue slots id me s h.counter
has_none issue slots id me s h same at room past =
    let w : Holding = holding_marked me.0 in
    let mine = h.fits id me.0 at in
    let least : min h.counter issue.count ≡ issue.count = min-eq_right (omega arith) in
    let next : min (h.counter + 1) issue.count ≡ issue.count = min-eq_right (omega arith) in (
      w,
      keeps,
      tt,
      record {
        counter = h.counter + 1;
        kept = next_counter issue s h;
        few = h.few;
        few_passes = h.few_passes;
        once = λ n.
            let a = sum_set (λ (v : Holding). times n v.numbers) s.views id me.0 w at in
            let c = h.once n in
            let e : sum_by (λ (v : Holding). times n v.numbers) (set s.views id w) ≡ once_below (min h.counter issue.count) n = omega arith in
            e ∙ ap (λ (m : ℕ). once_below m n) (least ∙ sym next);
        shares = let a = sum_set (λ (v : Holding). v.shares) s.views id me.0 w at in let b = h.shares in omega arith;
        fits = each_set (Fits issue (h.counter + 1)) s.views id w (λ j u _ e. later issue h.counter (h.counter + 1) u (omega arith) (h.fits j u e))
            (record { marks = omega arith; drained = λ m. omega arith; spent = λ z. absurd (omega arith) });
        past = let a = sum_set (λ (v : Holding). v.marks) s.views id me.0 w at in let b = h.past in omega arith;
      },
      record { number = λ below. absurd (omega arith); greater = λ below. absurd (omega arith); none = λ _. refl; slots = refl },
    )

pub draws : (issue : Issue) (slots id : ℕ) (me : Me (Unit {0}) Holding) → me.0.issue.count ≡ issue.count → me.0.marks < me.0.shares
    → Allows (IsLawful issue) slots id me 0 (λ n. (n + 1) % 2 ^ 64) (Draws (step slots 0 1 0 none) me)
draws issue slots id me same room s h homes at small =
    let found : slice_index s.words 0 ≡ h.counter = ap (λ (l : List ℕ). slice_index l 0) h.kept in
    subst (Moves issue slots id me s) (sym found)
    (elim (dec_le (suc h.counter) issue.count) [
      | yes below ↦ has_number issue slots id me s h same at room below
      | no past ↦ has_none issue slots id me s h same at room (omega arith)
    ])

pub cuts : (issue : Issue) (id : ℕ) (v : Holding) → 1 < v.shares → v.marks ≡ 0 → Splits (IsLawful issue) id v (kept_part v) (new_part v)
cuts issue id v many unmarked s h at =
    let l : Holding = kept_part v in
    let r : Holding = new_part v in
    let mine = h.fits id v at in
    let vs : List Holding = set s.views id l in
    record {
      counter = h.counter;
      kept = h.kept;
      few = h.few;
      few_passes = h.few_passes;
      once = λ n.
          let a = sum_set (λ (u : Holding). times n u.numbers) s.views id v l at in
          let b = sum_by_push (λ (u : Holding). times n u.numbers) vs r in
          let c = h.once n in
          omega arith;
      shares =
          let a = sum_set (λ (u : Holding). u.shares) s.views id v l at in
          let b = sum_by_push (λ (u : Holding). u.shares) vs r in
          let c = h.shares in
          omega arith;
      fits = each_push (Fits issue h.counter) vs r
          (each_set (Fits issue h.counter) s.views id l (λ j u _ e. h.fits j u e)
          (record { marks = omega arith; drained = mine.drained; spent = λ z. absurd (omega arith) }))
          (record { marks = omega arith; drained = λ m. absurd (omega arith); spent = λ _. refl });
      past =
          let a = sum_set (λ (u : Holding). u.marks) s.views id v l at in
          let b = sum_by_push (λ (u : Holding). u.marks) vs r in
          let c = h.past in
          omega arith;
    }

joined_spent : (v w : Holding) → v.numbers ≡ [] → w.numbers ≡ [] → (both_holdings v w).numbers ≡ []
joined_spent v w a b = ap (λ (l : List ℕ). l ++ v.numbers) b ∙ a

pub joins : (issue : Issue) (id : ℕ) (v : Holding) (other : ℕ) (w : Holding) → Joins (IsLawful issue) id v other w (both_holdings v w) spent_holding
joins issue id v other w s h at apart there =
    let b : Holding = both_holdings v w in
    let vs : List Holding = set s.views id b in
    let mine = h.fits id v at in
    let theirs = h.fits other w (was other id b w s.views apart there) in
    record {
      counter = h.counter;
      kept = h.kept;
      few = h.few;
      few_passes = h.few_passes;
      once = λ n.
          let f : Holding → ℕ = λ u. times n u.numbers in
          let x = sum_set (λ (u : Holding). times n u.numbers) s.views id v b at in
          let y = sum_set (λ (u : Holding). times n u.numbers) vs other w spent_holding there in
          let z = sum_by_append_times n w.numbers v.numbers in
          let c = h.once n in
          omega arith;
      shares =
          let x = sum_set (λ (u : Holding). u.shares) s.views id v b at in
          let y = sum_set (λ (u : Holding). u.shares) vs other w spent_holding there in
          let c = h.shares in
          omega arith;
      fits = each_set (Fits issue h.counter) vs other spent_holding
          (λ j u _ e. each_set (Fits issue h.counter) s.views id b (λ i x _ d. h.fits i x d)
          (record {
            marks = let m = mine.marks in let k = theirs.marks in omega arith;
            drained = λ m. elim (dec_le 1 v.marks) [ yes p ↦ mine.drained p | no p ↦ theirs.drained (omega arith) ];
            spent = λ z. joined_spent v w (mine.spent (omega arith)) (theirs.spent (omega arith));
          }) j u e)
          (record { marks = omega arith; drained = λ m. absurd (omega arith); spent = λ _. refl });
      past =
          let x = sum_set (λ (u : Holding). u.marks) s.views id v b at in
          let y = sum_set (λ (u : Holding). u.marks) vs other w spent_holding there in
          let c = h.past in
          omega arith;
    }
  where
    sum_by_append_times : (n : ℕ) (xs ys : List ℕ) → times n (xs ++ ys) ≡ times n xs + times n ys
    sum_by_append_times n xs ys = sum_by-append (λ y. one_if n y) xs ys

    was : (other id : ℕ) (b w : Holding) (views : List Holding) → ¬ (other ≡ id) → get_elem? (set views id b) other ≡ some w → get_elem? views other ≡ some w
    was other id b w views apart there = ⊎_elim (λ (x : (other ≡ id) × (b ≡ w)). absurd (apart x.0)) (λ (x : (other ≢ id) ×
        (get_elem? views other ≡ some w)). x.1) (at_set views id other b w there)

-- `KnowsAtEnd` holds for a pass in the last state
pub closes : (issue : Issue) (id : ℕ) (v : Holding) (s : State (Unit {0}) Holding) (counter : ℕ) → IsLawful issue s → get_elem? s.views id ≡ some v
    → get_elem? s.words 0 ≡ some counter
    → KnowsAtEnd issue v (min counter issue.count)
closes issue id v s counter h at is =
    let same : h.counter ≡ counter = some-injective h.counter counter (ap (λ (l : List ℕ). get_elem? l 0) (sym h.kept) ∙ is) in
    subst (λ (n : ℕ). KnowsAtEnd issue v (min n issue.count)) same (record {
      once = λ n. let a = sum_at (λ (u : Holding). times n u.numbers) s.views id v at in let b = h.once n in omega arith;
      all = λ all n.
          sym (sum_alone (λ (u : Holding). times n u.numbers) (λ (u : Holding). u.shares) s.views id v at (h.shares ∙ sym all)
          (λ j u e z. ap (λ (l : List ℕ). times n l) ((h.fits j u e).spent z)))
          ∙ h.once n;
      drained = λ m. min-eq_right ((h.fits id v at).drained m);
    })

-- ---- passes joined one after another

pub joining_none : (all : List Drawn) (before : Holding) → Joining all all before before
joining_none all before = record { issue = refl; shares = refl; marks = refl; numbers = refl }

pub joining_more : (all left old : List Drawn) (p : Drawn) (before now w : Holding) → Joining all old before now → old ≡ left ++ p ∷ []
    → w.shares ≡ 1 → w.marks ≡ (if p.heard_none then 1 else 0) → w.numbers ≡ p.numbers → Joining all left before (both_holdings now w)
joining_more all left old p before now w j is shares marks numbers = record {
  issue = j.issue;
  shares = let a = j.shares in let b : length old ≡ length left + 1 = ap length is ∙ length-append left (p ∷ []) in omega arith;
  marks =
      let a = j.marks in
      let b : how_many_heard old ≡ how_many_heard left + cond {A = ℕ} p.heard_none 1 0 =
      ap how_many_heard is ∙ sum_by_push (λ (q : Drawn). cond {A = ℕ} q.heard_none 1 0) left p in
      omega arith;
  numbers =
      sym (append_assoc (drawn_by_all left) w.numbers now.numbers)
      ∙ ap (λ (l : List ℕ). (drawn_by_all left ++ l) ++ now.numbers) numbers
      ∙ ap (λ (l : List ℕ). l ++ now.numbers) (sym (ap drawn_by_all is ∙ flat_map-append (λ (q : Drawn). q.numbers) left (p ∷ [])
      ∙ ap (λ (l : List ℕ). drawn_by_all left ++ l) (append-nil p.numbers)))
      ∙ j.numbers;
}

-- `KnowsAtEnd` holds for the pass with which the table of the counter is closed
pub ended : (issue : Issue) (id : ℕ) (v : Holding) (words : List ℕ) (slots : List (Unit {0})) (counter : ℕ) → Final (Seen (IsLawful issue) id v) words slots
    → get_elem? words 0 ≡ some counter → KnowsAtEnd issue v (min counter issue.count)
ended issue id v words slots counter f is = closes issue id v f.0 counter f.1.0 f.1.1 (ap (λ (l : List ℕ). get_elem? l 0) f.2 ∙ is)

-- `Gathers` holds for all passes that were handed back
pub gathers : (issue : Issue) (name : TableId) (left : List Drawn) (first : Drawn) (before after : Holding) (m : ℕ) → before.shares ≡ 1
    → before.marks ≡ cond {A = ℕ} first.heard_none 1 0 → before.numbers ≡ first.numbers → Joining left [] before after → KnowsAtEnd issue after m
    → Gathers (series_of name issue) (left ++ first ∷ []) m
gathers issue name left first before after m shares marks numbers j ends =
    let all = left ++ first ∷ [] in
    let same : drawn_by_all all ≡ after.numbers =
    flat_map-append (λ (q : Drawn). q.numbers) left (first ∷ []) ∙ ap (λ (l : List ℕ). drawn_by_all left ++ l) (append-nil first.numbers)
    ∙ ap (λ (l : List ℕ). drawn_by_all left ++ l) (sym numbers) ∙ sym j.numbers in
    let many : after.shares ≡ length all = (let a = j.shares in let b : length all ≡ length left + 1 = length-append left (first ∷ []) in omega arith) in
    let heard : after.marks ≡ how_many_heard all =
    (let a = j.marks in let b : how_many_heard all ≡ how_many_heard left + cond {A = ℕ} first.heard_none 1 0 =
    sum_by_push (λ (q : Drawn). cond {A = ℕ} q.heard_none 1 0) left first in omega arith) in
    record {
      once = λ n. subst (λ (l : List ℕ). times n l ≤ once_below m n) (sym same) (ends.once n);
      drawn = subst (λ (l : List ℕ). length l ≤ m) (sym same) (few_below m after.numbers ends.once);
      all = λ h n. ap (λ (l : List ℕ). times n l) same ∙ ends.all (many ∙ h) n;
      drained = λ h. ends.drained (subst (λ (k : ℕ). 0 < k) (sym heard) h);
    }
