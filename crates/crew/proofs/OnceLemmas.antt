-- No soup is reported twice: a worker reports on a soup only if it drew the soup's place in the list of missing
-- numbers, and no place is drawn twice.
use Rattle.std.proofs.Common.{◌≡◌, ◌≢◌, ◌<◌, ◌≤◌, ◌+◌, ◌++◌, ◌∙◌, ℕ, suc, All, Bool, cond, true, false, List, [], ◌∷◌, ap, arith, drop}
use Rattle.std.proofs.Common.{get_or, length, map, nat_eq, nat_lt, refl, subst, sym, ⊎_elim}
use Rattle.std.specs.Prelude.{count_by, slice_index, sum_by}
use Rattle.std.specs.List.{range_with_len}
use Rattle.std.proofs.lemmas.Bool.{eq-eqb, ne_eqb}
use Rattle.std.proofs.lemmas.Grind.{flat_map-append}
use Rattle.std.proofs.lemmas.List.{map-append}
use Rattle.std.proofs.lemmas.List.Elements.{All-head, All-tail}
use Rattle.std.proofs.lemmas.List.Sums.{sum_by-cons}
use mathlib.Core.Logic.{dite}
use native.Mathlib.Decide.{dec_le, ℕ_discrete}
use Rattle.haul_core.specs.Reports.{Reported}
use Rattle.handover.specs.Belts.{IsWhole, notes_of}
use Rattle.handover.specs.Tickets.{AreSomeBelow, drawn_by_all}
use Rattle.crew.specs.Crews.{report_in, reports_in}
use Rattle.crew.specs.Takes.{times_reported}
use Rattle.crew.specs.Workers.{AreAllButLast, HasWorked, reported}
use Rattle.crew.specs.declared.note.Note.{Note}
use Rattle.crew.specs.declared.worker.WorkerResult.{WorkerResult}
use Rattle.crew.specs.declared.shared.Shared.{Shared}
use Rattle.crew.proofs.ListLemmas.{Rises, count_append, count_cons}
use Rattle.crew.proofs.SenderSums.{up_to, up_to_more}

-- ---- reports on one soup

pub times_append : (n : ℕ) (xs ys : List Reported) → times_reported n (xs ++ ys) ≡ times_reported n xs + times_reported n ys
times_append n xs ys =
    let number : Reported → ℕ = λ r. r.number in
    ap (count_by (nat_eq n)) (map-append number xs ys) ∙ count_append (nat_eq n) (map number xs) (map number ys)

-- how many reports on soup `n` a note has
abbrev pub on : ℕ → Note → ℕ
on n note = times_reported n (report_in note)

times_in_notes : (n : ℕ) (notes : List Note) → sum_by (on n) notes ≡ times_reported n (reported notes)
times_in_notes n [] = refl
times_in_notes n (x ∷ xs) =
    sum_by-cons (on n) x xs ∙ ap (λ m. on n x + m) (times_in_notes n xs) ∙ sym (times_append n (report_in x) (reported xs))

pub times_received : (n : ℕ) (got : List (ℕ × Note)) → sum_by (λ m. on n m.1) got ≡ times_reported n (reports_in got)
times_received n [] = refl
times_received n (m ∷ ms) =
    sum_by-cons (λ (k : ℕ × Note). on n k.1) m ms ∙ ap (λ k. on n m.1 + k) (times_received n ms) ∙ sym (times_append n (report_in m.1) (reports_in ms))

-- what holds for the number of each report holds for a number that is reported
pub of_reported : (P : ℕ → Type 0) (n : ℕ) (reports : List Reported) → All (λ r. P r.number) reports → 1 ≤ times_reported n reports → P n
of_reported P n [] all some = absurd (let none : times_reported n [] ≡ 0 = refl in omega (arith, some, none))
of_reported P n (r ∷ rs) all some =
    dite (ℕ_discrete n r.number)
    (λ same. subst P (sym same) (All-head (λ (s : Reported). P s.number) r rs all))
    (λ apart.
    let here : cond {A = ℕ} (nat_eq n r.number) 1 0 ≡ 0 = ap (λ (b : Bool). cond {A = ℕ} b 1 0) (ne_eqb n r.number apart) in
    let both = count_cons (nat_eq n) r.number (map (λ (s : Reported). s.number) rs) in
    of_reported P n rs (All-tail (λ (s : Reported). P s.number) r rs all) (omega (arith, some, here, both)))

-- ---- one worker

one_at_most : (b : Bool) → cond {A = ℕ} b 1 0 ≤ 1
one_at_most true = omega arith
one_at_most false = omega arith

-- if `AreSomeBelow` holds for a list of numbers, no number occurs twice in the list
pub once_if_some_below : (m : ℕ) (numbers : List ℕ) → AreSomeBelow m numbers → (n : ℕ) → count_by (nat_eq n) numbers ≤ 1
once_if_some_below m numbers some n =
    let below = some n in
    let one = one_at_most (nat_lt n m) in
    omega (arith, below, one)

-- If the missing numbers ascend, `t` is the only place of its number. So the numbers at `places` include this number at
-- most as often as `places` includes `t`.
module _ (missing : List ℕ) (up : Rises missing) (t : ℕ) (lt : t < length missing) where
  other_number : (p : ℕ) → p < length missing → t ≢ p → slice_index missing t ≢ slice_index missing p
  other_number p below apart same =
      elim (dec_le (suc t) p) [
        | yes less ↦ let rises = up t p 0 (omega (arith, less)) below in omega (arith, rises, same)
        | no not_less ↦ let rises = up p t 0 (omega (arith, not_less, apart)) lt in omega (arith, rises, same)
      ]

  pub at_place_only : (places : List ℕ) → All (λ p. p < length missing) places
      → count_by (nat_eq (slice_index missing t)) (map (slice_index missing) places) ≤ count_by (nat_eq t) places
  at_place_only [] below = omega arith
  at_place_only (p ∷ ps) below =
      let n = slice_index missing t in
      let more = at_place_only ps (All-tail (λ q. q < length missing) p ps below) in
      let left = count_cons (nat_eq n) (slice_index missing p) (map (slice_index missing) ps) in
      let right = count_cons (nat_eq t) p ps in
      dite (ℕ_discrete t p)
      (λ same.
      let one : cond {A = ℕ} (nat_eq t p) 1 0 ≡ 1 = ap (λ (b : Bool). cond {A = ℕ} b 1 0) (eq-eqb t p same) in
      let few = one_at_most (nat_eq n (slice_index missing p)) in
      omega (arith, more, left, right, one, few))
      (λ apart.
      let none : cond {A = ℕ} (nat_eq n (slice_index missing p)) 1 0 ≡ 0 =
      ap (λ (b : Bool). cond {A = ℕ} b 1 0)
      (ne_eqb n (slice_index missing p) (other_number p (All-head (λ q. q < length missing) p ps below) apart)) in
      omega (arith, more, left, right, none))

drawn_more : (t : ℕ) (places drawn : List ℕ) → AreAllButLast places drawn → count_by (nat_eq t) places ≤ count_by (nat_eq t) drawn
drawn_more t places drawn all =
    ⊎_elim (λ (same : drawn ≡ places). let both = ap (count_by (nat_eq t)) same in omega (arith, both))
    (λ (last : (n : ℕ) × (drawn ≡ places ++ n ∷ [])).
    let both = ap (count_by (nat_eq t)) last.1 ∙ count_append (nat_eq t) places (last.0 ∷ []) in omega (arith, both)) all

-- a worker's reports on a soup were received at most as often as the worker drew the soup's place
module _ {may_stop lets : ℕ → ℕ → Type 0} (shared : Shared) (got : List (ℕ × Note)) (up : Rises shared.missing.items) (t : ℕ)
    (lt : t < length shared.missing.items) where
  pub of_worker_once : (s : WorkerResult) → HasWorked may_stop lets shared s.sender.number s.end s.pass s.sender → IsWhole got s.sender
      → sum_by (on (slice_index shared.missing.items t)) (notes_of s.sender.number got) ≤ count_by (nat_eq t) s.pass.numbers
  of_worker_once s worked whole =
      let missing = shared.missing.items in
      let n = slice_index missing t in
      let number : Reported → ℕ = λ r. r.number in
      let prefix = notes_of s.sender.number got in
      let remainder : List Note = drop (length prefix) s.sender.notes in
      let parts : reported s.sender.notes ≡ reported prefix ++ reported remainder =
      ap reported (sym whole) ∙ flat_map-append report_in prefix remainder in
      let first = times_in_notes n prefix in
      let both = ap (times_reported n) parts ∙ times_append n (reported prefix) (reported remainder) in
      let all : times_reported n (reported s.sender.notes) ≡ count_by (nat_eq n) (map (slice_index missing) worked.places) =
      ap (count_by (nat_eq n)) worked.reports.numbers in
      let few = at_place_only missing up t lt worked.places worked.reports.below in
      let drawn = drawn_more t worked.places s.pass.numbers worked.drawn in
      omega (arith, first, both, all, few, drawn)

-- ---- all workers

-- Suppose that for each worker, the sum of `of` over the notes received from the worker is at most the number of times
-- that the worker drew `t`. Then the same holds for all these workers together.
pub of_workers : (of : Note → ℕ) (t : ℕ) (got : List (ℕ × Note)) (results : List WorkerResult) (first : ℕ)
    → map (λ s. s.sender.number) results ≡ range_with_len (first + 1) (length results)
    → All (λ s. sum_by of (notes_of s.sender.number got) ≤ count_by (nat_eq t) s.pass.numbers) results
    → up_to of (first + length results) got ≤ up_to of first got + count_by (nat_eq t) (drawn_by_all (map (λ s. s.pass) results))
of_workers of t got [] first numbers each =
    let same : first + 0 ≡ first = omega arith in
    let as_before = ap (λ (w : ℕ). up_to of w got) same in
    omega (arith, as_before)
of_workers of t got (s ∷ ss) first numbers each =
    let P : WorkerResult → Type 0 = λ u. sum_by of (notes_of u.sender.number got) ≤ count_by (nat_eq t) u.pass.numbers in
    let here : s.sender.number ≡ first + 1 = ap (λ (l : List ℕ). get_or l 0 0) numbers in
    let next : first + 1 ≡ suc first = omega arith in
    let own = All-head P s ss each in
    let moved = ap (λ (w : ℕ). sum_by of (notes_of w got)) (here ∙ next) in
    let one = up_to_more of first got in
    let at_next = ap (λ (w : ℕ). up_to of w got) next in
    let remainder = of_workers of t got ss (first + 1) (ap (drop 1) numbers) (All-tail P s ss each) in
    let long : first + suc (length ss) ≡ first + 1 + length ss = omega arith in
    let whole = ap (λ (w : ℕ). up_to of w got) long in
    let drawn = count_append (nat_eq t) s.pass.numbers (drawn_by_all (map (λ (u : WorkerResult). u.pass) ss)) in
    omega (arith, own, moved, one, at_next, remainder, whole, drawn)
