-- The reports taken from a worker are a subsequence of those that the worker offered.
use Rattle.std.proofs.Common.{◌≡◌, ◌&&◌, ℕ, Bool, true, false, nat_eq, nat_le, List, [], ◌∷◌, All}
use Rattle.std.proofs.Common.{not, subst, arith, filter, map}
use Rattle.std.proofs.lemmas.Bool.{false≢true}
use Rattle.std.proofs.lemmas.List.Elements.{All-cons, All-filter, All-head, All-map, All-tail, All-weaker, filter_passes}
use Rattle.haul_core.specs.declared.book.arrival.Arrival.{Arrival}
use Rattle.haul_core.specs.Subsequences.{IsSubsequence}
use Rattle.laws.specs.Books.{IsTakenOf}
use Rattle.haul_core.specs.Books.{Terms, eligible, entry, first_of_each, has_number, is_lawful, offered}
use Rattle.survey_core.specs.Jobs.{same_job}
use Rattle.haul_core.specs.Keeping.{numbers_in}
use Rattle.ranges.specs.Ranges.{is_in}
use Rattle.haul_core.specs.Reports.{Reported}
use Rattle.commands.proofs.TakenLemmas.{count_part, filter_part, first_part, map_part, numbers, numbers_entries, once, others, part_filter, part_trans}

-- ---- what is taken is in the set

all_first : (P : Reported → Type 0) (rs : List Reported) → All P rs → All P (first_of_each rs)
all_first P [] all = all
all_first P (r ∷ rs) all =
    All-cons P r (others r.number (first_of_each rs)) (All-head P r rs all)
    (All-filter (λ s. not (has_number r.number s)) P (first_of_each rs) (all_first P rs (All-tail P r rs all)))

third : (a b c : Bool) → (a && (b && c)) ≡ true → c ≡ true
third true true c h = h
third true false c h = absurd (false≢true h)
third false b c h = absurd (false≢true h)

pub taken_of_worker : (terms : Terms) (arrivals : List Arrival) (worker : ℕ) → IsTakenOf terms arrivals worker
taken_of_worker terms arrivals worker =
    let first : List Reported = first_of_each (eligible terms arrivals) in
    let mine : ℕ × ℕ → Bool = λ t. nat_eq t.0 worker in
    let in_order : IsSubsequence first (offered arrivals) =
    part_trans first (eligible terms arrivals) (offered arrivals) (first_part (eligible terms arrivals)) (part_filter (is_lawful terms) (offered arrivals)) in
    let lawful : All (λ (r : Reported). is_in terms.ranges r.number ≡ true) first =
    all_first (λ r. is_in terms.ranges r.number ≡ true) (eligible terms arrivals)
    (All-weaker (λ r. is_lawful terms r ≡ true) (λ r. is_in terms.ranges r.number ≡ true)
    (λ r h. third (same_job terms.job r.job) (nat_le r.worker terms.workers) (is_in terms.ranges r.number) h) (eligible terms arrivals)
    (filter_passes (is_lawful terms) (offered arrivals))) in
    record {
      part = filter_part mine (map entry first) (map entry (offered arrivals)) (map_part entry first (offered arrivals) in_order);
      once = λ n. omega (
        arith,
        once n (eligible terms arrivals),
        count_part n (numbers_in (filter mine (map entry first))) (numbers first)
            (subst (λ (ns : List ℕ). IsSubsequence (numbers_in (filter mine (map entry first))) ns) (numbers_entries first)
            (map_part (λ (t : ℕ × ℕ). t.1) (filter mine (map entry first)) (map entry first) (part_filter mine (map entry first)))),
      );
      within = All-filter mine (λ t. is_in terms.ranges t.1 ≡ true) (map entry first)
          (All-map (λ t. is_in terms.ranges t.1 ≡ true) entry first lawful);
    }
