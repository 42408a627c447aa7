-- The haul text of a census, written piece by piece.
use Rattle.std.proofs.Common.{◌≡◌, ◌∙◌, ◌+◌, ◌<◌, ◌≤◌, ◌==◌, arith, ℕ, true, false, List, [], ◌∷◌, ◌++◌, ap, sym, append_assoc, codes, drop, flat_map}
use Rattle.std.proofs.Common.{Err, IsErr, Ok, Option, Result, get_or, length, map}
use Rattle.std.proofs.lemmas.Bool.{eqb-true, false≢true}
use Rattle.std.proofs.lemmas.Grind.{flat_map-append}
use Rattle.std.proofs.lemmas.List.{append-nil, drop_all, drop_more}
use Rattle.std.proofs.lemmas.List.Folds.{flat_map-map}
use Rattle.plane_core.proofs.lemmas.OutputLemmas.{Writes_same, Writes_stops, Writes_then}
use Rattle.plane_core.specs.Outputs.{Output, Writes}
use Rattle.plane_core.specs.declared.output.WriteError.{WriteError}
use Rattle.plane_core.specs.plane.Rules.{rule_text}
use Rattle.survey_core.specs.declared.job.Job.{Job}
use Rattle.haul_core.specs.declared.book.census.Census.{Census}
use Rattle.ranges.specs.declared.range.Range.{Range}
use Rattle.haul_core.specs.declared.book.census_rows.Row.{Row}
use Rattle.haul_core.specs.HaulTexts.{ended, haul_lines, haul_text, head_lines, line_of, line_of_numbers, profile_line, range_line, range_lines, sample_line}
use Rattle.haul_core.specs.HaulTexts.{sample_lines, spaced, sum_lines, text_of, total_line, total_lines}

-- the text of item `i`, which is `x`, can be added to the prefix, and the items from place `i + 1` on remain
pub text_more : {A : Type 0} (text : A → List ℕ) (xs : List A) (i : ℕ) (x : A) (whole prefix : List ℕ) → i < length xs → x ≡ get_or xs i x
    → whole ≡ prefix ++ flat_map text (drop i xs) → whole ≡ (prefix ++ text x) ++ flat_map text (drop (i + 1) xs)
text_more text xs i x whole prefix more here is =
    let next = drop_more xs i x more ∙ ap (λ y. y ∷ drop (i + 1) xs) (sym here) in
    is ∙ ap (λ remainder. prefix ++ flat_map text remainder) next ∙ sym (append_assoc prefix (text x) (flat_map text (drop (i + 1) xs)))

-- `text_more` with the item given by its place
pub text_more_at : {A : Type 0} (text : A → List ℕ) (xs : List A) (i : ℕ) (d : A) (whole prefix : List ℕ) → i < length xs
    → whole ≡ prefix ++ flat_map text (drop i xs) → whole ≡ (prefix ++ text (get_or xs i d)) ++ flat_map text (drop (i + 1) xs)
text_more_at text xs i d whole prefix more is =
    is ∙ ap (λ remainder. prefix ++ flat_map text remainder) (drop_more xs i d more) ∙ sym (append_assoc prefix (text (get_or xs i d)) (flat_map text (drop (i + 1) xs)))

-- if no item is left, the prefix is the whole text
pub text_done : {A : Type 0} (text : A → List ℕ) (xs : List A) (i : ℕ) (whole prefix : List ℕ) → length xs ≤ i
    → whole ≡ prefix ++ flat_map text (drop i xs) → prefix ≡ whole
text_done text xs i whole prefix past is = sym (is ∙ ap (λ remainder. prefix ++ flat_map text remainder) (drop_all i xs past) ∙ append-nil prefix)

-- ---- a loop that writes a text for each item

-- `whole` was written, except for the texts of the items from this place on
abbrev pub HasWritten : {A V : Type 0} → (V → Option (List ℕ)) → Output V → Output V → (A → List ℕ) → List A → ℕ → List ℕ → Type 0
HasWritten contents old here text xs i whole =
    (prefix : List ℕ) × (whole ≡ prefix ++ flat_map text (drop i xs)) × Writes {E = WriteError} contents old here (Ok tt) prefix

module _ {A V : Type 0} {contents : V → Option (List ℕ)} {old here : Output V} (text : A → List ℕ) (xs : List A) (whole : List ℕ) where
  -- `HasWritten` holds for place `i + 1` if it held for place `i` and item `i` was then written
  pub item_more : {new : Output V} (i : ℕ) (x : A) → i < length xs → x ≡ get_or xs i x → HasWritten contents old here text xs i whole
      → Writes {E = WriteError} contents here new (Ok tt) (text x) → HasWritten contents old new text xs (i + 1) whole
  item_more i x more is (prefix, left, wrote) wrote_one = (prefix ++ text x, text_more text xs i x whole prefix more is left, Writes_then wrote wrote_one)

  -- if writing an item fails, writing `whole` fails
  pub item_stops : {F : Type 0} {new : Output V} {e : WriteError} {r : Result (Unit {0}) F} (i : ℕ) (x : A) → i < length xs → x ≡ get_or xs i x
      → HasWritten contents old here text xs i whole → IsErr r → Writes contents here new (Err e) (text x) → Writes contents old new r whole
  item_stops i x more is (prefix, left, wrote) err stopped =
      Writes_same (sym (text_more text xs i x whole prefix more is left)) (Writes_stops (flat_map text (drop (i + 1) xs)) err (Writes_then wrote stopped))

  -- if no item is left, `whole` was written
  pub items_done : (i : ℕ) → length xs ≤ i → HasWritten contents old here text xs i whole → Writes {E = WriteError} contents old here (Ok tt) whole
  items_done i past (prefix, left, wrote) = Writes_same (text_done text xs i whole prefix past left) wrote

-- a line of a name and numbers, with the line feed that ends it
pub line_spelled : {A : Type 0} (text : A → List ℕ) (name : List ℕ) (numbers : List A)
    → (name ++ flat_map (λ n. spaced (text n)) numbers) ++ codes "\n" ≡ ended (line_of name (map text numbers))
unfolding line_of
line_spelled text name numbers = ap (λ remainder. (name ++ remainder) ++ codes "\n") (sym (flat_map-map spaced text numbers))

-- ---- the head

-- the text of the head after the rule
abbrev pub after_rule : Job → List ℕ
after_rule job = codes "\n@SYMMETRY C1\n" ++ ended (profile_line job.profile)

abbrev pub after_seed : Job → List ℕ
after_seed job = codes "\n@RULE " ++ (rule_text job.rule ++ after_rule job)

pub head_spelled : (job : Job) → codes "@VERSION 2\n@ROOT seed=" ++ (job.seed ++ after_seed job) ≡ text_of (head_lines job)
unfolding text_of head_lines
head_spelled job =
    let remainder : List ℕ = codes "@SYMMETRY C1\n" ++ (ended (profile_line job.profile) ++ []) in
    ap (λ (last : List ℕ). codes "@VERSION 2\n@ROOT seed=" ++ (job.seed ++ (codes "\n@RULE " ++ (rule_text job.rule ++ (codes "\n@SYMMETRY C1\n" ++ last)))))
    (sym (append-nil (ended (profile_line job.profile))))
    ∙ ap (λ (more : List ℕ). codes "@VERSION 2\n@ROOT seed=" ++ (job.seed ++ (codes "\n@RULE " ++ more)))
    (sym (append_assoc (rule_text job.rule) (codes "\n") remainder))
    ∙ ap (λ (more : List ℕ). codes "@VERSION 2\n@ROOT seed=" ++ more)
    (sym (append_assoc job.seed (codes "\n") (codes "@RULE " ++ ((rule_text job.rule ++ codes "\n") ++ remainder))))

-- ---- the ranges

pub none_spelled : (ranges : List Range) → (length ranges == 0) ≡ true → ended (range_line (record { first = 0; count = 0 })) ≡ text_of (range_lines ranges)
unfolding text_of
none_spelled [] h = sym (append-nil (ended (range_line (record { first = 0; count = 0 }))))
none_spelled (range ∷ more) h = let none : length (range ∷ more) ≡ 0 = eqb-true _ _ h in absurd (omega arith)

pub some_spelled : (ranges : List Range) → (length ranges == 0) ≡ false
    → flat_map (λ range. ended (range_line range)) ranges ≡ text_of (range_lines ranges)
unfolding text_of
some_spelled [] h = absurd (false≢true (sym h))
some_spelled (range ∷ more) h = sym (flat_map-map ended range_line (range ∷ more))

-- ---- the sums

abbrev pub sum_line : List ℕ → ℕ → List ℕ
sum_line name n = ended (line_of_numbers name (n ∷ []))

abbrev pub after_for_good : Census → List ℕ
after_for_good census = sum_line (codes "@NUM_OBJECTS") census.objects

abbrev pub after_unsettled : Census → List ℕ
after_unsettled census = sum_line (codes "@NUM_FOR_GOOD") census.for_good ++ after_for_good census

abbrev pub after_soups : Census → List ℕ
after_soups census = sum_line (codes "@NUM_UNSETTLED") census.unsettled ++ after_unsettled census

pub sums_spelled : (census : Census) → sum_line (codes "@NUM_SOUPS") census.soups ++ after_soups census ≡ text_of (sum_lines census)
unfolding text_of sum_lines
sums_spelled census =
    ap (λ (remainder : List ℕ). sum_line (codes "@NUM_SOUPS") census.soups ++ (sum_line (codes "@NUM_UNSETTLED") census.unsettled
    ++ (sum_line (codes "@NUM_FOR_GOOD") census.for_good ++ remainder))) (sym (append-nil (sum_line (codes "@NUM_OBJECTS") census.objects)))

-- ---- the tables

pub totals_spelled : (rows : List Row) → codes "\n@CENSUS TABLE\n" ++ flat_map (λ row. ended (total_line row)) rows ≡ text_of (total_lines rows)
unfolding text_of total_lines
totals_spelled rows = ap (λ (remainder : List ℕ). codes "\n@CENSUS TABLE\n" ++ remainder) (sym (flat_map-map ended total_line rows))

pub samples_spelled : (rows : List Row) → codes "\n@SAMPLE_SOUPIDS\n" ++ flat_map (λ row. ended (sample_line row)) rows ≡ text_of (sample_lines rows)
unfolding text_of sample_lines
samples_spelled rows = ap (λ (remainder : List ℕ). codes "\n@SAMPLE_SOUPIDS\n" ++ remainder) (sym (flat_map-map ended sample_line rows))

-- ---- the whole text

text_append : (lines more : List (List ℕ)) → text_of (lines ++ more) ≡ text_of lines ++ text_of more
unfolding text_of
text_append lines more = flat_map-append ended lines more

abbrev pub after_sums : Census → List ℕ
after_sums census = text_of (total_lines census.rows) ++ text_of (sample_lines census.rows)

abbrev pub after_ranges : Census → List ℕ
after_ranges census = text_of (sum_lines census) ++ after_sums census

abbrev pub after_head : Census → List ℕ
after_head census = text_of (range_lines census.ranges) ++ after_ranges census

pub haul_spelled : (census : Census) → text_of (head_lines census.job) ++ after_head census ≡ haul_text census
unfolding haul_lines
haul_spelled census =
    let tables : List (List ℕ) = total_lines census.rows ++ sample_lines census.rows in
    let below : List (List ℕ) = sum_lines census ++ tables in
    sym (text_append (head_lines census.job) (range_lines census.ranges ++ below)
    ∙ ap (λ (remainder : List ℕ). text_of (head_lines census.job) ++ remainder) (text_append (range_lines census.ranges) below
    ∙ ap (λ (remainder : List ℕ). text_of (range_lines census.ranges) ++ remainder) (text_append (sum_lines census) tables
    ∙ ap (λ (remainder : List ℕ). text_of (sum_lines census) ++ remainder) (text_append (total_lines census.rows) (sample_lines census.rows)))))
