-- A haul text determines its lines, and each line determines its part of the census.
use Rattle.std.proofs.Common.{◌≡◌, ◌∙◌, ap, sym, refl, ℕ, ◌≤◌, ◌==◌, Bool, true, false, List, [], ◌∷◌, ◌++◌, codes, decimal, get_or, length, map, flat_map, arith}
use Rattle.std.specs.List.{AllByRecursion, list_all}
use Rattle.std.proofs.lemmas.List.{append_cancel_left}
use Rattle.std.proofs.lemmas.List.Elements.{recursion_from_All}
use Rattle.plane_core.specs.plane.Rules.{rule_text}
use Rattle.survey_core.specs.Profiles.{IsProfile, Settling}
use Rattle.survey_core.specs.declared.job.Job.{Job}
use Rattle.ranges.specs.declared.range.Range.{Range}
use Rattle.ranges.specs.Ranges.{AreNormal, size_of}
use Rattle.haul_core.specs.declared.book.census.Census.{Census}
use Rattle.haul_core.specs.declared.book.census_rows.Row.{Row}
use Rattle.haul_core.specs.FieldSteps.{Lacks}
use Rattle.haul_core.specs.HaulTexts.{haul_lines, head_lines, line_of, line_of_numbers, profile_line, range_line, range_lines, sample_line, sample_lines, spaced, sum_lines, total_line, total_lines}
use Rattle.haul_core.proofs.OneClaim.{one_rule}
use Rattle.laws.specs.HaulTexts.{HaulTextsAreFaithful, IsJob, IsWrittenWhole, IsShortCensus, IsShortRow}
use Rattle.laws.proofs.TextLemmas.{Ends, all-append, all_lack, code_visible, decimal_visible, is_printed, line_once, lines_once, printed_lack, rule_visible, text_once, visible_printed}

-- ---- no line has a line feed

line_printed : (name : List ℕ) (ns : List ℕ) → list_all is_printed name ≡ true → list_all is_printed (line_of_numbers name ns) ≡ true
unfolding line_of
line_printed name ns h = all-append is_printed name (flat_map spaced (map decimal ns)) h (go ns)
  where
    go : (ns : List ℕ) → list_all is_printed (flat_map spaced (map decimal ns)) ≡ true
    go [] = refl
    go (n ∷ ns) = all-append is_printed (32 ∷ decimal n) (flat_map spaced (map decimal ns)) (visible_printed (decimal n) (decimal_visible n)) (go ns)

abbrev ArePrinted : List (List ℕ) → Type 0
ArePrinted ls = AllByRecursion (λ line. list_all is_printed line ≡ true) ls

printed-append : (ls ms : List (List ℕ)) → ArePrinted ls → ArePrinted ms → ArePrinted (ls ++ ms)
printed-append [] ms h k = k
printed-append (l ∷ ls) ms h k = (h.0, printed-append ls ms h.1 k)

lines_lack : (ls : List (List ℕ)) → ArePrinted ls → AllByRecursion (Lacks 10) ls
lines_lack [] h = tt
lines_lack (l ∷ ls) h = (printed_lack l h.0, lines_lack ls h.1)

head_printed : (job : Job) → IsJob job → ArePrinted (head_lines job)
unfolding head_lines
head_printed job h = (
  refl,
  (
    all-append is_printed (codes "@ROOT seed=") job.seed refl (visible_printed job.seed h.seed.visible),
    (
      all-append is_printed (codes "@RULE ") (rule_text job.rule) refl (visible_printed (rule_text job.rule) (rule_visible job.rule h.rule)),
      (
        refl,
        (
          line_printed (codes "@PROFILE") (job.profile.period ∷ job.profile.horizon ∷ job.profile.stride ∷ job.profile.limit ∷ []) refl,
          tt,
        ),
      ),
    ),
  ),
)

range_printed : (r : Range) → list_all is_printed (range_line r) ≡ true
range_printed r = line_printed (codes "@RANGE") (r.first ∷ r.count ∷ []) refl

ranges_printed : (ranges : List Range) → ArePrinted (range_lines ranges)
ranges_printed [] = (range_printed (record { first = 0; count = 0 }), tt)
ranges_printed (r ∷ more) = (range_printed r, go more)
  where
    go : (ranges : List Range) → ArePrinted (map range_line ranges)
    go [] = tt
    go (r ∷ more) = (range_printed r, go more)

sums_printed : (census : Census) → ArePrinted (sum_lines census)
unfolding sum_lines
sums_printed census = (
  line_printed (codes "@NUM_SOUPS") (census.soups ∷ []) refl,
  (
    line_printed (codes "@NUM_UNSETTLED") (census.unsettled ∷ []) refl,
    (line_printed (codes "@NUM_FOR_GOOD") (census.for_good ∷ []) refl, (line_printed (codes "@NUM_OBJECTS") (census.objects ∷ []) refl, tt)),
  ),
)

totals_printed : (rows : List Row) → AllByRecursion IsShortRow rows → ArePrinted (map total_line rows)
totals_printed [] h = tt
totals_printed (row ∷ rows) h =
    (line_printed row.code (row.total ∷ []) (visible_printed row.code (code_visible row.code h.0.code.bytes)), totals_printed rows h.1)

samples_printed : (rows : List Row) → AllByRecursion IsShortRow rows → ArePrinted (map sample_line rows)
samples_printed [] h = tt
samples_printed (row ∷ rows) h =
    (line_printed row.code row.samples (visible_printed row.code (code_visible row.code h.0.code.bytes)), samples_printed rows h.1)

all_printed : (census : Census) → IsShortCensus census → ArePrinted (haul_lines census)
unfolding haul_lines total_lines sample_lines
all_printed census h =
    let rows = recursion_from_All IsShortRow census.rows h.rows in
    printed-append (head_lines census.job) _ (head_printed census.job h.job)
    (printed-append (range_lines census.ranges) _ (ranges_printed census.ranges)
    (printed-append (sum_lines census) _ (sums_printed census)
    (printed-append (total_lines census.rows) _ (refl, (refl, totals_printed census.rows rows))
    (refl, (refl, samples_printed census.rows rows)))))

-- ---- each line determines its part of the census

code_lack : (row : Row) → IsShortRow row → Lacks 32 row.code
code_lack row h = all_lack _ 32 refl row.code (code_visible row.code h.code.bytes)

profile_once : (p q : Settling) → IsProfile p → IsProfile q → profile_line p ≡ profile_line q → p ≡ q
profile_once p q h k e =
    let told = line_once (codes "@PROFILE") (codes "@PROFILE") (p.period ∷ p.horizon ∷ p.stride ∷ p.limit ∷ []) (q.period ∷ q.horizon ∷ q.stride ∷ q.limit ∷ [])
    refl refl (short p h) (short q k) e in
    let same : p.period ∷ p.horizon ∷ p.stride ∷ p.limit ∷ [] ≡ q.period ∷ q.horizon ∷ q.stride ∷ q.limit ∷ [] = told.1 in
    λ i. record {
      period = ap (λ (ns : List ℕ). get_or ns 0 0) same i;
      horizon = ap (λ (ns : List ℕ). get_or ns 1 0) same i;
      stride = ap (λ (ns : List ℕ). get_or ns 2 0) same i;
      limit = ap (λ (ns : List ℕ). get_or ns 3 0) same i;
    }
  where
    short : (p : Settling) → IsProfile p → AllByRecursion IsWrittenWhole (p.period ∷ p.horizon ∷ p.stride ∷ p.limit ∷ [])
    short p h =
        let a = h.period in
        let b = h.horizon in
        let c = h.stride in
        let d = h.limit in
        (omega arith, (omega arith, (omega arith, (omega arith, tt))))

abbrev IsShortRange : Range → Type 0
IsShortRange r = IsWrittenWhole r.first × IsWrittenWhole r.count

range_once : (r s : Range) → IsShortRange r → IsShortRange s → range_line r ≡ range_line s → r ≡ s
range_once r s h k e =
    let told = line_once (codes "@RANGE") (codes "@RANGE") (r.first ∷ r.count ∷ []) (s.first ∷ s.count ∷ []) refl refl (h.0, (h.1, tt)) (k.0, (k.1, tt)) e in
    let same : r.first ∷ r.count ∷ [] ≡ s.first ∷ s.count ∷ [] = told.1 in
    λ i. record { first = ap (λ (ns : List ℕ). get_or ns 0 0) same i; count = ap (λ (ns : List ℕ). get_or ns 1 0) same i }

ranges_once : (rs ss : List Range) → AllByRecursion IsShortRange rs → AllByRecursion IsShortRange ss → map range_line rs ≡ map range_line ss → rs ≡ ss
ranges_once [] [] h k e = refl
ranges_once [] (s ∷ ss) h k e = absurd (cc)
ranges_once (r ∷ rs) [] h k e = absurd (cc)
ranges_once (r ∷ rs) (s ∷ ss) h k e =
    let first : r ≡ s = range_once r s h.0 k.0 (ap (λ (ls : List (List ℕ)). get_or ls 0 []) e) in
    let more : rs ≡ ss = ranges_once rs ss h.1 k.1 (cc) in
    λ i. first i ∷ more i

-- an empty list of ranges and a nonempty list in normal form have different lines
no_range : (s : Range) (ss : List Range) → AreNormal (s ∷ ss) → IsShortRange s → range_line (record { first = 0; count = 0 }) ∷ [] ≡ map range_line (s ∷ ss) → ⊥
no_range s ss normal short e =
    let same : record { first = 0; count = 0 } ≡ s =
    range_once (record { first = 0; count = 0 }) s (omega arith, omega arith) short (ap (λ (ls : List (List ℕ)). get_or ls 0 []) e) in
    let none : 0 ≡ s.count = ap (λ (r : Range). r.count) same in
    let some : 1 ≤ s.count = normal.0 in
    omega arith

set_once : (rs ss : List Range) → AreNormal rs → AreNormal ss → AllByRecursion IsShortRange rs → AllByRecursion IsShortRange ss
    → range_lines rs ≡ range_lines ss → rs ≡ ss
set_once [] [] n m h k e = refl
set_once [] (s ∷ ss) n m h k e = absurd (no_range s ss m k.0 e)
set_once (r ∷ rs) [] n m h k e = absurd (no_range r rs n h.0 (sym e))
set_once (r ∷ rs) (s ∷ ss) n m h k e = ranges_once (r ∷ rs) (s ∷ ss) h k e

row_once : (row other : Row) → IsShortRow row → IsShortRow other → total_line row ≡ total_line other → sample_line row ≡ sample_line other → row ≡ other
row_once row other h k e f =
    let total = line_once row.code other.code (row.total ∷ []) (other.total ∷ []) (code_lack row h) (code_lack other k) (h.total, tt) (k.total, tt) e in
    let samples = line_once row.code other.code row.samples other.samples (code_lack row h) (code_lack other k)
    (recursion_from_All IsWrittenWhole row.samples h.samples) (recursion_from_All IsWrittenWhole other.samples k.samples) f in
    λ i. record { code = total.0 i; total = ap (λ (ns : List ℕ). get_or ns 0 0) total.1 i; samples = samples.1 i }

rows_once : (rows others : List Row) → AllByRecursion IsShortRow rows → AllByRecursion IsShortRow others → map total_line rows ≡ map total_line others
    → map sample_line rows ≡ map sample_line others → rows ≡ others
rows_once [] [] h k e f = refl
rows_once [] (o ∷ os) h k e f = absurd (cc)
rows_once (r ∷ rs) [] h k e f = absurd (cc)
rows_once (r ∷ rs) (o ∷ os) h k e f =
    let first : r ≡ o = row_once r o h.0 k.0 (ap (λ (ls : List (List ℕ)). get_or ls 0 []) e) (ap (λ (ls : List (List ℕ)). get_or ls 0 []) f) in
    let more : rs ≡ os = rows_once rs os h.1 k.1 (cc) (cc) in
    λ i. first i ∷ more i

number_once : (name : List ℕ) (n m : ℕ) → Lacks 32 name → IsWrittenWhole n → IsWrittenWhole m → line_of_numbers name (n ∷ []) ≡ line_of_numbers name (m ∷ []) → n ≡ m
number_once name n m h low less e = ap (λ (ns : List ℕ). get_or ns 0 0) (line_once name name (n ∷ []) (m ∷ []) h h (low, tt) (less, tt) e).1

-- ---- the parts of a haul text

-- The second byte of the line is `R` (82), as in `@RANGE`. No line after the lines of the ranges has an `R` there.
abbrev is_range_line : List ℕ → Bool
is_range_line line = get_or line 1 0 == 82

are_range_lines : (ranges : List Range) → list_all is_range_line (range_lines ranges) ≡ true
unfolding line_of
are_range_lines [] = refl
are_range_lines (r ∷ more) = go (r ∷ more)
  where
    go : (ranges : List Range) → list_all is_range_line (map range_line ranges) ≡ true
    go [] = refl
    go (r ∷ more) = go more

-- the line has at least one byte, as each line of a row has
abbrev is_filled : List ℕ → Bool
is_filled [] = false
is_filled (b ∷ bs) = true

totals_filled : (rows : List Row) → AllByRecursion IsShortRow rows → list_all is_filled (map total_line rows) ≡ true
unfolding line_of
totals_filled [] h = refl
totals_filled (row ∷ rows) h = go row.code h.0.code.some (totals_filled rows h.1)
  where
    go : (code : List ℕ) → 1 ≤ length code → list_all is_filled (map total_line rows) ≡ true
        → list_all is_filled ((code ++ flat_map spaced (decimal row.total ∷ [])) ∷ map total_line rows) ≡ true
    go [] some more = absurd (omega arith)
    go (b ∷ code) some more = more

-- the two tables determine the rows
tables_once : (rows others : List Row) → AllByRecursion IsShortRow rows → AllByRecursion IsShortRow others
    → total_lines rows ++ sample_lines rows ≡ total_lines others ++ sample_lines others → rows ≡ others
unfolding total_lines sample_lines
tables_once rows others h k e =
    let tables : map total_line rows ++ [] ∷ codes "@SAMPLE_SOUPIDS" ∷ map sample_line rows
    ≡ map total_line others ++ [] ∷ codes "@SAMPLE_SOUPIDS" ∷ map sample_line others = cc in
    let cut = lines_once is_filled (map total_line rows) (map total_line others) _ _ (totals_filled rows h) (totals_filled others k) refl refl tables in
    let samples : map sample_line rows ≡ map sample_line others = (let t = cut.1 in cc) in
    rows_once rows others h k cut.0 samples

-- the censuses agree in everything after the ranges
record SameSums (one other : Census) : Type 0 where
  soups : one.soups ≡ other.soups
  unsettled : one.unsettled ≡ other.unsettled
  for_good : one.for_good ≡ other.for_good
  objects : one.objects ≡ other.objects
  rows : one.rows ≡ other.rows

sums_once : (one other : Census) → IsShortCensus one → IsShortCensus other
    → sum_lines one ++ (total_lines one.rows ++ sample_lines one.rows) ≡ sum_lines other ++ (total_lines other.rows ++ sample_lines other.rows)
    → SameSums one other
unfolding sum_lines
sums_once one other h k e = record {
  soups = number_once (codes "@NUM_SOUPS") one.soups other.soups refl h.soups k.soups (ap (λ (ls : List (List ℕ)). get_or ls 0 []) e);
  unsettled = number_once (codes "@NUM_UNSETTLED") one.unsettled other.unsettled refl h.unsettled k.unsettled (ap (λ (ls : List (List ℕ)). get_or ls 1 []) e);
  for_good = number_once (codes "@NUM_FOR_GOOD") one.for_good other.for_good refl h.for_good k.for_good (ap (λ (ls : List (List ℕ)). get_or ls 2 []) e);
  objects = number_once (codes "@NUM_OBJECTS") one.objects other.objects refl h.objects k.objects (ap (λ (ls : List (List ℕ)). get_or ls 3 []) e);
  rows = tables_once one.rows other.rows (recursion_from_All IsShortRow one.rows h.rows) (recursion_from_All IsShortRow other.rows k.rows) (cc);
}

-- the first lines determine the job
job_once : (j k : Job) (rs ss : List (List ℕ)) → IsJob j → IsJob k → head_lines j ++ rs ≡ head_lines k ++ ss → (j ≡ k) × (rs ≡ ss)
unfolding head_lines
job_once j k rs ss h g e =
    let seed : j.seed ≡ k.seed = append_cancel_left (codes "@ROOT seed=") j.seed k.seed (ap (λ (ls : List (List ℕ)). get_or ls 1 []) e) in
    let rule : j.rule ≡ k.rule = one_rule j.rule k.rule h.rule g.rule
    (append_cancel_left (codes "@RULE ") (rule_text j.rule) (rule_text k.rule) (ap (λ (ls : List (List ℕ)). get_or ls 2 []) e)) in
    let profile : j.profile ≡ k.profile = profile_once j.profile k.profile h.profile g.profile (ap (λ (ls : List (List ℕ)). get_or ls 4 []) e) in
    (λ i. record { seed = seed i; profile = profile i; rule = rule i }, cc)

after_ranges : (census : Census) (more : List (List ℕ)) → Ends is_range_line (sum_lines census ++ more)
unfolding sum_lines line_of
after_ranges census more = refl

pub haul_texts_are_faithful : HaulTextsAreFaithful
unfolding haul_lines
haul_texts_are_faithful one other h k e =
    let lines : haul_lines one ≡ haul_lines other =
    text_once (haul_lines one) (haul_lines other) (lines_lack _ (all_printed one h)) (lines_lack _ (all_printed other k)) e in
    let head = job_once one.job other.job _ _ h.job k.job lines in
    let set = lines_once is_range_line (range_lines one.ranges) (range_lines other.ranges) _ _ (are_range_lines one.ranges) (are_range_lines other.ranges)
    (after_ranges one _) (after_ranges other _) head.1 in
    let ranges : one.ranges ≡ other.ranges = set_once one.ranges other.ranges h.normal k.normal (recursion_from_All _ one.ranges h.ranges)
    (recursion_from_All _ other.ranges k.ranges) set.0 in
    let sums = sums_once one other h k set.1 in
    let count : one.count ≡ other.count = h.size ∙ ap size_of ranges ∙ sym k.size in
    λ i. record {
      job = head.0 i;
      ranges = ranges i;
      count = count i;
      soups = sums.soups i;
      unsettled = sums.unsettled i;
      for_good = sums.for_good i;
      objects = sums.objects i;
      rows = sums.rows i;
    }
