-- The haul text: a census, line by line.
use Rattle.std.specs.Prelude.{◌++◌, ℕ, List, [], ◌∷◌, codes, decimal, flat_map, map}
use Rattle.plane_core.specs.plane.Rules.{rule_text}
use Rattle.survey_core.specs.Profiles.{Settling}
use Rattle.survey_core.specs.declared.job.Job.{Job}
use Rattle.haul_core.specs.declared.book.census.Census.{Census}
use Rattle.ranges.specs.declared.range.Range.{Range}
use Rattle.haul_core.specs.declared.book.census_rows.Row.{Row}

-- a text with a space before it
abbrev pub spaced : List ℕ → List ℕ
spaced text = codes " " ++ text

-- a line of texts, with a space before each except the first
unfoldable pub line_of : List ℕ → List (List ℕ) → List ℕ
line_of first more = first ++ flat_map spaced more

-- a line of a name and numbers in decimal
abbrev pub line_of_numbers : List ℕ → List ℕ → List ℕ
line_of_numbers name numbers = line_of name (map decimal numbers)

-- the line of a profile, with its four numbers
abbrev pub profile_line : Settling → List ℕ
profile_line p = line_of_numbers (codes "@PROFILE") (p.period ∷ p.horizon ∷ p.stride ∷ p.limit ∷ [])

-- the lines of the version, the seed, the rule, the symmetry and the profile
unfoldable pub head_lines : Job → List (List ℕ)
head_lines job =
    codes "@VERSION 2"
    ∷ (codes "@ROOT seed=" ++ job.seed)
    ∷ (codes "@RULE " ++ rule_text job.rule)
    ∷ codes "@SYMMETRY C1"
    ∷ profile_line job.profile
    ∷ []

-- the line of a range: its first number, and how many numbers the range has
abbrev pub range_line : Range → List ℕ
range_line range = line_of_numbers (codes "@RANGE") (range.first ∷ range.count ∷ [])

-- a line for each range; if there are no ranges, the line of an empty range
abbrev pub range_lines : List Range → List (List ℕ)
range_lines [] = range_line (record { first = 0; count = 0 }) ∷ []
range_lines (range ∷ more) = map range_line (range ∷ more)

-- the lines with the numbers of soups, unsettled soups, soups whose objects stay for good, and objects
unfoldable pub sum_lines : Census → List (List ℕ)
sum_lines census =
    line_of_numbers (codes "@NUM_SOUPS") (census.soups ∷ [])
    ∷ line_of_numbers (codes "@NUM_UNSETTLED") (census.unsettled ∷ [])
    ∷ line_of_numbers (codes "@NUM_FOR_GOOD") (census.for_good ∷ [])
    ∷ line_of_numbers (codes "@NUM_OBJECTS") (census.objects ∷ [])
    ∷ []

-- a code and the number of objects that have it
abbrev pub total_line : Row → List ℕ
total_line row = line_of_numbers row.code (row.total ∷ [])

-- a code, and the lowest numbers of the soups that left an object with this code
abbrev pub sample_line : Row → List ℕ
sample_line row = line_of_numbers row.code row.samples

-- the table of totals: an empty line, the title, and a line for each code
unfoldable pub total_lines : List Row → List (List ℕ)
total_lines rows = [] ∷ codes "@CENSUS TABLE" ∷ map total_line rows

-- the table of samples: an empty line, the title, and a line for each code
unfoldable pub sample_lines : List Row → List (List ℕ)
sample_lines rows = [] ∷ codes "@SAMPLE_SOUPIDS" ∷ map sample_line rows

-- a line with the line feed that ends it
abbrev pub ended : List ℕ → List ℕ
ended line = line ++ codes "\n"

-- the text that the lines make
unfoldable pub text_of : List (List ℕ) → List ℕ
text_of lines = flat_map ended lines

-- the lines of a census, from the first to the last
unfoldable pub haul_lines : Census → List (List ℕ)
haul_lines census =
    head_lines census.job ++ (range_lines census.ranges ++ (sum_lines census ++ (total_lines census.rows ++ sample_lines census.rows)))

-- the haul text of a census
abbrev pub haul_text : Census → List ℕ
haul_text census = text_of (haul_lines census)
