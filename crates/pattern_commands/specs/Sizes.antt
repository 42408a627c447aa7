-- The behaviour of `census run --sizes`.
use Rattle.std.specs.Prelude.{◌++◌, ◌+◌, ◌-◌, ℕ, zero, suc, false, List, [], Option, None, Some, Ok, codes, decimal, is_ok, length}
use Rattle.std.specs.Fmt.{signed_decimal}
use Rattle.plane_core.specs.declared.plane.bounds.Bounds.{Bounds}
use Rattle.plane_core.specs.declared.plane.cell.Cell.{Cell}
use Rattle.plane_core.specs.plane.Bounds.{box_of}
use Rattle.plane_core.specs.plane.Generations.{after}
use Rattle.plane_core.specs.plane.Rules.{Numbers}
use Rattle.pattern_commands.specs.Answers.{Answer, given, only}
use Rattle.pattern_commands.specs.Behaviours.{Behaviour, text_behaviour}
use Rattle.pattern_commands.specs.Inputs.{pattern_of, rule_named}

-- a space and a number
abbrev pub after_space : List ℕ → List ℕ
after_space number = codes " " ++ number

-- the left, top, right and bottom side of a box, with a space before each; nothing if there is no box
abbrev pub sides : Option Bounds → List ℕ
sides None = []
sides (Some b) = after_space (signed_decimal b.left) ++ (after_space (signed_decimal b.top) ++ (after_space (signed_decimal b.right) ++ after_space (signed_decimal b.bottom)))

-- the line of generation g, where `cells` is the pattern at that generation: g, the population, and the sides of the
-- smallest box around the cells
abbrev pub size_line : ℕ → List Cell → List ℕ
size_line g cells = decimal g ++ (after_space (decimal (length cells)) ++ (sides (box_of cells) ++ codes "\n"))

-- n lines, one for each generation of a pattern; the first line is that of generation `from`
unfoldable pub sizes_text : Numbers → List Cell → ℕ → ℕ → List ℕ
sizes_text rule cells from zero = []
sizes_text rule cells from (suc n) = sizes_text rule cells from n ++ size_line (from + n) (after rule cells (from + n))

-- the lines of generations `from` to `last`; first the rule is checked, and then the input
abbrev pub sizes_answer : List ℕ → ℕ → ℕ → List ℕ → Answer
sizes_answer rule_text from last bytes =
    given (rule_named rule_text) (λ rule. given (pattern_of bytes) (λ cells. Ok (sizes_text rule cells from (last + 1 - from))))

-- the behaviour of `run --sizes`; its text is written line by line
abbrev pub sizes_behaviour : List ℕ → ℕ → ℕ → Behaviour
sizes_behaviour rule_text from last =
    text_behaviour (is_ok (rule_named rule_text)) false (λ bytes. only (sizes_answer rule_text from last bytes))
