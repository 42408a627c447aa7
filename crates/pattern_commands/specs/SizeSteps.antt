-- Steps of `run --sizes`: the line of each generation, and a pattern split into parts that don't meet for some
-- generations.
use Rattle.std.specs.Prelude.{◌≡◌, ◌++◌, ◌+◌, ◌≤◌, ◌+ℤ◌, ◌<ℤ◌, ℕ, zero, suc, pos, true, false, List, [], Result, Ok, Err, codes, decimal, drop, flat_map, length, take}
use Rattle.plane_core.specs.declared.plane.cell.Cell.{Cell}
use Rattle.plane_core.specs.engine.Boards.{Running}
use Rattle.plane_core.specs.plane.Bounds.{box_of}
use Rattle.plane_core.specs.plane.Cells.{has}
use Rattle.plane_core.specs.plane.Generations.{after}
use Rattle.plane_core.specs.plane.Rules.{Numbers}
use Rattle.pattern_commands.specs.declared.ending.complaint.Complaint.{Complaint}
use Rattle.pattern_commands.specs.declared.ending.complaint.Complaint.TheVariants.{Refused, Memory, ReadFailed, TooLong, WriteFailed}
use Rattle.pattern_commands.specs.declared.sizes.size.Size.{Size}
use Rattle.pattern_commands.specs.Sizes.{sides, size_line, after_space}
use Rattle.pattern_commands.specs.Streams.{Stream, Has, HasPrefix}

-- the size of a pattern: its population and the smallest box around it
abbrev pub pattern_size : List Cell → Size
pattern_size cells = record { population = length cells; bounds = box_of cells }

-- the line of a size at generation g
abbrev pub sized_line : ℕ → Size → List ℕ
sized_line g size = decimal g ++ (after_space (decimal size.population) ++ (sides size.bounds ++ codes "\n"))

-- the lines of the n generations after generation g, which has these cells
unfoldable pub later_sizes : Numbers → List Cell → ℕ → ℕ → List ℕ
later_sizes rule cells g zero = []
later_sizes rule cells g (suc n) = later_sizes rule cells g n ++ size_line (g + suc n) (after rule cells (suc n))

-- each cell at place i or later is more than `far` rows below each cell before place i
abbrev pub IsGap : ℕ → List Cell → ℕ → Type 0
IsGap far cells i = (c d : Cell) → has (take i cells) c ≡ true → has (drop i cells) d ≡ true → (c.y +ℤ pos far) <ℤ d.y

-- the cells of all parts after g generations, where each part runs by itself
abbrev pub parts_after : ℕ → List Running → List Cell
parts_after g parts = flat_map (λ part. after part.rule part.cells g) parts

-- for n generations, the pattern consists of the parts, each run by itself
abbrev pub RunApart : Numbers → List Cell → ℕ → List Running → Type 0
RunApart rule cells n parts = (g : ℕ) → g ≤ n → after rule cells g ≡ parts_after g parts

-- a part, one generation later
abbrev pub advanced : Running → Running
advanced part = record { rule = part.rule; cells = after part.rule part.cells 1 }

-- What was added to the output: if the result is `Ok x`, the text `done x`; if memory ran out or a write failed, a
-- prefix of the whole text. No other error is possible.
abbrev pub PutsLines : {A : Type 0} → (A → List ℕ) → List ℕ → Result A Complaint → Stream → Type 0
PutsLines done whole (Ok x) output = Has output (done x) × (output.failed ≡ false)
PutsLines done whole (Err (Memory error)) output = HasPrefix output whole
PutsLines done whole (Err (WriteFailed error)) output = HasPrefix output whole × (output.failed ≡ true)
PutsLines done whole (Err (ReadFailed error)) output = ⊥
PutsLines done whole (Err TooLong) output = ⊥
PutsLines done whole (Err (Refused refusal)) output = ⊥
