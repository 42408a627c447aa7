-- How `clap` walks the arguments of a command: from one place between two arguments to the next.
use Rattle.std.proofs.Common.{arith, ◌≡◌, ◌++◌, ℕ, false, None, List, [], ◌∷◌, ap, fold, refl}
use Rattle.std.specs.Str.Parse.{starts_with_minus}
use Rattle.clap.specs.Words.{Kinds, Row, Shape, Text}
use Rattle.clap.specs.Faults.{check_fault, defaults_fault, other_fault, settle_fault, step_fault, walk_fault}
use Rattle.clap.specs.Kinds.{or_else}
use Rattle.clap.specs.Walk.{Held, Step as WalkStep, Waiting, Walk, after_step, at_row, has_row, idle, plain_word, settled, subcommand_or_other, walked}
use Rattle.clap.specs.Walk.{with_default}

-- a place between two arguments, and (`at`) a place at which no argument waits for a value
abbrev pub waits : Waiting → Held → ℕ → Walk
waits waiting h position = record { held = h; waiting = waiting; position = position; is_trailing = false; stopped = None }

abbrev pub at : Held → ℕ → Walk
at = waits idle

-- the faults that a walk over these arguments finds, and where it ends
abbrev pub run : Shape → Walk → List Text → Kinds × Walk
run s w arguments = (walk_fault s [] w arguments, fold (walked s.rules []) w arguments)

-- the result r; if `kinds` has faults, they replace the faults of r
abbrev pub after : {X : Type 0} → Kinds → Kinds × X → Kinds × X
after kinds r = (or_else kinds r.0, r.1)

-- the result of settling what is held, when another argument begins: the faults, and what is held afterwards
abbrev pub settling : Shape → Held → Kinds × Held
settling s h = (settle_fault s.rules s.args_override_self h, settled s.rules h)

-- the faults at the end of a command's arguments
abbrev pub end_faults : Shape → Kinds × Held → Kinds
end_faults s p = or_else p.0 (or_else (defaults_fault p.1.rows s.rules) (check_fault s (fold with_default p.1.rows s.rules) false))

-- all faults of a command's arguments, given the result of the walk over these arguments
abbrev pub faults_by : Shape → Kinds × Walk → Kinds
faults_by s r = or_else r.0 (end_faults s (settling s r.1.held))

-- ---- one argument

-- the effect of an argument: what is held after it, what the walk does next, and the argument's faults
abbrev pub Met : Type 0
Met = (Held × WalkStep) × Kinds

abbrev pub met : Shape → Waiting → Held → ℕ → Text → Met
met s waiting h position argument = (subcommand_or_other s.rules None waiting position argument h, other_fault s None argument h)

-- how the walk goes on after an argument
abbrev pub goes_on : Shape → Waiting → Held → ℕ → Text → List Text → Met → Kinds × Walk
goes_on s waiting h position argument more m = after (or_else m.1 (step_fault s position m.0.0 m.0.1))
    (run s (after_step s.rules argument (waits waiting h position) m.0.0 m.0.1) more)

pub turn : (s : Shape) (waiting : Waiting) (h : Held) (position : ℕ) (argument : Text) (more : List Text) (m : Met) → met s waiting h position argument ≡ m
    → run s (waits waiting h position) (argument ∷ more) ≡ goes_on s waiting h position argument more m
unfolding walked walk_fault
turn s idle h position argument more m is = ap (goes_on s idle h position argument more) is
turn s waiting h position argument more m is = ap (goes_on s waiting h position argument more) is

-- an argument that doesn't begin with `-` is taken as a plain word, and isn't a fault by itself
pub plain_met : (s : Shape) (waiting : Waiting) (h : Held) (position : ℕ) (argument : Text) → starts_with_minus argument ≡ false
    → met s waiting h position argument ≡ (plain_word s.rules waiting argument h, [])
plain_met s waiting h position argument bare = grind (arith, bare)

pub or_else_nil : (kinds : Kinds) → or_else kinds [] ≡ kinds
or_else_nil kinds = grind arith

-- ---- rows

-- if no row has the id, the rows `missing` are put at the end
pub at_row_none : (id : Text) (change : Row → List Row) (missing rows : List Row) → has_row id rows ≡ false → at_row id change missing rows ≡ rows ++ missing
at_row_none id change missing [] none = refl
at_row_none id change missing (r ∷ rs) none = grind (arith, at_row_none id change missing rs)
