-- Facts about what `clap` makes of the seven commands and of their arguments. All of them follow from one equation,
-- which holds by computation.
use Rattle.std.proofs.Common.{◌≡◌, ◌||◌, ◌&&◌, ◌++◌, ◌==◌, ℕ, Bool, true, false, cond, Option, None, Some, List, [], ◌∷◌, codes, inl, inr, not, refl, ap, subst}
use Rattle.std.proofs.Common.{bytes_eq, drop, find, get_or, is_some, map, option_and_then, slice_get, unwrap_or}
use Rattle.std.specs.List.{list_any}
use Rattle.std.specs.Option.{option_map_or}
use Rattle.std.specs.Str.Parse.{digits_value}
use Rattle.std.proofs.lemmas.Option.{same_Some}
use Rattle.clap.specs.Words.{App, Kinds, Row, Rule, Shape, Text, built, reading_of}
use Rattle.clap.specs.Faults.{check_fault, default_fault, other_fault, repeat_fault, step_fault, turn_fault}
use Rattle.clap.specs.Kinds.{check_kinds, or_else, values_kinds}
use Rattle.clap.specs.Simple.{built_leaf, inherited, label_of, marked_built, names_of, with_leaf_noted}
use Rattle.clap.specs.Takes as takes
use Rattle.clap.specs.Walk.{Held, Step, Walk, answers_to, arg_by_index, arg_by_long, arg_by_short, has_long, idle, next, nothing_held, option, plain_word, pushed, reading_by, row_text}
use Rattle.clap.specs.Walk.{takes_several, to_positional, value, walk_from, walked, with_values, without}
use Rattle.clap.specs.declared.error.kind.ErrorKind.TheVariants.{DisplayHelp}
use Rattle.clap.specs.declared.parser.matches.ValueSource.{ValueSource}
use Rattle.clap.specs.declared.parser.matches.ValueSource.TheVariants.{CommandLine, DefaultValue}
use Rattle.clap.proofs.OnLiterals.{clap_on_literals}
use Rattle.arguments.specs.declared.options.ValueKind.{ValueKind}
use Rattle.arguments.specs.declared.options.ValueKind.TheVariants as kind
use Rattle.arguments.specs.Application.{census_app, shape_in}
use Rattle.arguments.specs.Entries.{Command, Entry}
use Rattle.arguments.specs.LawfulUses.{IsIn, is_required}
use Rattle.arguments.specs.Requests.{is_version}
use Rattle.arguments.specs.Table.{commands}
use Rattle.arguments.specs.Uses.{is_flag, is_used}
use Rattle.arguments.specs.Values.{at_least, number_named}
use Rattle.arguments.proofs.NumberLemmas.{is_small, parser_for}
use Rattle.arguments.proofs.WalkLemmas.{Met, at, met, settling}

-- the program and a command, as `clap` builds them
abbrev pub census_built : App
census_built = built census_app

abbrev pub leaf : Command → Shape
leaf command = built_leaf (inherited (with_leaf_noted (marked_built census_app.top)) (shape_in command))

-- `--help`, which `clap` adds
abbrev pub help_entry : Entry
help_entry = record { name = codes "help"; is_named = true; kind = kind.Flag; default = None }

-- the argument takes a value after its name
abbrev pub takes_value : Entry → Bool
takes_value e = e.is_named && not (is_flag e.kind)

-- the argument is a positional value
abbrev pub stands_alone : Entry → Bool
stands_alone e = not e.is_named && not (is_flag e.kind)

-- the name of the command's positional argument, of which there is at most one; empty if there is none
abbrev pub lone : Command → Text
lone command = option_map_or (λ e. e.name) (find stands_alone command.parameters) []

-- what a walk holds: these rows, and perhaps an argument with values that aren't settled yet; no letters of a bundle
-- such as `-abc` are to be skipped
abbrev pub holding : List Row → Option (Text × List Text) → Held
holding rows pending = record { rows = rows; pending = pending; skip = 0 }

-- ---- one use of an argument

-- the row of an argument with this value from this source
abbrev pub row_of : Entry → Text → ValueSource → Row
row_of e v source = record { id = e.name; values = v ∷ []; count = None; source = Some source; reading = reading_of (parser_for e.kind) }

-- the rows after a use of the argument with this value, and the faults of this use
abbrev pub rows_with : Entry → Text → List Row → List Row
rows_with e v rows = with_values e.name (reading_of (parser_for e.kind)) CommandLine (v ∷ []) (without e.name rows)

abbrev pub faults_of : Entry → Text → List Row → Kinds
faults_of e v rows = or_else (repeat_fault false e.name rows) (values_kinds false (parser_for e.kind) (v ∷ []))

-- the effect of a use that is one text, such as `--first=7` or a flag; p is the result of settling what was held
-- before
abbrev pub reacts : Kinds × Held → Entry → Text → Met
reacts p e v = ((record { rows = rows_with e v p.1.rows; pending = None; skip = p.1.skip }, next idle), or_else p.0 (faults_of e v p.1.rows))

-- the effect of a name such as `--first`, whose value follows in the next text; p is the result of settling what was
-- held before
abbrev pub asks : Kinds × Held → Entry → Met
asks p e = ((record { rows = p.1.rows; pending = Some (e.name, []); skip = p.1.skip }, next (option e.name)), p.0)

-- the effect of a positional value; what is held is settled first, unless this value is a further value of the held
-- argument (`keeps_on`)
abbrev pub goes_alone : Bool → Held → Kinds × Held → Entry → Text → Walk × Kinds
goes_alone keeps_on h p e v = (at (pushed e.name v (cond keeps_on h p.1)) 2, cond keeps_on [] p.0)

-- ---- the values that a request takes

pub data Value : Type 0 where
  text : Option Text → Value
  flag : Bool → Value
  number : Option ℕ → Value

abbrev pub text_of : Value → Option Text
text_of (text t) = t
text_of other = None

abbrev pub flag_of : Value → Bool
flag_of (flag b) = b
flag_of other = false

abbrev pub number_of : Value → Option ℕ
number_of (number n) = n
number_of other = None

-- what a request takes from the row that was found for an argument of this kind
abbrev pub taken : ValueKind → Option Row → Value
taken kind.Text row = text (option_and_then (λ (r : Row). slice_get r.values 0) row)
taken kind.Flag row = flag (option_map_or (λ t. bytes_eq t (codes "true")) (option_and_then (λ (r : Row). slice_get r.values 0) row) false)
taken (kind.Number least most) row = number (option_and_then (at_least least) (option_and_then (number_named most) (option_and_then row_text row)))
taken (kind.OptionalNumber least most) row = number (option_and_then (at_least least) (option_and_then (number_named most) (option_and_then row_text row)))

-- what a request should take for an argument of this kind: for a flag, whether it is used; for an optional number that
-- isn't used, `None`; otherwise, the argument's value
abbrev pub given : ValueKind → Text → Bool → Value
given kind.Text v used = text (Some v)
given kind.Flag v used = flag used
given (kind.Number least most) v used = number (Some (digits_value 10 v))
given (kind.OptionalNumber least most) v used = number (cond used (Some (digits_value 10 v)) None)

-- the row of the default of an argument
abbrev pub default_row : Rule → Row
default_row a = record { id = a.id; values = a.defaults; count = None; source = Some DefaultValue; reading = reading_by a }

-- the row of the default of the first rule that has this id and a default
abbrev pub default_for : Text → List Rule → Option Row
default_for id c = find (λ r. is_some (slice_get r.values 0) && bytes_eq r.id id) (map default_row c)

-- ---- what is known of a command

-- x if the test holds, and otherwise `None`
abbrev pub if_so : {X : Type 0} → Bool → X → Option X
if_so b x = cond b (Some x) None

pub so : {X : Type 0} {b : Bool} {x y : X} → if_so b x ≡ if_so b y → b ≡ true → x ≡ y
so {X} {b} {x} {y} same holds = same_Some x y (rw holds at same)

-- a test: the rule isn't positional, and it has this long name
abbrev pub takes_name : Text → Rule → Bool
takes_name name a = not (is_some a.index) && has_long a name

-- Facts about one argument of a command: the effect of a flag, of `--name=value`, of `--name` before a value, of this
-- value, and of a positional value; how a value that is held is settled; whether the argument is positional; that no
-- other argument of the command has its name; that its highest value, if its values are numbers, is below 2^64; and
-- what a request takes from its default.
pub record ParameterFacts : Type 0 where
  pub flagged : Held → ℕ → Option Met
  pub attached : Held → ℕ → Text → Option Met
  pub spaced : Held → ℕ → Option Met
  pub valued : List Row → Text → Held × Step
  pub alone : Held → Text → Option (Walk × Kinds)
  pub settles : List Row → Text → Option (Kinds × Held)
  pub is_lone : Bool
  pub same_name : Option Entry
  pub small : Bool
  pub default : Option Value

-- Facts about a command: its arguments, that it takes no second positional value and no argument with several values,
-- its defaults and checks, its long names and letters, `--help`, and how `clap` finds the command by its name.
pub record CommandFacts : Type 0 where
  pub parameters : List ParameterFacts
  pub second : Option Rule
  pub several : Bool
  pub default_faults : List Kinds
  pub checks : List Row → Kinds
  pub long_names : Text → Bool
  pub letters : ℕ → Option Rule
  pub help : Held → Kinds
  pub walks : Walk
  pub fault : Kinds
  pub found : Option Shape
  pub version : Bool

-- the facts in two versions: as `clap` computes them (if the first argument is `true`), and as the table states them
abbrev pub parameter_facts : Bool → Command → Entry → ParameterFacts
parameter_facts clap command e =
    let s = leaf command in
    let argument : Text = codes "--" ++ e.name in
    record {
      flagged = λ h i. if_so (is_flag e.kind) (cond clap (met s idle h i argument) (reacts (settling s h) e (codes "true")));
      attached = λ h i v. if_so (takes_value e) (cond clap (met s idle h i (codes "--" ++ (e.name ++ (codes "=" ++ v)))) (reacts (settling s h) e v));
      spaced = λ h i. if_so (takes_value e) (cond clap (met s idle h i argument) (asks (settling s h) e));
      valued = λ rows v. cond clap (plain_word s.rules (option e.name) v (holding rows (Some (e.name, []))))
          (holding rows (Some (e.name, v ∷ [])), next idle);
      alone = λ h v. if_so (stands_alone e) (cond clap (to_positional s.rules (arg_by_index s.rules 1) v (at h 1) h, step_fault s 1 h value)
          (goes_alone (option_map_or (λ (q : Text × List Text). bytes_eq q.0 e.name) h.pending false && false) h (settling s h) e v));
      settles = λ rows v. if_so (not (is_flag e.kind)) (cond clap (settling s (holding rows (Some (e.name, v ∷ []))))
          (faults_of e v rows, holding (rows_with e v rows) None));
      is_lone = cond clap (bytes_eq e.name (lone command)) (stands_alone e);
      same_name = cond clap (find (λ x. bytes_eq x.name e.name) command.parameters) (Some e);
      small = cond clap (is_small e.kind) true;
      default = if_so (not (is_required e && not (is_used e.name [])))
          (cond clap (taken e.kind (default_for e.name s.rules)) (given e.kind (unwrap_or e.default []) false));
    }

abbrev pub command_facts : Bool → Command → CommandFacts
command_facts clap command =
    let s = leaf command in
    let es = command.parameters in
    let top = census_built.top in
    record {
      parameters = map (parameter_facts clap command) es;
      second = cond clap (arg_by_index s.rules 2) None;
      several = cond clap (list_any takes_several s.rules) false;
      default_faults = cond clap (map (default_fault []) s.rules) (map (λ a. []) s.rules);
      checks = λ rows. cond clap (check_fault s rows false)
          (check_kinds false false (list_any (λ e. is_required e && not (takes.is_given e.name rows)) es));
      long_names = λ name. cond clap (list_any (takes_name name) s.rules)
          (list_any (λ e. e.is_named && (bytes_eq e.name name || false)) (es ++ help_entry ∷ []));
      letters = λ x. cond clap (arg_by_short s.rules x) (cond (104 == x || false) (arg_by_long s.rules (codes "help")) None);
      help = λ h. cond clap (other_fault s None (codes "--help") h) (or_else (settling s h).0 (DisplayHelp ∷ []));
      walks = cond clap (walked top.rules (names_of census_built) (walk_from nothing_held) command.name)
          (record { held = nothing_held; waiting = idle; position = 1; is_trailing = false; stopped = Some (command.name, []) });
      fault = cond clap (turn_fault top (names_of census_built) (walk_from nothing_held) command.name) [];
      found = cond clap (find (λ sub. answers_to command.name (label_of sub)) census_built.subs) (Some s);
      version = cond clap (is_version command.name) false;
    }

all_known : map (command_facts true) commands ≡ map (command_facts false) commands
unfolding clap_on_literals
all_known = refl

-- two functions that agree on a list agree on each member of the list
at_one : {X Y : Type 0} (f g : X → Y) (xs : List X) (x : X) → map f xs ≡ map g xs → IsIn x xs → f x ≡ g x
at_one f g [] x same here = absurd here
at_one f g (y ∷ xs) x same (inl is) = subst (λ z. f z ≡ g z) is (ap (λ l. get_or l 0 (f y)) same)
at_one f g (y ∷ xs) x same (inr more) = at_one f g xs x (ap (drop 1) same) more

pub known : (command : Command) → IsIn command commands → command_facts true command ≡ command_facts false command
known command here = at_one (command_facts true) (command_facts false) commands command all_known here

pub known_of : (command : Command) → IsIn command commands → (e : Entry) → IsIn e command.parameters
    → parameter_facts true command e ≡ parameter_facts false command e
known_of command here e there = at_one (parameter_facts true command) (parameter_facts false command) command.parameters e
    (ap (λ (f : CommandFacts). f.parameters) (known command here)) there
