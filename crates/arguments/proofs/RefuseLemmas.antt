-- Arguments that ask for nothing: lawful arguments followed by a faulty one and then by anything, and arguments without
-- a command.
use Rattle.std.proofs.Common.{arith, ◌≡◌, ◌∙◌, ◌++◌, ◌==◌, ◌||◌, ℕ, Bool, true, false, cond, Option, None, Some, List, [], ◌∷◌, codes, ap, bytes_eq, inl, inr}
use Rattle.std.proofs.Common.{option_map, refl, slice_get, sym, subst, ⊎_elim}
use Rattle.std.specs.List.{list_any}
use Rattle.std.specs.Option.{option_map_or}
use Rattle.std.specs.Str.{chars}
use Rattle.std.specs.Str.Parse.{starts_with_minus}
use Rattle.std.proofs.Math.Bool.{or-false}
use Rattle.std.proofs.lemmas.Bool.{cases_Bool}
use Rattle.std.proofs.lemmas.List.Folds.{list_any-append}
use Rattle.clap.specs.Words.{Kinds, Row, Rule, Shape, Text}
use Rattle.clap.specs.Faults.{bundle_fault, flag_word_fault, flags_fault, long_fault, other_fault, short_fault, positional_fault, step_fault, stray_fault, walk_fault}
use Rattle.clap.specs.Kinds.{or_else}
use Rattle.clap.specs.Lexer.{long_of}
use Rattle.clap.specs.Simple.{names_of}
use Rattle.clap.specs.Walk.{Held, answers_to, arg_by_index, arg_by_long, arg_by_short, bundle_met, has_row, idle, long_or_other, nothing_held, short_word, subcommand_met}
use Rattle.clap.specs.Walk.{subcommand_or_other, takes_several, walk_from, walked}
use Rattle.clap.specs.declared.error.kind.ErrorKind.TheVariants.{DisplayHelp}
use Rattle.clap.proofs.KindLemmas.{value_kinds-refused}
use Rattle.clap.proofs.OnLiterals.{clap_on_literals}
use Rattle.arguments.specs.declared.request.Request.{Request}
use Rattle.arguments.specs.Calls.{NoCommandAsksForNothing, OthersAskForNothing}
use Rattle.arguments.specs.Entries.{Command, Entry}
use Rattle.arguments.specs.LawfulUses.{AreUses, IsIn, IsNotOfKind, IsShort, IsUnknown}
use Rattle.arguments.specs.Requests.{asked_by, unless_faulty}
use Rattle.arguments.specs.Table.{commands}
use Rattle.arguments.specs.Uses.{Stands, Use, alone, entry_in, value_in, arguments_in, arguments_of}
use Rattle.arguments.proofs.KnownLemmas.{CommandFacts, census_built, faults_of, holding, known, leaf, lone, takes_name}
use Rattle.arguments.proofs.LawLemmas.{asked_by-called, asked_of, asks, asks_uses, not_version}
use Rattle.arguments.proofs.NumberLemmas.{kind_refused, parser_for}
use Rattle.arguments.proofs.UseLemmas.{Fits, HasOrLacks, IsAt, all_read, bare_value, rows_in, use_step}
use Rattle.arguments.proofs.ValueLemmas.{find_none, rows_have}
use Rattle.arguments.proofs.WalkLemmas.{Met, at, faults_by, met, plain_met, run, settling}

-- there is a fault, as a test and as a statement
abbrev is_faulty : Kinds → Bool
is_faulty [] = false
is_faulty (kind ∷ kinds) = true

abbrev pub IsFaulty : Kinds → Type 0
IsFaulty kinds = is_faulty kinds ≡ true

faulty_first : (one two : Kinds) → IsFaulty one → IsFaulty (or_else one two)
faulty_first one two f = grind arith

stray : (s : Shape) → IsFaulty (stray_fault s)
stray s = grind arith

-- the faults of one argument; they don't depend on what comes after it
abbrev pub turn_kinds : Shape → ℕ → Met → Kinds
turn_kinds s position m = or_else m.1 (step_fault s position m.0.0 m.0.1)

word_faulty : (s : Shape) (h : Held) (position : ℕ) (argument : Text) (more : List Text) → IsFaulty (turn_kinds s position (met s idle h position argument))
    → IsFaulty (faults_by s (run s (at h position) (argument ∷ more)))
unfolding walked walk_fault
word_faulty s h position argument more f = faulty_first _ _ (faulty_first (turn_kinds s position (met s idle h position argument)) _ f)

-- a letter of a bundle such as `-abc` is a fault if it belongs to no option, or to an option that would be a fault if
-- it were given by its long name
letter_faulty : (s : Shape) (b : Bool) (o : Option Rule) (flags : Text) (h : Held) (next : Held → Kinds)
    → IsFaulty (long_fault s.rules s.args_override_self o None h)
    → IsFaulty (short_fault s.rules s.args_override_self (cond b o None) flags (record h { skip = 0 }) next)
letter_faulty s b o flags h next f = grind arith

-- a bundle such as `-abc` is a fault if its first letter is a fault
letters_faulty : (s : Shape) (h : Held) (letters : Text) (x : ℕ) (b : Bool) (o : Option Rule) → h.skip ≡ 0 → slice_get (chars letters) 0 ≡ Some x
    → arg_by_short s.rules x ≡ cond b o None → IsFaulty (long_fault s.rules s.args_override_self o None h)
    → IsFaulty (bundle_fault s.rules s.args_override_self letters h)
unfolding flags_fault chars
letters_faulty s h [] x b o none first is f = cc
letters_faulty s h (y ∷ ys) x b o none first is f = rw (none, first, is) (letter_faulty s b o _ h _ f)

-- In this module, settling what is held is a fault, and no argument of the command takes several values.
module _ (s : Shape) (rows : List Row) (p : Option (Text × List Text)) (single : list_any takes_several s.rules ≡ false)
    (settles : IsFaulty (settling s (holding rows p)).0) where
  abbrev h : Held
  h = holding rows p

  abbrev again : Bool
  again = s.args_override_self

  -- a positional value that follows is a fault
  value_stuck : (c : List Rule) (i : ℕ) → list_any takes_several c ≡ false
      → IsFaulty (option_map_or (λ a. positional_fault s.rules again a h) (arg_by_index c i) (stray_fault s))
  value_stuck [] i none = stray s
  value_stuck (a ∷ c) i none = grind (arith, value_stuck c i, settles)

  -- a bundle such as `-abc` that follows is a fault
  bundle_stuck : (i : ℕ) (argument flags : Text) → IsFaulty (turn_kinds s i (short_word s.rules idle argument flags h, bundle_fault s.rules again flags h))
  unfolding flags_fault bundle_met
  bundle_stuck i argument [] = value_stuck s.rules i single
  bundle_stuck i argument (x ∷ xs) = grind (arith, settles, value_stuck s.rules i single)

  word_stuck : (i : ℕ) (argument : Text) (o : Option (Text × Option Text))
      → IsFaulty (turn_kinds s i (long_or_other s.rules idle argument o h, flag_word_fault s.rules again o argument h))
  word_stuck i argument o = grind (arith, settles, value_stuck s.rules i single, bundle_stuck i argument)

  -- whatever arguments follow, there is a fault in them or at their end
  all_stuck : (more : List Text) (i : ℕ) (t : Bool)
      → IsFaulty (faults_by s (run s (record { held = h; waiting = idle; position = i; is_trailing = t; stopped = None }) more))
  unfolding walk_fault walked
  all_stuck [] i t = grind (arith, settles)
  all_stuck (argument ∷ more) i true = faulty_first _ _ (faulty_first _ _ (value_stuck s.rules i single))
  all_stuck (argument ∷ more) i false = elim (cases_Bool (bytes_eq argument (45 ∷ 45 ∷ []))) [
    | inl dashes ↦ simp dashes (all_stuck more i true)
    | inr other ↦ simp other (faulty_first _ _ (faulty_first _ _ (word_stuck i argument (long_of argument))))
  ]

-- The first arguments have a fault (`told`), or what they leave to be settled has a fault (`held`). If a fault in
-- `held` leads to a fault in the later arguments or at their end, the arguments as a whole have a fault.
told_or_held : (told held later last : Kinds) → IsFaulty (or_else told held) → (IsFaulty held → IsFaulty (or_else later last))
    → IsFaulty (or_else (or_else told later) last)
told_or_held told held later last f stuck = grind arith

-- a use whose value isn't of its kind, such as a number out of its range, is a fault
range_faulty : (e : Entry) (v : Text) (rows : List Row) → IsNotOfKind e.kind v → IsFaulty (faults_of e v rows)
range_faulty e v rows refused = grind (arith, value_kinds-refused false (parser_for e.kind) v (kind_refused e.kind v refused))

-- ---- arguments that are refused at a place in the arguments of a command

module _ (command : Command) (here : IsIn command commands) {h : Held} {position : ℕ} {rows : List Row}
    (is : IsAt command h position rows) (more : List Text) where
  abbrev s : Shape
  s = leaf command

  abbrev Refused : List Text → Type 0
  Refused arguments = IsFaulty (faults_by s (run s (at h position) arguments))

  -- if `faults_of` finds a fault in a use of an argument, arguments that begin with this use are refused
  use_faulty : (u : Use) → IsIn (entry_in u) command.parameters → Stands u → HasOrLacks u → Fits command here is u
      → IsFaulty (faults_of (entry_in u) (value_in u) rows) → Refused (arguments_of u ++ more)
  use_faulty u there stands of fits bad =
      let step = use_step command here is u there stands of fits in
      subst (λ r. IsFaulty (faults_by s r)) (sym (step.runs more))
      (told_or_held step.told (settling s (holding step.kept step.pending)).0 _ _ (subst (λ (p : Kinds × Held). IsFaulty p.0) (sym step.settles) bad)
      (λ f. all_stuck s step.kept step.pending (ap (λ (f : CommandFacts). f.several) (known command here)) f more step.end false))

  -- a positional value is refused if the positional argument was already given
  second_faulty : (v : Text) → starts_with_minus v ≡ false → position ≡ 2 → Refused (v ∷ more)
  second_faulty v bare second = word_faulty s h position v more (subst IsFaulty (sym (ap (turn_kinds s position) (plain_met s idle h position v bare)))
      (rw (second, ap (λ (f : CommandFacts). f.second) (known command here)) (stray s)))

  refused : (u : Use) → IsIn (entry_in u) command.parameters → Stands u → HasOrLacks u → IsFaulty (faults_of (entry_in u) (value_in u) rows)
      → Refused (arguments_of u ++ more)
  refused (alone e v) there stands of bad = ⊎_elim
      (λ some. second_faulty v (bare_value e.kind v stands.1 stands.2 of) (is.place ∙ ap (λ b. cond {A = ℕ} b 2 1) some))
      (λ none. use_faulty (alone e v) there stands of (is.place ∙ ap (λ b. cond {A = ℕ} b 2 1) none) bad)
      (cases_Bool (has_row (lone command) rows))
  refused u there stands of bad = use_faulty u there stands of tt bad

  -- an argument that is a fault by itself is refused
  refused_word : (argument : Text) → IsFaulty (other_fault s None argument h) → Refused (argument ∷ more)
  refused_word argument f = word_faulty s h position argument more (faulty_first (other_fault s None argument h) _ f)

  -- `--help` is a fault
  help_faulty : IsFaulty (other_fault s None (codes "--help") h)
  help_faulty = subst IsFaulty (sym (ap (λ (f : CommandFacts). f.help h) (known command here) ∙ (λ j. or_else (is.settles j).0 (DisplayHelp ∷ [])))) refl

  -- an argument such as `-x` or `-h` is refused
  refused_short : (argument : Text) → IsShort argument → Refused (argument ∷ more)
  refused_short argument u =
      let bad = letters_faulty s h u.letters u.letter (104 == u.letter || false) (arg_by_long s.rules (codes "help"))
      (ap (λ (p : Kinds × Held). p.1.skip) is.settles) u.first (ap (λ (f : CommandFacts). f.letters u.letter) (known command here)) help_faulty in
      refused_word argument (grind (arith, u.is_short, bad))

  -- an unknown option is refused
  refused_unknown : (argument : Text) → IsUnknown command argument → Refused (argument ∷ more)
  refused_unknown argument u =
      let none : list_any (takes_name u.name) s.rules ≡ false =
      ap (λ (f : CommandFacts). f.long_names u.name) (known command here) ∙ simp (list_any-append, or-false, u.no_option, u.no_help) in
      let bad : IsFaulty (long_fault s.rules s.args_override_self (arg_by_long s.rules u.name) u.value h) = rw (find_none (takes_name u.name) s.rules none) refl in
      refused_word argument (grind (arith, u.is_option, bad))

-- ---- the laws

no_request : (kinds : Kinds) (request : Option Request) → IsFaulty kinds → unless_faulty kinds request ≡ None
no_request kinds request f = grind arith

-- lawful arguments, followed by arguments with a fault, ask for nothing
none_asked : (command : Command) (here : IsIn command commands) (program : Text) (uses : List Use) (are : AreUses command uses) (more : List Text)
    → (let read = all_read command here uses are in IsFaulty (faults_by (leaf command) (run (leaf command) (at read.held read.end) more)))
    → asked_by (program ∷ command.name ∷ (arguments_in uses ++ more)) ≡ None
none_asked command here program uses are more f =
    asks command here program (arguments_in uses ++ more) ∙ ap (asked_of (leaf command)) ((all_read command here uses are).runs more)
    ∙ no_request _ _ (faulty_first _ [] f)

pub others_ask_for_nothing : OthersAskForNothing
others_ask_for_nothing command here = record {
  missing = λ program uses are lacking. asks_uses command here program uses true are lacking;
  twice = λ program uses u more are is used. none_asked command here program uses are (arguments_of u ++ more)
      (refused command here (all_read command here uses are).is more u is.parameter is.stands (inl is.taken)
      (rw (rows_have (entry_in u).name uses ∙ used) refl));
  out_of_range = λ program uses u more are is. none_asked command here program uses are (arguments_of u ++ more)
      (refused command here (all_read command here uses are).is more u is.parameter is.stands (inr is.refused)
      (range_faulty (entry_in u) (value_in u) (rows_in uses) is.refused));
  unknown = λ program argument uses more are is. none_asked command here program uses are (argument ∷ more)
      (refused_unknown command here (all_read command here uses are).is more argument is);
  short = λ program argument uses more are is. none_asked command here program uses are (argument ∷ more)
      (refused_short command here (all_read command here uses are).is more argument is);
  help = λ program uses more are. none_asked command here program uses are (codes "--help" ∷ more)
      (refused_word command here (all_read command here uses are).is more (codes "--help") (help_faulty command here (all_read command here uses are).is more));
}

-- ---- no command

-- the command `help`, which `clap` lists after the seven commands, and which has no arguments here
abbrev help_command : Command
help_command = record { name = codes "help"; parameters = [] }

listed_names : (argument : Text)
    → list_any (answers_to argument) (names_of census_built) ≡ list_any (λ (c : Command). bytes_eq c.name argument || false) (commands ++ help_command ∷ [])
unfolding clap_on_literals
listed_names argument = refl

unnamed : (argument : Text) → list_any (λ (c : Command). bytes_eq c.name argument) commands ≡ false → bytes_eq (codes "help") argument ≡ false
    → subcommand_met (names_of census_built) idle argument ≡ None
unnamed argument none no_help = ap (option_map (λ (s : Text × List Text). s.0))
    (find_none (answers_to argument) (names_of census_built) (listed_names argument ∙ simp (or-false, no_help) (simp or-false at none)))

asks_unknown : (program argument : Text) (arguments : List Text) → starts_with_minus argument ≡ false
    → list_any (λ (c : Command). bytes_eq c.name argument) commands ≡ false → bytes_eq (codes "help") argument ≡ false → asked_by (program ∷ argument ∷ arguments) ≡ None
unfolding walk_fault
asks_unknown program argument arguments is_value none no_help =
    let top = census_built.top in
    let met_by : Option Text → Kinds =
    λ o. turn_kinds top 1 (subcommand_or_other top.rules o idle 1 argument nothing_held, other_fault top o argument nothing_held) in
    let is = ap met_by (unnamed argument none no_help) ∙ ap (turn_kinds top 1) (plain_met top idle nothing_held 1 argument is_value) in
    asked_by-called (program ∷ argument ∷ arguments) (not_version program argument arguments (grind (arith, is_value)))
    ∙ no_request _ _ (faulty_first (walk_fault top (names_of census_built) (walk_from nothing_held) (argument ∷ arguments)) _
    (faulty_first (met_by (subcommand_met (names_of census_built) idle argument)) _ (subst IsFaulty (sym is) (stray top))))

pub no_command_asks_for_nothing : NoCommandAsksForNothing
unfolding clap_on_literals
no_command_asks_for_nothing = record { no_command = λ program. refl; unknown = asks_unknown; help = λ program. refl }
