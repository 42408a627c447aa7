-- The laws of arguments: what the arguments of a call ask for.
use Rattle.std.proofs.Common.{arith, ◌≡◌, ◌∙◌, ◌&&◌, ◌⊎◌, Bool, true, false, None, Some, Option, List, [], ◌∷◌, append-nil, option_and_then, option_map, fold, inl}
use Rattle.std.proofs.Common.{inr, not, refl, sym, ap, ap₂, subst, ⊎_elim}
use Rattle.std.specs.List.{list_any}
use Rattle.std.proofs.lemmas.Bool.{and_parts}
use Rattle.clap.specs.Words.{Kinds, Row, Shape, Text, App, IsAmong, fault_of, is_simple, is_simple_and_free, subcommand_of}
use Rattle.clap.specs.Faults.{check_fault, defaults_fault, level_fault, walk_fault}
use Rattle.clap.specs.Simple.{entered, names_of, rows_at}
use Rattle.clap.specs.Kinds.{check_kinds, or_else}
use Rattle.clap.specs.Walk.{Walk, finished, nothing_held, walk_from, walked, with_default}
use Rattle.clap.specs.declared.error.kind.ErrorKind.{ErrorKind}
use Rattle.clap.specs.declared.error.kind.ErrorKind.TheVariants.{OutOfMemory}
use Rattle.clap.proofs.FaultLemmas.{stopped_fault}
use Rattle.clap.proofs.OnLiterals.{clap_on_literals}
use Rattle.clap.proofs.WalkLemmas.{walk_stopped}
use Rattle.arguments.specs.declared.request.Request.{Request}
use Rattle.arguments.specs.Application.{census_app}
use Rattle.arguments.specs.Calls.{AskForTheirValues, AsksFor, AsksForVersion, AsksForWhat}
use Rattle.arguments.specs.Entries.{Command, Entry}
use Rattle.arguments.specs.GivenValues.{plan_given}
use Rattle.arguments.specs.LawfulUses.{AreUses, IsIn, is_required, lacks_some}
use Rattle.arguments.specs.Forms.{pattern_form}
use Rattle.arguments.specs.Plans.{all_four, plan_in, plan_of_three, set_of_four}
use Rattle.arguments.specs.Reading.{gather_from, name_from, run_from, show_from, soup_from, take_from, work_from}
use Rattle.arguments.specs.Requests.{asked_by, asks_version, called_by, is_version, request_in, unless_faulty}
use Rattle.arguments.specs.Table.{commands}
use Rattle.arguments.specs.Uses.{Use, arguments_in}
use Rattle.arguments.specs.Table as table
use Rattle.arguments.proofs.KnownLemmas.{CommandFacts, census_built, flag_of, known, leaf, number_of, text_of}
use Rattle.arguments.proofs.UseLemmas.{all_read, rows_in}
use Rattle.arguments.proofs.ValueLemmas.{AllTaken, all_taken, completed, given_used, no_default_fault}
use Rattle.arguments.proofs.WalkLemmas.{at, end_faults, faults_by, run}

-- ---- what `clap` finds in the arguments

-- unless arguments ask for the version, they ask for what `clap` reads from them
pub asked_by-called : (arguments : List Text) → asks_version arguments ≡ false → asked_by arguments ≡ called_by arguments
asked_by-called arguments other = rw other refl

-- the program's arguments are so simple that the contracts of `clap` state what it finds, and which faults there are
census_is_free : is_simple_and_free census_app ≡ true
unfolding clap_on_literals
census_is_free = refl

module _ (app : App) (arguments : List Text) (is : app ≡ census_app) (other : false ≡ asks_version arguments) where
  -- if a parse succeeds, the arguments ask for the request that is made from the values that the parse found
  pub asked_by-found : (found : Option (Text × List Row)) → (is_simple_and_free app ≡ true → fault_of app arguments ≡ [])
      → (is_simple app ≡ true → found ≡ subcommand_of app arguments) → asked_by arguments ≡ option_and_then request_in found
  asked_by-found found faultless finds =
      let none = subst (λ (a : App). is_simple_and_free a ≡ true → fault_of a arguments ≡ []) is faultless census_is_free in
      let same = subst (λ (a : App). is_simple a ≡ true → found ≡ subcommand_of a arguments) is finds (and_parts _ _ census_is_free).0 in
      asked_by-called arguments (sym other) ∙ rw (none, same) refl

  -- if a parse fails, and not because memory ran out, its arguments ask for nothing
  pub asked_by-none : (kind : ErrorKind) → (is_simple_and_free app ≡ true → (kind ≡ OutOfMemory) ⊎ IsAmong kind (fault_of app arguments))
      → (kind ≡ OutOfMemory → ⊥) → asked_by arguments ≡ None
  asked_by-none kind fails enough = asked_by-called arguments (sym other) ∙ go (fault_of census_app arguments) _
      (subst (λ (a : App). is_simple_and_free a ≡ true → (kind ≡ OutOfMemory) ⊎ IsAmong kind (fault_of a arguments)) is fails census_is_free)
    where
      go : (faults : Kinds) (request : Option Request) → (kind ≡ OutOfMemory) ⊎ IsAmong kind faults → unless_faulty faults request ≡ None
      go [] request among = absurd (⊎_elim enough (λ never. never) among)
      go (k ∷ ks) request among = refl

-- ---- the name of a command

-- if a command is given, the program's own defaults and checks have no fault
top_fine : or_else (defaults_fault [] census_built.top.rules) (check_fault census_built.top (finished census_built.top.rules nothing_held) true) ≡ []
unfolding clap_on_literals
top_fine = refl

-- what the arguments of a command ask for, given the faults that the walk over the arguments finds, and where it ends
abbrev pub asked_of : Shape → Kinds × Walk → Option Request
asked_of s r = unless_faulty (or_else (faults_by s r) []) (request_in (s.name, finished s.rules r.1.held))

-- arguments don't ask for the version if the first argument after the program isn't `--version` or `-V`
pub not_version : (program name : Text) (arguments : List Text) → is_version name ≡ false → asks_version (program ∷ name ∷ arguments) ≡ false
not_version program name arguments other = grind (arith, other)

module _ (command : Command) (here : IsIn command commands) (program : Text) where
  pub asks : (arguments : List Text) → asked_by (program ∷ command.name ∷ arguments) ≡ asked_of (leaf command) (run (leaf command) (at nothing_held 1) arguments)
  unfolding walk_fault
  asks arguments =
      let k = known command here in
      let s = leaf command in
      let a = census_built in
      let walks = ap (λ (f : CommandFacts). f.walks) k in
      let fine : walk_fault a.top (names_of a) (walk_from nothing_held) (command.name ∷ arguments) ≡ [] =
      ap₂ (λ ks w. or_else ks (walk_fault a.top (names_of a) w arguments)) (ap (λ (f : CommandFacts). f.fault) k) walks
      ∙ stopped_fault a.top (names_of a) (walk_from nothing_held) (command.name, []) arguments in
      let ends = ap (λ w. fold (walked a.top.rules (names_of a)) w arguments) walks
      ∙ sym (walk_stopped a.top.rules (names_of a) (walk_from nothing_held) command.name [] arguments) in
      let found = ap (λ (f : CommandFacts). f.found) k in
      let faults : fault_of census_app (program ∷ command.name ∷ arguments) ≡ or_else (level_fault s [] nothing_held arguments false []) [] =
      rw (fine, ends, found, top_fine) refl in
      let matches : subcommand_of census_app (program ∷ command.name ∷ arguments) ≡ Some (rows_at s arguments) =
      ap (λ (w : Walk). entered a w.stopped) ends ∙ ap (option_map (λ s. rows_at s arguments)) found in
      asked_by-called (program ∷ command.name ∷ arguments) (not_version program command.name arguments (ap (λ (f : CommandFacts). f.version) k))
      ∙ rw (faults, matches) refl

  -- lawful arguments ask for the request that is made from their rows, with the defaults filled in, or for nothing if a
  -- required argument is missing
  pub asks_uses : (uses : List Use) (missing : Bool) → AreUses command uses → lacks_some command uses ≡ missing
      → asked_by (program ∷ command.name ∷ arguments_in uses)
      ≡ unless_faulty (or_else (check_kinds false false missing) []) (request_in ((leaf command).name, completed (leaf command) (rows_in uses)))
  unfolding walk_fault
  asks_uses uses missing are lacks =
      let k = known command here in
      let s = leaf command in
      let rows : List Row = completed s (rows_in uses) in
      let read = all_read command here uses are in
      let end : Kinds → List Row → Option Request = λ ks rs. unless_faulty (or_else ks []) (request_in (s.name, rs)) in
      asks (arguments_in uses) ∙ ap (asked_of s) (ap (run s (at nothing_held 1)) (sym (append-nil (arguments_in uses))) ∙ read.runs [])
      ∙ (λ j. end (end_faults s (read.is.settles j)) (fold with_default (read.is.settles j).1.rows s.rules))
      ∙ ap (λ ks. end ks rows) (ap₂ or_else (no_default_fault s.rules (rows_in uses) (ap (λ (f : CommandFacts). f.default_faults) k))
      (ap (λ (f : CommandFacts). f.checks rows) k
      ∙ (λ j. check_kinds false false (list_any (λ e. is_required e && not (given_used command here e.name uses j)) command.parameters))
      ∙ ap (check_kinds false false) lacks))

-- ---- the values of each command

-- the rows of a call of this command with these uses, with the defaults filled in
abbrev rows_for : Command → List Use → List Row
rows_for command uses = completed (leaf command) (rows_in uses)

-- if a request takes the given values of the nine arguments of a plan from the rows, the plan in the rows is the plan
-- that the uses give
plan_taken : (uses : List Use) (rows : List Row) (more : List Entry) → AllTaken (table.seed ∷ table.first ∷ table.count ∷ table.also
    ∷ table.period ∷ table.horizon ∷ table.stride ∷ table.limit ∷ table.rule ∷ more) uses rows
    → (plan_in rows ≡ Some (plan_given uses)) × AllTaken more uses rows
plan_taken uses rows more (seed, (first, (count, (also, (period, (horizon, (stride, (limit, (rule, others))))))))) = (
  λ i. plan_of_three (set_of_four (text_of (seed i)) (number_of (first i)) (number_of (count i)) (text_of (also i)))
      (all_four (number_of (period i)) (number_of (horizon i)) (number_of (stride i)) (number_of (limit i))) (text_of (rule i)),
  others,
)

-- to show what a call of a command asks for, it is enough to show which request is made from the rows of the call,
-- given that a request takes the given value of each argument from these rows
asks_what : (command : Command) (here : IsIn command commands) (asked : List Use → Option Request)
    → ((uses : List Use) → AllTaken command.parameters uses (rows_for command uses)
    → request_in ((leaf command).name, rows_for command uses) ≡ asked uses) → AsksForWhat command asked
asks_what command here asked makes program uses are whole =
    asks_uses command here program uses false are whole ∙ makes uses (all_taken command here uses are whole)

asks_for : (command : Command) (here : IsIn command commands) (request : List Use → Request)
    → ((uses : List Use) → AllTaken command.parameters uses (rows_for command uses)
    → request_in ((leaf command).name, rows_for command uses) ≡ Some (request uses)) → AsksFor command request
asks_for command here request makes = asks_what command here (λ uses. Some (request uses)) makes

pub ask_for_their_values : AskForTheirValues
ask_for_their_values = record {
  run = asks_what table.run_command (inl refl) _ (λ uses all. let (n, (rule, (coordinates, (sizes, more)))) = all in λ i.
      run_from (pattern_form (flag_of (coordinates i))) (number_of (sizes i)) (number_of (n i)) (text_of (rule i)));
  name = asks_for table.name_command (inr (inl refl)) _ (λ uses all. let (period, (horizon, (stride, (limit, (rule, more))))) = all in λ i.
      name_from (all_four (number_of (period i)) (number_of (horizon i)) (number_of (stride i)) (number_of (limit i))) (text_of (rule i)));
  show = asks_for table.show_command (inr (inr (inl refl))) _ (λ uses all. let (code, (coordinates, more)) = all in λ i.
      show_from (pattern_form (flag_of (coordinates i))) (text_of (code i)));
  soup = asks_for table.soup_command (inr (inr (inr (inl refl)))) _ (λ uses all. let (n, (seed, (coordinates, more))) = all in λ i.
      soup_from (pattern_form (flag_of (coordinates i))) (number_of (n i)) (text_of (seed i)));
  take = asks_for table.take_command (inr (inr (inr (inr (inl refl))))) _ (λ uses all.
      let (plan, (workers, (progress, (from, more)))) =
      plan_taken uses (rows_for table.take_command uses) (table.workers ∷ table.progress ∷ table.report_from ∷ []) all in
      λ i. take_from (flag_of (progress i)) (number_of (from i)) (plan i) (number_of (workers i)));
  work = asks_for table.work_command (inr (inr (inr (inr (inr (inl refl)))))) _ (λ uses all.
      let (plan, (worker, more)) = plan_taken uses (rows_for table.work_command uses) (table.worker ∷ []) all in
      λ i. work_from (plan i) (number_of (worker i)));
  gather = asks_for table.gather_command (inr (inr (inr (inr (inr (inr (inl refl))))))) _ (λ uses all.
      let (plan, (workers, more)) = plan_taken uses (rows_for table.gather_command uses) (table.workers ∷ []) all in
      λ i. gather_from (plan i) (number_of (workers i)));
}

-- ---- `--version` and `-V`

pub asks_for_version : AsksForVersion
asks_for_version = record { long = λ program. refl; short = λ program. refl }
