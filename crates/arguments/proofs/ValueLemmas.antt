-- The values of a call: the values that it gives, and the defaults of the arguments that it doesn't give.
use Rattle.std.proofs.Common.{arith, ◌≡◌, ◌∙◌, ◌||◌, ◌&&◌, Bool, true, false, cond, Option, None, Some, List, [], ◌∷◌, codes, is_some, not, bytes_eq, drop}
use Rattle.std.proofs.Common.{find, fold, get_or, inl, inr, map, slice_get, refl, sym, ap, subst, ⊎_elim}
use Rattle.std.specs.List.{AllByRecursion, list_any}
use Rattle.std.specs.Option.{option_map_or, option_or}
use Rattle.std.proofs.lemmas.Bool.{cases_Bool, cond_both, or_parts}
use Rattle.std.proofs.lemmas.List.Folds.{find-append}
use Rattle.std.proofs.lemmas.Option.{same_Some}
use Rattle.std.proofs.lemmas.Slice.Eq.{bytes_eq-Decides}
use Rattle.clap.specs.Words.{Row, Rule, Shape, Text, reading_of}
use Rattle.clap.specs.Facts.{explicit_source}
use Rattle.clap.specs.Faults.{default_fault, defaults_fault}
use Rattle.clap.specs.Takes as takes
use Rattle.clap.specs.Walk.{has_row, with_default}
use Rattle.clap.specs.declared.parser.matches.ValueSource.TheVariants.{CommandLine}
use Rattle.arguments.specs.declared.options.ValueKind.{ValueKind}
use Rattle.arguments.specs.declared.options.ValueKind.TheVariants as kind
use Rattle.arguments.specs.Entries.{Command, Entry}
use Rattle.arguments.specs.GivenValues.{text_given}
use Rattle.arguments.specs.LawfulUses.{AreUses, IsIn, IsOfKind, is_required, lacks_some}
use Rattle.arguments.specs.Table.{commands}
use Rattle.arguments.specs.Uses.{Use, entry_in, is_used, value_in}
use Rattle.arguments.proofs.KnownLemmas.{ParameterFacts, so, known_of, default_for, default_row, flag, given, leaf, number, taken}
use Rattle.arguments.proofs.NumberLemmas.{number_read, parser_for}
use Rattle.arguments.proofs.UseLemmas.{row_in, rows_in}
use Rattle.arguments.proofs.WalkLemmas.{at_row_none}

-- the first row with this id
abbrev pub lookup : Text → List Row → Option Row
lookup id rows = find (λ r. bytes_eq r.id id) rows

-- the rows, and the defaults of the arguments that have no row
abbrev pub completed : Shape → List Row → List Row
completed s rows = fold with_default rows s.rules

-- ---- rows once the defaults are filled in

is_found : {X : Type 0} (p : X → Bool) (xs : List X) → is_some (find p xs) ≡ list_any p xs
is_found p [] = refl
is_found p (x ∷ xs) = grind (arith, is_found p xs)

pub find_none : {X : Type 0} (p : X → Bool) (xs : List X) → list_any p xs ≡ false → find p xs ≡ None
find_none p xs none = grind (arith, is_found p xs, none)

-- Once the default of a rule is added, the row that is found for an id is the row that was found before. If there was
-- none, it is the row of the rule's default, or `later` if the rule has another id or no default.
default_found : (id : Text) (rows : List Row) (a : Rule) (later : Option Row)
    → option_or (lookup id (with_default rows a)) later
    ≡ option_or (lookup id rows) (cond (is_some (slice_get a.defaults 0) && bytes_eq a.id id) (Some (default_row a)) later)
default_found id rows a later = grind (arith, is_found (λ (r : Row). bytes_eq r.id id) rows, find-append {X = Row}, (bytes_eq-Decides a.id id).0, at_row_none)

all_found : (id : Text) (c : List Rule) (rows : List Row) → lookup id (fold with_default rows c) ≡ option_or (lookup id rows) (default_for id c)
all_found id [] rows = grind arith
all_found id (a ∷ c) rows = all_found id c (with_default rows a) ∙ default_found id rows a (default_for id c)

-- if no default is faulty by itself, the defaults have no fault
pub no_default_fault : (c : List Rule) (rows : List Row) → map (default_fault []) c ≡ map (λ _. []) c → defaults_fault rows c ≡ []
unfolding defaults_fault
no_default_fault [] rows fine = refl
no_default_fault (a ∷ c) rows fine =
    let first = ap (λ ks. get_or ks 0 []) fine in
    let remainder = no_default_fault c (with_default rows a) (ap (drop 1) fine) in
    grind arith

-- ---- the values that uses give

pub rows_have : (name : Text) (uses : List Use) → has_row name (rows_in uses) ≡ is_used name uses
rows_have name [] = refl
rows_have name (u ∷ more) = ap (λ b. bytes_eq (entry_in u).name name || b) (rows_have name more)

-- if an argument's value is of its kind, a request takes this value from the argument's row
value_taken : (k : ValueKind) (name v : Text) → IsOfKind k v
    → taken k (Some (record { id = name; values = v ∷ []; count = None; source = Some CommandLine; reading = reading_of (parser_for k) })) ≡ given k v true
value_taken kind.Text name v h = refl
value_taken kind.Flag name v h = ap (λ t. flag (bytes_eq t (codes "true"))) h
value_taken (kind.Number least most) name v h = ap number (number_read least most v h)
value_taken (kind.OptionalNumber least most) name v h = ap number (number_read least most v h)

-- if all members of a list fail a test, and each member that fails it has a property, all members have the property
each_failing : {X : Type 0} (P : X → Type 0) (p : X → Bool) (xs : List X) → list_any p xs ≡ false → ((x : X) → IsIn x xs → p x ≡ false → P x)
    → AllByRecursion P xs
each_failing P p [] none all = tt
each_failing P p (x ∷ xs) none all =
    let parts = or_parts (p x) (list_any p xs) none in
    (all x (inl refl) parts.0, each_failing P p xs parts.1 (λ y here. all y (inr here)))

-- a test: there is a row, and it comes from a use, not from a default
abbrev explicit : Option Row → Bool
explicit row = option_map_or (λ (r : Row). explicit_source r.source) row false

not_given : (name : Text) (c : List Rule) → explicit (default_for name c) ≡ false
not_given name [] = refl
not_given name (a ∷ c) = cond_both _ (Some (default_row a)) (default_for name c) (λ o. explicit o ≡ false) (λ _. refl) (λ _. not_given name c)

used_given : (default : Option Row) → explicit default ≡ false → (name : Text) (uses : List Use)
    → explicit (option_or (lookup name (rows_in uses)) default) ≡ is_used name uses
used_given default none name [] = none
used_given default none name (u ∷ more) = grind (arith, used_given default none name more)

-- a request takes the given value of each of these arguments
abbrev pub AllTaken : List Entry → List Use → List Row → Type 0
AllTaken es uses rows = AllByRecursion (λ e. taken e.kind (lookup e.name rows) ≡ given e.kind (text_given e uses) (is_used e.name uses)) es

module _ (command : Command) (here : IsIn command commands) where
  abbrev c : List Rule
  c = (leaf command).rules

  -- two arguments with the same name are the same argument
  same_entry : (e e' : Entry) → IsIn e command.parameters → IsIn e' command.parameters → bytes_eq e'.name e.name ≡ true → e' ≡ e
  same_entry e e' there there' named =
      let named_by = λ (name : Text). find (λ e. bytes_eq e.name name) command.parameters in
      same_Some e' e (sym (ap (λ (f : ParameterFacts). f.same_name) (known_of command here e' there')) ∙ ap named_by ((bytes_eq-Decides _ _).0 named)
      ∙ ap (λ (f : ParameterFacts). f.same_name) (known_of command here e there))

  -- if an argument isn't missing, a request takes its given value, from the rows of the uses or from the default
  uses_taken : (e : Entry) (uses : List Use) → IsIn e command.parameters → AreUses command uses → (is_required e && not (is_used e.name uses)) ≡ false
      → taken e.kind (option_or (lookup e.name (rows_in uses)) (default_for e.name c)) ≡ given e.kind (text_given e uses) (is_used e.name uses)
  uses_taken e [] there are whole = so (ap (λ (f : ParameterFacts). f.default) (known_of command here e there)) (ap not whole)
  uses_taken e (u ∷ more) there are whole = ⊎_elim
      (λ is. rw is (subst (λ x. taken x.kind (Some (row_in u)) ≡ given x.kind (value_in u) true)
      (same_entry e (entry_in u) there are.0.parameter is) (value_taken (entry_in u).kind (entry_in u).name (value_in u) are.0.taken)))
      (λ other. rw other (uses_taken e more there are.2 (rw other at whole)))
      (cases_Bool (bytes_eq (entry_in u).name e.name))

  -- if no required argument is missing, a request takes the given value of each argument of the command
  pub all_taken : (uses : List Use) → AreUses command uses → lacks_some command uses ≡ false
      → AllTaken command.parameters uses (completed (leaf command) (rows_in uses))
  all_taken uses are whole = each_failing _ (λ e. is_required e && not (is_used e.name uses)) command.parameters whole
      (λ e there has. ap (taken e.kind) (all_found e.name c (rows_in uses)) ∙ uses_taken e uses there are has)

  -- once the defaults are filled in, an argument still counts as given if and only if it is used
  pub given_used : (name : Text) (uses : List Use) → takes.is_given name (completed (leaf command) (rows_in uses)) ≡ is_used name uses
  given_used name uses = ap explicit (all_found name c (rows_in uses)) ∙ used_given (default_for name c) (not_given name c) name uses
