-- The arguments of a call, one after another: how each argument is read, and which rows the arguments leave.
use Rattle.std.proofs.Common.{arith, ◌≡◌, ◌∙◌, ◌++◌, ◌||◌, ◌⊎◌, ℕ, true, false, cond, Option, None, Some, List, [], ◌∷◌, codes, append-nil, append_assoc, ap}
use Rattle.std.proofs.Common.{bytes_eq, inl, map, not, refl, sym, subst, ⊎_elim}
use Rattle.std.specs.Str.Parse.{starts_with_minus}
use Rattle.std.proofs.Math.Bool.{and-false, or-false, or-true}
use Rattle.std.proofs.lemmas.List.Folds.{list_any-append}
use Rattle.std.proofs.lemmas.Slice.Eq.{bytes_eq-Decides}
use Rattle.clap.specs.Words.{Kinds, Row, Shape, Text}
use Rattle.clap.specs.Faults.{step_fault}
use Rattle.clap.specs.Walk.{Held, arg_by_index, has_row, idle, nothing_held, option, to_positional, value}
use Rattle.clap.specs.declared.parser.matches.ValueSource.TheVariants.{CommandLine}
use Rattle.clap.proofs.KindLemmas.{value_kinds-ok}
use Rattle.arguments.specs.declared.options.ValueKind.{ValueKind}
use Rattle.arguments.specs.declared.options.ValueKind.TheVariants as kind
use Rattle.arguments.specs.Entries.{Command, Entry}
use Rattle.arguments.specs.LawfulUses.{AreUses, IsIn, IsNotOfKind, IsOfKind, IsUse}
use Rattle.arguments.specs.Table.{commands}
use Rattle.arguments.specs.Uses.{IsBare, Stands, Use, alone, attached, entry_in, flagged, is_flag, is_used, spaced}
use Rattle.arguments.specs.Uses.{value_in, arguments_in, arguments_of}
use Rattle.arguments.proofs.KnownLemmas.{ParameterFacts, asks, faults_of, goes_alone, holding, known_of, leaf, lone, reacts, row_of, rows_with, so, stands_alone}
use Rattle.arguments.proofs.KnownLemmas.{takes_value}
use Rattle.arguments.proofs.NumberLemmas.{kind_accepted, no_sign, parser_for}
use Rattle.arguments.proofs.WalkLemmas.{after, at, at_row_none, met, or_else_nil, plain_met, run, settling, turn}

-- the row of a use
abbrev pub row_in : Use → Row
row_in u = row_of (entry_in u) (value_in u) CommandLine

abbrev pub rows_in : List Use → List Row
rows_in uses = map row_in uses

-- the value of a use is of its kind, or is known not to be of its kind
abbrev pub HasOrLacks : Use → Type 0
HasOrLacks u = IsOfKind (entry_in u).kind (value_in u) ⊎ IsNotOfKind (entry_in u).kind (value_in u)

-- a value that is an argument by itself doesn't begin with `-`, if it is of its kind or known not to be of its kind
pub bare_value : (k : ValueKind) (v : Text) → is_flag k ≡ false → IsBare k v → IsOfKind k v ⊎ IsNotOfKind k v → starts_with_minus v ≡ false
bare_value kind.Text v no_flag bare of = bare
bare_value kind.Flag v no_flag bare of = cc
bare_value _ v no_flag bare of = ⊎_elim (λ n. (no_sign v n.numeral).0) (λ n. n.0) of

-- ---- the arguments of a use

-- A place in the arguments of a command. Settling what is held there has no fault, and gives these rows. The position
-- is 2 if the positional argument has been given, and otherwise 1.
pub record IsAt (command : Command) (h : Held) (position : ℕ) (rows : List Row) : Type 0 where
  pub settles : settling (leaf command) h ≡ ([], holding rows None)
  pub place : position ≡ cond {A = ℕ} (has_row (lone command) rows) 2 1

-- The arguments of a use lead from one place to another. If a use is `--name VALUE` or a positional value, `clap`
-- settles the value only when the next use begins. So the faults of a use are the faults in its arguments (`told`) or,
-- if there are none, the faults of settling what is held.
pub record Step (command : Command) (h : Held) (position : ℕ) (rows : List Row) (arguments : List Text) (e : Entry) (v : Text) : Type 0 where
  pub told : Kinds
  pub kept : List Row
  pub pending : Option (Text × List Text)
  pub end : ℕ
  pub runs : (more : List Text) → run (leaf command) (at h position) (arguments ++ more) ≡ after told (run (leaf command) (at (holding kept pending) end) more)
  pub settles : after told (settling (leaf command) (holding kept pending)) ≡ (faults_of e v rows, holding (rows_with e v rows) None)
  pub place : end ≡ cond {A = ℕ} (has_row (lone command) rows || (stands_alone e || false)) 2 1

module _ (command : Command) (here : IsIn command commands) {h : Held} {position : ℕ} {rows : List Row} (is : IsAt command h position rows) where
  abbrev s : Shape
  s = leaf command

  -- the step of an argument that is a whole use, such as `--first=7` or a flag
  react_step : (e : Entry) (v argument : Text) → stands_alone e ≡ false → met s idle h position argument ≡ reacts (settling s h) e v
      → Step command h position rows (argument ∷ []) e v
  react_step e v argument named meets = record {
    told = faults_of e v rows;
    kept = rows_with e v rows;
    pending = None;
    end = position;
    runs = λ more. turn s idle h position argument more _ (meets ∙ (λ j. reacts (is.settles j) e v))
        ∙ ap (λ ks. after ks (run s (at (holding (rows_with e v rows) None) position) more)) (or_else_nil (faults_of e v rows));
    settles = λ j. (or_else_nil (faults_of e v rows) j, holding (rows_with e v rows) None);
    place = is.place ∙ simp (named, or-false);
  }

  -- the step of arguments after which the value v is held
  hold_step : (e : Entry) (v : Text) (arguments : List Text) (end : ℕ) → IsIn e command.parameters → is_flag e.kind ≡ false
      → end ≡ cond {A = ℕ} (has_row (lone command) rows || (stands_alone e || false)) 2 1
      → ((more : List Text) → run s (at h position) (arguments ++ more) ≡ run s (at (holding rows (Some (e.name, v ∷ []))) end) more)
      → Step command h position rows arguments e v
  hold_step e v arguments end there no_flag place runs = record {
    told = [];
    kept = rows;
    pending = Some (e.name, v ∷ []);
    end = end;
    runs = runs;
    settles = so (ap (λ (f : ParameterFacts). f.settles rows v) (known_of command here e there)) (ap not no_flag);
    place = place;
  }

  -- the use fits the place: a positional value fits only if none was given before, and every other use fits
  abbrev pub Fits : Use → Type 0
  Fits (alone e v) = position ≡ 1
  Fits u = Unit {0}

  pub use_step : (u : Use) → IsIn (entry_in u) command.parameters → Stands u → HasOrLacks u → Fits u
      → Step command h position rows (arguments_of u) (entry_in u) (value_in u)
  use_step (alone e v) there stands of first =
      let lonely : stands_alone e ≡ true = rw (stands.0, stands.1) refl in
      let bare = bare_value e.kind v stands.1 stands.2 of in
      let goes = (λ j. (to_positional s.rules (arg_by_index s.rules (first j)) v (at h (first j)) h, step_fault s (first j) h value))
      ∙ so (ap (λ (f : ParameterFacts). f.alone h v) (known_of command here e there)) lonely
      ∙ ap (λ b. goes_alone b h (settling s h) e v) (and-false _) ∙ (λ j. goes_alone false h (is.settles j) e v) in
      hold_step e v (v ∷ []) 2 there stands.1 (simp (lonely, or-true))
      (λ more. turn s idle h position v more _ (plain_met s idle h position v bare) ∙ ap (λ p. after p.1 (run s p.0 more)) goes)
  use_step (spaced e v) there stands of fits =
      let argument : Text = codes "--" ++ e.name in
      let asking = holding rows (Some (e.name, [])) in
      let bare = bare_value e.kind v stands.1 stands.2 of in
      let takes : takes_value e ≡ true = rw (stands.0, stands.1) refl in
      let first = so (ap (λ (f : ParameterFacts). f.spaced h position) (known_of command here e there)) takes ∙ (λ j. asks (is.settles j) e) in
      let second = plain_met s (option e.name) asking position v bare ∙ ap (λ (f : ParameterFacts). (f.valued rows v, [])) (known_of command here e there) in
      hold_step e v (argument ∷ v ∷ []) position there stands.1 (is.place ∙ simp (stands.0, or-false))
      (λ more. turn s idle h position argument (v ∷ more) _ first ∙ turn s (option e.name) asking position v more _ second)
  use_step (attached e v) there stands of fits =
      let takes : takes_value e ≡ true = rw (stands.0, stands.1) refl in
      react_step e v (codes "--" ++ (e.name ++ (codes "=" ++ v))) (rw stands.0 refl)
      (so (ap (λ (f : ParameterFacts). f.attached h position v) (known_of command here e there)) takes)
  use_step (flagged e) there stands of fits =
      react_step e (codes "true") (codes "--" ++ e.name) (rw (stands, and-false) refl)
      (so (ap (λ (f : ParameterFacts). f.flagged h position) (known_of command here e there)) stands)

-- ---- arguments that are read

-- the arguments lead without a fault from this place to another place, which has these rows
pub record ReadsOn (command : Command) (h : Held) (position : ℕ) (arguments : List Text) (rows : List Row) : Type 0 where
  pub held : Held
  pub end : ℕ
  pub is : IsAt command held end rows
  pub runs : (more : List Text) → run (leaf command) (at h position) (arguments ++ more) ≡ run (leaf command) (at held end) more

fresh_rows : (e : Entry) (v : Text) (rows : List Row) → has_row e.name rows ≡ false → rows_with e v rows ≡ rows ++ row_of e v CommandLine ∷ []
fresh_rows e v rows fresh = grind (arith, append-nil rows, at_row_none)

-- no argument of these uses has a row yet
abbrev AreFresh : List Row → List Use → Type 0
AreFresh rows uses = (name : Text) → is_used name uses ≡ true → has_row name rows ≡ false

still_fresh : (rows : List Row) (u : Use) (more : List Use) → AreFresh rows (u ∷ more) → is_used (entry_in u).name more ≡ false
    → AreFresh (rows ++ row_in u ∷ []) more
still_fresh rows u more fresh other name used =
    grind (arith, list_any-append (λ (r : Row). bytes_eq r.id name) rows (row_in u ∷ []), fresh name, (bytes_eq-Decides (entry_in u).name name).0)

module _ (command : Command) (here : IsIn command commands) where
  is_lone : (e : Entry) → IsIn e command.parameters → bytes_eq e.name (lone command) ≡ stands_alone e
  is_lone e there = ap (λ (f : ParameterFacts). f.is_lone) (known_of command here e there)

  -- a lawful use whose argument has no row yet is read without a fault, and its row is added
  read_more : (u : Use) (h : Held) (position : ℕ) (rows : List Row) → IsUse command u → has_row (entry_in u).name rows ≡ false
      → IsAt command h position rows → ReadsOn command h position (arguments_of u) (rows ++ row_in u ∷ [])
  read_more u h position rows lawful fresh is =
      let e = entry_in u in
      let v = value_in u in
      let step = use_step command here is u lawful.parameter lawful.stands (inl lawful.taken) (fits u lawful fresh) in
      let held = holding step.kept step.pending in
      let small = ap (λ (f : ParameterFacts). f.small) (known_of command here e lawful.parameter) in
      let fine : faults_of e v rows ≡ [] = rw (fresh, value_kinds-ok false (parser_for e.kind) v (kind_accepted e.kind v small lawful.taken)) refl in
      let none : (step.told ≡ []) × ((settling (leaf command) held).0 ≡ []) = grind (arith, ap (λ (p : Kinds × Held). p.0) step.settles ∙ fine) in
      let left = ap (λ (p : Kinds × Held). p.1) step.settles ∙ ap (λ rs. holding rs None) (fresh_rows e v rows fresh) in
      record {
        held = held;
        end = step.end;
        is = record {
          settles = λ j. (none.1 j, left j);
          place = step.place ∙ sym (ap (λ b. cond {A = ℕ} b 2 1) (list_any-append (λ (r : Row). bytes_eq r.id (lone command)) rows (row_in u ∷ [])
              ∙ ap (λ b. has_row (lone command) rows || (b || false)) (is_lone e lawful.parameter)));
        };
        runs = λ more. step.runs more ∙ ap (λ ks. after ks (run (leaf command) (at held step.end) more)) none.0;
      }
    where
      fits : (u : Use) → IsUse command u → has_row (entry_in u).name rows ≡ false → Fits command here is u
      fits (alone e v) lawful fresh =
          let lonely : stands_alone e ≡ true = rw (lawful.stands.0, lawful.stands.1) refl in
          let same : e.name ≡ lone command = (bytes_eq-Decides e.name (lone command)).0 (is_lone e lawful.parameter ∙ lonely) in
          is.place ∙ ap (λ b. cond {A = ℕ} b 2 1) (ap (λ id. has_row id rows) (sym same) ∙ fresh)
      fits u lawful fresh = tt

  uses_read : (uses : List Use) (h : Held) (position : ℕ) (rows : List Row) → AreUses command uses → AreFresh rows uses
      → IsAt command h position rows → ReadsOn command h position (arguments_in uses) (rows ++ rows_in uses)
  uses_read [] h position rows are fresh is =
      record { held = h; end = position; is = subst (IsAt command h position) (sym (append-nil rows)) is; runs = λ more. refl }
  uses_read (u ∷ more) h position rows are fresh is =
      let name = (entry_in u).name in
      let first = fresh name (ap (λ b. b || is_used name more) ((bytes_eq-Decides name name).1 refl)) in
      let one = read_more u h position rows are.0 first is in
      let remainder = uses_read more one.held one.end (rows ++ row_in u ∷ []) are.2 (still_fresh rows u more fresh are.1) one.is in
      record {
        held = remainder.held;
        end = remainder.end;
        is = subst (IsAt command remainder.held remainder.end) (append_assoc rows (row_in u ∷ []) (rows_in more)) remainder.is;
        runs = λ arguments. ap (run (leaf command) (at h position)) (append_assoc (arguments_of u) (arguments_in more) arguments)
            ∙ one.runs (arguments_in more ++ arguments) ∙ remainder.runs arguments;
      }

  pub all_read : (uses : List Use) → AreUses command uses → ReadsOn command nothing_held 1 (arguments_in uses) (rows_in uses)
  all_read uses are = uses_read uses nothing_held 1 [] are (λ name used. refl) (record { settles = refl; place = refl })
