-- Rules by birth and survival numbers (LifeWiki, "Life-like cellular automaton" and "Rulestring").
use Rattle.std.specs.Prelude.{◌≡◌, ◌+◌, ◌-◌, ◌<◌, ◌≤◌, ◌++◌, ◌==◌, ℕ, zero, suc, Bool, true, false, not, if◌then◌else◌}
use Rattle.std.specs.Prelude.{List, [], ◌∷◌, length, take, drop, codes, unwrap_or, slice_get, nat_eq, Result, Ok, Err}
use Rattle.std.specs.List.{starts_with}
use Rattle.plane_core.specs.declared.plane.rule.RuleFault.{RuleFault}
use Rattle.plane_core.specs.declared.plane.rule.RuleFault.TheVariants.{BadRule, BirthZero}

-- A rule as two tables of answers: `births` for 1 to 8 live neighbours, and `survivals` for 0 to 8.
pub record Numbers : Type 0 where
  pub births : List Bool
  pub survivals : List Bool

-- n is a birth number. Nothing is born without live neighbours.
abbrev pub is_birth : Numbers → ℕ → Bool
is_birth rule zero = false
is_birth rule (suc n) = unwrap_or (slice_get rule.births n) false

-- n is a survival number
abbrev pub is_survival : Numbers → ℕ → Bool
is_survival rule n = unwrap_or (slice_get rule.survivals n) false

-- the tables of a rule are complete
pub record IsRule (rule : Numbers) : Type 0 where
  pub births : length rule.births ≡ 8
  pub survivals : length rule.survivals ≡ 9

-- the numbers for which the table answers true, ascending, as digits (`0` is byte 48); the first answer is for n
unfoldable pub digits : ℕ → List Bool → List ℕ
digits n [] = []
digits n (true ∷ more) = (48 + n) ∷ digits (n + 1) more
digits n (false ∷ more) = digits (n + 1) more

-- the only text of a rule, such as b3s23: `b` and the birth numbers, then `s` and the survival numbers
unfoldable pub rule_text : Numbers → List ℕ
rule_text rule = codes "b" ++ (digits 1 rule.births ++ (codes "s" ++ digits 0 rule.survivals))

-- the text is a prefix of the text of some rule
pub record BeginsRule (text : List ℕ) : Type 0 where
  pub rule : Numbers
  pub remainder : List ℕ
  pub is_rule : IsRule rule
  pub spelled : rule_text rule ≡ text ++ remainder

-- The bytes before the place are a prefix of the text of some rule. The bytes up to and including the place aren't,
-- unless the place is the end of `text`.
pub record IsFirstFault (text : List ℕ) (place : ℕ) : Type 0 where
  pub within : place ≤ length text
  pub before : BeginsRule (take place text)
  pub there : place < length text → ¬ BeginsRule (take (place + 1) text)

-- the numbers that a text begins with, as a table of answers, and the remainder of the text
pub record Reading : Type 0 where
  pub logic : List Bool
  pub remainder : List ℕ

-- the reading with one more answer in front
abbrev pub with_answer : Bool → Reading → Reading
with_answer answer read = record { logic = answer ∷ read.logic; remainder = read.remainder }

-- the text begins with the prefix
abbrev pub begins : List ℕ → List ℕ → Bool
begins text prefix = starts_with nat_eq text prefix

-- the answers for consecutive numbers from n on: true for each number whose digit comes next in the text
unfoldable pub numbers_at : ℕ → ℕ → List ℕ → Reading
numbers_at zero n text = record { logic = []; remainder = text }
numbers_at (suc more) n text =
    if begins text ((48 + n) ∷ [])
    then with_answer true (numbers_at more (n + 1) (drop 1 text))
    else with_answer false (numbers_at more (n + 1) text)

-- the fault at the place where the remainder begins
abbrev pub rule_fault_at : List ℕ → List ℕ → Result Numbers RuleFault
rule_fault_at text remainder = Err (BadRule (length text - length remainder))

-- the rule of a text, or its leftmost fault
unfoldable pub rule_read : List ℕ → Result Numbers RuleFault
rule_read text =
    let births = numbers_at 8 1 (drop 1 text) in
    let survivals = numbers_at 9 0 (drop 1 births.remainder) in
    if not (begins text (codes "b")) then Err (BadRule 0)
    else if begins text (codes "b0") then Err BirthZero
    else if not (begins births.remainder (codes "s")) then rule_fault_at text births.remainder
    else if not (length survivals.remainder == 0) then rule_fault_at text survivals.remainder
    else Ok (record { births = births.logic; survivals = survivals.logic })
