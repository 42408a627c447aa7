-- How many objects there are of each apgcode, and whether the objects stay for good.
use Rattle.std.specs.Prelude.{◌≡◌, ◌≢◌, ◌*◌, ◌+◌, ◌≤◌, ℕ, Bool, List, All, IfSome, count_by, sum, unwrap_or, if◌then◌else◌}
use Rattle.std.specs.Cmp.Lexicographic.{slice_cmp}
use Rattle.std.specs.List.{AllZip}
use Rattle.std.specs.List.Sorted.{IsStrictlySortedBy}
use Rattle.std.specs.Map.{keys_of, lookup, values_of}
use Rattle.std.specs.Ordering.{is_eq, nat_cmp}
use Rattle.plane_core.specs.declared.plane.cell.Cell.{Cell}
use Rattle.plane_core.specs.plane.Rules.{Numbers}
use Rattle.code_core.specs.declared.apgcode.Kind.{Kind}
use Rattle.code_core.specs.declared.apgcode.Kind.TheVariants.{Still, Oscillator, Ship}
use Rattle.code_core.specs.Apgcodes.{kind_in, number_in}
use Rattle.code_core.specs.Names.{IsCode}

-- the two texts are equal
abbrev pub is_code : List ℕ → List ℕ → Bool
is_code a b = is_eq (slice_cmp nat_cmp a b)

-- the number of objects with this code: the count beside the code, or 0
abbrev pub count_of : List (List ℕ × ℕ) → List ℕ → ℕ
count_of objects code = unwrap_or (lookup (is_code code) objects) 0

-- a list of objects: codes in ASCII order, each once, and each with a count of at least 1
pub record AreObjects (objects : List (List ℕ × ℕ)) : Type 0 where
  pub in_order : IsStrictlySortedBy (slice_cmp nat_cmp) (keys_of objects)
  pub some : All (λ object. 1 ≤ object.1) objects

-- no code in the list has a count of 0
abbrev pub CountsAreSome : List (List ℕ × ℕ) → Type 0
CountsAreSome objects = (code : List ℕ) → IfSome (lookup (is_code code) objects) (λ n. 1 ≤ n)

-- there is one more object with this code, and no other count has changed
pub record IsOneMore (code : List ℕ) (old new : List (List ℕ × ℕ)) : Type 0 where
  pub counts : (other : List ℕ) → count_of new other ≡ count_of old other + (if is_code other code then 1 else 0)
  pub some : CountsAreSome old → CountsAreSome new
  pub number : sum (values_of new) ≡ sum (values_of old) + 1

-- a cluster is counted under its code
pub record IsCounted (rule : Numbers) (limit : ℕ) (cluster : List Cell) (old new : List (List ℕ × ℕ)) : Type 0 where
  pub code : List ℕ
  pub named : IsCode rule cluster limit code
  pub more : IsOneMore code old new

-- the objects of some clusters: each cluster has its code, and the count of a code is the number of clusters that have
-- it
pub record AreObjectsOf (rule : Numbers) (limit : ℕ) (clusters : List (List Cell)) (objects : List (List ℕ × ℕ)) : Type 0 where
  pub lawful : AreObjects objects
  pub codes : List (List ℕ)
  pub named : AllZip (λ cluster code. IsCode rule cluster limit code) clusters codes
  pub counts : (code : List ℕ) → count_of objects code ≡ count_by (is_code code) codes

-- the period of an object of this kind, given the number in its code: 1 for a still life
abbrev pub period_of_kind : Kind → ℕ → ℕ
period_of_kind Still number = 1
period_of_kind Oscillator number = number
period_of_kind Ship number = number

-- the period of the object with this code
abbrev pub period_in : List ℕ → ℕ
period_in code = period_of_kind (kind_in code) (number_in code)

-- m is a multiple of n
abbrev pub IsMultiple : ℕ → ℕ → Type 0
IsMultiple m n = (k : ℕ) × (m ≡ k * n)

-- m is 1 or more, and a multiple of the period of each object
pub record IsCommonMultiple (objects : List (List ℕ × ℕ)) (m : ℕ) : Type 0 where
  pub some : 1 ≤ m
  pub each : All (λ object. IsMultiple m (period_in object.0)) objects

-- m is the least common multiple of the periods of the objects
pub record IsLeastCommonMultiple (objects : List (List ℕ × ℕ)) (m : ℕ) : Type 0 where
  pub common : IsCommonMultiple objects m
  pub least : (n : ℕ) → IsCommonMultiple objects n → m ≤ n

-- Objects stay for good if none of them is a spaceship, and if the least common multiple of their periods is at most
-- the horizon.
pub record StayForGood (horizon : ℕ) (objects : List (List ℕ × ℕ)) : Type 0 where
  pub none : All (λ object. kind_in object.0 ≢ Ship) objects
  pub multiple : ℕ
  pub least : IsLeastCommonMultiple objects multiple
  pub within : multiple ≤ horizon
