-- How the line of a claim is read: the head, what the line says about the soup, and then the counts.
use Rattle.std.specs.Prelude.{◌≡◌, ◌≢◌, ◌+◌, ◌++◌, ℕ, List, [], ◌∷◌, Option, None, Some, codes, get_or, take}
use Rattle.std.specs.Cmp.Lexicographic.{slice_cmp}
use Rattle.std.specs.Ordering.{nat_cmp}
use Rattle.std.specs.declared.cmp.Ordering.TheVariants.{Less}
use Rattle.haul_core.specs.declared.report.claim.read_start.LineStart.{LineStart}
use Rattle.haul_core.specs.declared.report.claim.read_start.WhenSettled.{WhenSettled}
use Rattle.haul_core.specs.Claims.{fields_of, followed}
use Rattle.haul_core.specs.HaulTexts.{line_of}
use Rattle.haul_core.specs.ReportLines.{head_fields}
use Rattle.haul_core.specs.LawfulClaims.{Claimed, IsClaim, IsCount, SaidOfSoup}

-- the seven fields of the head
abbrev pub head_of : Claimed → List (List ℕ)
head_of claim = codes "report" ∷ head_fields claim

-- what a line with these counts says about a soup; `None` if the soup is unsettled
abbrev pub said_with : Option WhenSettled → List (List ℕ × ℕ) → Option SaidOfSoup
said_with None counts = None
said_with (Some at_rest) counts = Some (record { checkpoint = at_rest.checkpoint; for_good = at_rest.for_good; counts = counts })

-- the claim of a line with this start and these counts
abbrev pub claimed : LineStart → List (List ℕ × ℕ) → Claimed
claimed start counts = record {
  version = start.version;
  job = start.job;
  worker = start.worker;
  number = start.number;
  found = said_with start.settled counts;
}

-- the line consists of these fields, separated by single spaces; there is at least one field
abbrev pub IsLineOf : List (List ℕ) → List ℕ → Type 0
IsLineOf [] line = ⊥
IsLineOf (first ∷ more) line = line ≡ line_of first more

-- the line has these fields, a space after each, and the remainder; `None` means that the line ends with the last field
abbrev pub FollowsFields : List ℕ → List (List ℕ) → Option (List ℕ) → Type 0
FollowsFields line fields None = IsLineOf fields line
FollowsFields line fields (Some remainder) = line ≡ followed fields ++ remainder

-- `more` is `head` with the field at this place filled in; the fields before this place are unchanged
pub record HasFilled (place : ℕ) (head more : LineStart) (field : List ℕ) : Type 0 where
  pub lawful : IsClaim (claimed more [])
  pub none : more.settled ≡ None
  pub spelled : take (place + 1) (head_of (claimed more [])) ≡ take place (head_of (claimed head [])) ++ field ∷ []

-- the field fills the head at this place; `None` means that no lawful claim has this field there
abbrev pub Fills : ℕ → LineStart → List ℕ → Option LineStart → Type 0
Fills place head field None = (claim : Claimed) → IsClaim claim → get_or (head_of claim) place [] ≢ field
Fills place head field (Some more) = HasFilled place head more field

-- a head that may be filled in: its fields are lawful, and it doesn't say yet that the soup settled
pub record IsHead (head : LineStart) : Type 0 where
  pub lawful : IsClaim (claimed head [])
  pub none : head.settled ≡ None

-- the first `place` fields of the head have been read
pub record HasHead (line : List ℕ) (place : ℕ) (start : LineStart) (remainder : Option (List ℕ)) : Type 0 where
  pub head : IsHead start
  pub follows : FollowsFields line (take place (head_of (claimed start []))) remainder

-- everything before the counts has been read; if the line goes on, the soup has settled
pub record HasReadStart (line : List ℕ) (start : LineStart) (remainder : Option (List ℕ)) : Type 0 where
  pub lawful : IsClaim (claimed start [])
  pub follows : FollowsFields line (fields_of (claimed start [])) remainder
  pub settled : (here : List ℕ) → remainder ≡ Some here → start.settled ≢ None

-- the last code of the counts, if there is one
abbrev pub last_code : List (List ℕ × ℕ) → Option (List ℕ)
last_code [] = None
last_code (object ∷ []) = Some object.0
last_code (object ∷ next ∷ more) = last_code (next ∷ more)

-- the code comes after the last code in ASCII order, if there is a last code
abbrev pub IsAfter : Option (List ℕ) → List ℕ → Type 0
IsAfter None code = Unit {0}
IsAfter (Some last) code = slice_cmp nat_cmp last code ≡ Less

-- a count that may come after the count whose code is `last`; any count, if there is no last code
abbrev pub MayFollow : Option (List ℕ) → (List ℕ × ℕ) → Type 0
MayFollow last object = IsCount object × IsAfter last object.0

-- everything before the counts has been read, and then these counts; if the line goes on, the soup has settled
pub record HasCounts (line : List ℕ) (start : LineStart) (counts : List (List ℕ × ℕ)) (last remainder : Option (List ℕ)) : Type 0 where
  pub lawful : IsClaim (claimed start counts)
  pub follows : FollowsFields line (fields_of (claimed start counts)) remainder
  pub settled : (here : List ℕ) → remainder ≡ Some here → start.settled ≢ None
  pub latest : last ≡ last_code counts
