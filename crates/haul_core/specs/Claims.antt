-- Which lines are lines of claims, and where the first fault of any other line is.
use Rattle.std.specs.Prelude.{◌≡◌, ◌⊎◌, ◌++◌, ℕ, List, [], ◌∷◌, codes, decimal, flat_map, length}
use Rattle.haul_core.specs.FieldSteps.{Lacks}
use Rattle.haul_core.specs.HaulTexts.{line_of}
use Rattle.ranges.specs.RangeListSteps.{has_byte}
use Rattle.haul_core.specs.ReportLines.{claim_line, found_fields, head_fields}
use Rattle.haul_core.specs.LawfulClaims.{Claimed, IsClaim}
use Rattle.haul_core.specs.declared.report.claim.read_line.LineError.{LineError}
use Rattle.haul_core.specs.declared.report.claim.read_line.LineError.TheVariants.{BadLine, Memory}

-- the bytes are the line of a lawful claim
pub record IsClaimLine (line : List ℕ) : Type 0 where
  pub claim : Claimed
  pub lawful : IsClaim claim
  pub spelled : claim_line claim ≡ line

-- all fields of a claim's line
abbrev pub fields_of : Claimed → List (List ℕ)
fields_of claim = codes "report" ∷ (head_fields claim ++ found_fields claim.found)

-- these are the first fields of some lawful claim
pub record BeginClaim (fields : List (List ℕ)) : Type 0 where
  pub claim : Claimed
  pub lawful : IsClaim claim
  pub more : List (List ℕ)
  pub spelled : fields_of claim ≡ fields ++ more

-- fields with a space after each
abbrev pub followed : List (List ℕ) → List ℕ
followed fields = flat_map (λ field. field ++ codes " ") fields

-- A field begins at the place, and ends before the next space (32) or at the end of the line. The fields before it are
-- the first fields of some claim. With this field added, they are the first fields of no claim.
pub record IsBadField (line : List ℕ) (place : ℕ) : Type 0 where
  pub before : List (List ℕ)
  pub field : List ℕ
  pub remainder : List ℕ
  pub spelled : line ≡ followed before ++ (field ++ remainder)
  pub whole : Lacks 32 field × ((remainder ≡ []) ⊎ has_byte 32 remainder)
  pub begins : BeginClaim before
  pub there : ¬ BeginClaim (before ++ field ∷ [])
  pub is : place ≡ length (followed before)

-- The fields of the line are the first fields of some claim, and at least one more field is missing. The place is the
-- line's length.
pub record LacksField (line : List ℕ) (place : ℕ) : Type 0 where
  pub first : List ℕ
  pub more : List (List ℕ)
  pub spelled : line ≡ line_of first more
  pub begins : BeginClaim (first ∷ more)
  pub short : ¬ IsClaimLine line
  pub is : place ≡ length line

-- the leftmost fault of a line
abbrev pub IsFirstFaultOf : List ℕ → ℕ → Type 0
IsFirstFaultOf line place = IsBadField line place ⊎ LacksField line place

-- the message of an error
abbrev pub error_text : LineError → List ℕ
error_text (BadLine place) = codes "bad line at " ++ decimal place
error_text (Memory error) = codes "out of memory"
