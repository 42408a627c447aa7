-- A line states at most one claim, and has at most one first fault, but not both.
use Rattle.std.specs.Prelude.{◌≡◌, ℕ, List}
use Rattle.haul_core.specs.Claims.{IsClaimLine, IsFirstFaultOf}
use Rattle.haul_core.specs.LawfulClaims.{Claimed, IsClaim}
use Rattle.haul_core.specs.ReportLines.{claim_line}

-- a line is the line of at most one lawful claim
abbrev pub LinesHaveOneClaim : Type 0
LinesHaveOneClaim = (one other : Claimed) → IsClaim one → IsClaim other → claim_line one ≡ claim_line other → one ≡ other

-- a line with a fault is the line of no lawful claim
abbrev pub FaultyLinesHaveNoClaim : Type 0
FaultyLinesHaveNoClaim = (line : List ℕ) (place : ℕ) → IsFirstFaultOf line place → ¬ IsClaimLine line

-- a line has its first fault at one place only
abbrev pub LinesHaveOneFault : Type 0
LinesHaveOneFault = (line : List ℕ) (one other : ℕ) → IsFirstFaultOf line one → IsFirstFaultOf line other → one ≡ other
