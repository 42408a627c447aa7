-- A text stands for at most one list of ranges, and has its first fault at one place at most.
use Rattle.std.specs.Prelude.{◌≡◌, ℕ, List}
use Rattle.ranges.specs.declared.range.Range.{Range}
use Rattle.ranges.specs.RangeListFaults.{IsFirstListFault}
use Rattle.ranges.specs.RangeLists.{FitU64, list_text}

-- a text is the text of at most one list of ranges
abbrev pub TextsHaveOneList : Type 0
TextsHaveOneList = (one other : List Range) → FitU64 one → FitU64 other → list_text one ≡ list_text other → one ≡ other

-- a text has its first fault at one place only
abbrev pub TextsHaveOneFault : Type 0
TextsHaveOneFault = (text : List ℕ) (one other : ℕ) → IsFirstListFault text one → IsFirstListFault text other → one ≡ other
