-- How the least text of a pattern is found, among the texts of its phases in all orientations.
use Rattle.std.specs.Prelude.{◌≡◌, ◌<◌, ℕ, List, [], get_or, length, Option, None, Some}
use Rattle.std.specs.Ordering.{match_ordering}
use Rattle.plane_core.specs.declared.plane.cell.Cell.{Cell}
use Rattle.plane_core.specs.declared.plane.orientation.Orientation.{Orientation}
use Rattle.plane_core.specs.declared.plane.orientation.Orientation.TheVariants.{Same}
use Rattle.plane_core.specs.plane.Orientations.{turned}
use Rattle.code_core.specs.declared.recurrence.Recurrence.{Recurrence}
use Rattle.code_core.specs.Apgcodes.{code_text}
use Rattle.code_core.specs.Names.{IsLeastOf, kind_of, number_of, text_cmp}
use Rattle.code_core.specs.Texts.{text}

-- the one of two texts that comes first in the order `text_cmp`, the only text if just one is given, or `None`
abbrev pub earlier_text : Option (List ℕ) → Option (List ℕ) → Option (List ℕ)
earlier_text None b = b
earlier_text (Some a) None = Some a
earlier_text (Some a) (Some b) = match_ordering (text_cmp a b) (Some a) (Some a) (Some b)

-- t is in one of the first n groups of texts, where `IsIn k` says which texts are in group k
abbrev pub Among : (ℕ → List ℕ → Type 0) → ℕ → List ℕ → Type 0
Among IsIn n t = (k : ℕ) × (k < n) × IsIn k t

-- t is the text of the pattern in the orientation at place k of the list
abbrev pub IsImageAt : List Orientation → List Cell → ℕ → List ℕ → Type 0
IsImageAt orientations cells k t = text (turned (get_or orientations k Same) cells) ≡ Some t

-- t is the text of the pattern in some orientation
abbrev pub IsImage : List Cell → List ℕ → Type 0
IsImage cells t = (o : Orientation) × (text (turned o cells) ≡ Some t)

-- t is the text, in some orientation, of the phase at place k
abbrev pub IsImageOf : List (List Cell) → ℕ → List ℕ → Type 0
IsImageOf phases k t = IsImage (get_or phases k []) t

-- the apgcode of a pattern with these phases and this recurrence
pub record IsNameBy (cells : List Cell) (phases : List (List Cell)) (r : Recurrence) (code : List ℕ) : Type 0 where
  pub least : Option (List ℕ)
  pub is_least : IsLeastOf (Among (IsImageOf phases) (length phases)) least
  pub spelled : code ≡ code_text (kind_of r) (number_of (kind_of r) cells r) least
