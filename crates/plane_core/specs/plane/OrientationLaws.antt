-- The laws of the eight orientations: their products and inverses.
use Rattle.std.specs.Prelude.{◌≡◌, ℤ, List}
use Rattle.plane_core.specs.declared.plane.cell.Cell.{Cell}
use Rattle.plane_core.specs.declared.plane.orientation.Orientation.{Orientation}
use Rattle.plane_core.specs.declared.plane.orientation.Orientation.TheVariants.{Same, Quarter, Half, ThreeQuarter, Mirror, Flip, Diagonal, AntiDiagonal}
use Rattle.plane_core.specs.plane.Bounds.{shifted}
use Rattle.plane_core.specs.plane.Orientations.{turned_cell, turned}

-- the orientation, followed by a quarter turn
abbrev pub quarter_after : Orientation → Orientation
quarter_after Same = Quarter
quarter_after Quarter = Half
quarter_after Half = ThreeQuarter
quarter_after ThreeQuarter = Same
quarter_after Mirror = AntiDiagonal
quarter_after Flip = Diagonal
quarter_after Diagonal = Mirror
quarter_after AntiDiagonal = Flip

-- the orientation, followed by a mirror
abbrev pub mirror_after : Orientation → Orientation
mirror_after Same = Mirror
mirror_after Quarter = Diagonal
mirror_after Half = Flip
mirror_after ThreeQuarter = AntiDiagonal
mirror_after Mirror = Same
mirror_after Flip = Half
mirror_after Diagonal = Quarter
mirror_after AntiDiagonal = ThreeQuarter

-- the product of two orientations: a followed by b, where b is written as quarter turns, or as a mirror followed by
-- quarter turns
abbrev pub product : Orientation → Orientation → Orientation
product a Same = a
product a Quarter = quarter_after a
product a Half = quarter_after (quarter_after a)
product a ThreeQuarter = quarter_after (quarter_after (quarter_after a))
product a Mirror = mirror_after a
product a AntiDiagonal = quarter_after (mirror_after a)
product a Flip = quarter_after (quarter_after (mirror_after a))
product a Diagonal = quarter_after (quarter_after (quarter_after (mirror_after a)))

-- the product of orientations is associative
abbrev pub ProductAssociates : Type 0
ProductAssociates = (a b c : Orientation) → product (product a b) c ≡ product a (product b c)

-- `Same` is the identity of the product
abbrev pub SameIsIdentity : Type 0
SameIsIdentity = (a : Orientation) → (product Same a ≡ a) × (product a Same ≡ a)

-- different orientations map some cell to different cells
abbrev pub OrientationsDiffer : Type 0
OrientationsDiffer = (a b : Orientation) → ((c : Cell) → turned_cell a c ≡ turned_cell b c) → a ≡ b

-- turning by one orientation and then by another is turning by their product
abbrev pub TurningTwice : Type 0
TurningTwice = (a b : Orientation) (cells : List Cell) → turned b (turned a cells) ≡ turned (product a b) cells

-- each orientation has an inverse
abbrev pub TurningBack : Type 0
TurningBack = (a : Orientation) → (b : Orientation) × (product a b ≡ Same) × (product b a ≡ Same)

-- a pattern and its translates have the same image, if the image is moved to the corner
abbrev pub TurningMoved : Type 0
TurningMoved = (a : Orientation) (dx dy : ℤ) (cells : List Cell) → turned a (shifted dx dy cells) ≡ turned a cells
