-- The origin of the window in which a small pattern is run.
use Rattle.std.specs.Prelude.{◌≤◌, unsigned_abs}
use Rattle.plane_core.specs.declared.engine.lone_window.WindowOrigin.{WindowOrigin}

-- a window of 64 by 64 cells begins at most 950,000 columns and rows from (0, 0), far from the edge of the plane
pub record IsInland (p : WindowOrigin) : Type 0 where
  pub left : unsigned_abs p.left ≤ 950000
  pub top : unsigned_abs p.top ≤ 950000
