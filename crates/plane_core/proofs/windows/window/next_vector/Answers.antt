use Rattle.std.proofs.Common.{refl}
use Rattle.plane_core.proofs.windows.window.next_vector.Goals as goal

pub returns : goal.returns
returns g c = record {
  next = c.next_cells.result;
  is = refl;
  answers = c.next_cells.ensures;
  sums = c.across-below.ensures.all;
  beside = c.across-below.ensures.beside;
}
