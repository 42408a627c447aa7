use Rattle.std.proofs.Common.{refl, rules}
use Rattle.std.proofs.lemmas.Bool.{false≢true}
use Rattle.plane_core.proofs.lemmas.engine.FrameFits.{before_left, before_top, fits_bottom, fits_frame_columns, fits_right, fits_signed_columns, fits_signed_rows}
use Rattle.plane_core.proofs.lemmas.engine.FrameFits.{in_frame, past_bottom, past_right}
use Rattle.plane_core.proofs.engine.frame.Frame.has.Goals.{then-cell-self-via-then-cell-self, then-cell-self-via-else-cell-self+then-cell-self-2}
use Rattle.plane_core.proofs.engine.frame.Frame.has.Goals.{then-cell-self-3-via-then-cell-self-3, then-cell-self-3-via-else-cell-self-3+then-cell-self-4}
use Rattle.plane_core.proofs.engine.frame.Frame.has.Goals as goal

pub overflow_mul-self : goal.overflow_mul-self
overflow_mul-self c = fits_frame_columns c.args.self c.requires

pub overflow_cast-self : goal.overflow_cast-self
overflow_cast-self c = fits_signed_columns c.args.self c.requires

pub overflow_add-self : goal.overflow_add-self
overflow_add-self c = fits_right c.args.self c.requires

pub overflow_cast-self-else-cell-self-3 : goal.overflow_cast-self-else-cell-self-3
overflow_cast-self-else-cell-self-3 c = fits_signed_rows c.args.self c.requires

pub overflow_add-self-else-cell-self-3 : goal.overflow_add-self-else-cell-self-3
overflow_add-self-else-cell-self-3 c = fits_bottom c.args.self c.requires

pub returns-then-cell-self : goal.returns-then-cell-self
returns-then-cell-self c = (
  λ e. absurd (false≢true e),
  λ within. elim c.then-cell-self.branch [
    | then-cell-self-via-then-cell-self w ↦
        absurd (before_left c.args.self c.args.cell (search rules) c.requires w.if-cell-self.true within)
    | then-cell-self-via-else-cell-self+then-cell-self-2 w ↦
        absurd (past_right c.args.self c.args.cell (search rules) c.requires w.if-cell-self-2.true within)
  ],
)

pub returns-then-cell-self-3 : goal.returns-then-cell-self-3
returns-then-cell-self-3 c = (
  λ e. absurd (false≢true e),
  λ within. elim c.then-cell-self-3.branch [
    | then-cell-self-3-via-then-cell-self-3 w ↦
        absurd (before_top c.args.self c.args.cell (search rules) c.requires w.if-cell-self-3.true within)
    | then-cell-self-3-via-else-cell-self-3+then-cell-self-4 w ↦
        absurd (past_bottom c.args.self c.args.cell (search rules) c.requires w.if-cell-self-4.true within)
  ],
)

pub returns : goal.returns
returns c = (
  λ e.
      in_frame c.args.self c.args.cell (search rules) (search rules) c.requires c.if-cell-self.false c.if-cell-self-2.false c.if-cell-self-3.false
      c.if-cell-self-4.false,
  λ within. refl,
)
