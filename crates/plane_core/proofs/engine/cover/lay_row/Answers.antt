use Rattle.std.proofs.Common.{◌*ℤ◌, ◌<◌, ◌≤◌, ◌^◌, arith, unsigned_abs, ℕ, ◌*◌, ◌+ℤ◌, ◌-ℤ◌, ℤ, inl, inr, pos, w32, of_z, to_z}
use Rattle.std.proofs.lemmas.Result.{IfOk-from_err}
use Rattle.std.proofs.lemmas.Int.{ints}
use Rattle.plane_core.specs.declared.engine.leap_window.LeapWindow.{LeapWindow}
use Rattle.plane_core.specs.engine.LeapWindows.{IsInnerCell}
use Rattle.plane_core.proofs.lemmas.engine.ActiveBoxLemmas.{any_pushed}
use Rattle.plane_core.proofs.lemmas.engine.CoverLemmas.{fits_column, fits_columns, fits_count, row_more}
use Rattle.plane_core.proofs.engine.cover.lay_row.Goals as goal
use borrow.Author.Count.{falls}
use Rattle.plane_core.proofs.lemmas.Between.{BeginsAt}

begins : (first top : ℤ) (i count rows : ℕ) → i < count → count ≤ 2 ^ 20 → unsigned_abs first ≤ 2 ^ 26 → unsigned_abs top ≤ 2 ^ 26
    → BeginsAt (record {
      left = to_z w32 (of_z w32 (to_z w32 (of_z w32 (to_z w32 (of_z w32 first) +ℤ to_z w32 (of_z w32 (pos 56 *ℤ to_z w32 i)))) -ℤ pos 4));
      top = to_z w32 (of_z w32 (to_z w32 (of_z w32 top) -ℤ pos 4));
      rows = rows;
    }) (first +ℤ pos (56 * i)) (to_z w32 (of_z w32 top))
begins first top i count rows low few near high = record { left = omega (arith, ints); top = omega (arith, ints) }

pub loop-i-preserved : goal.loop-i-preserved
loop-i-preserved c =
    let at = begins c.args.across.first c.args.top c.loop-i.i c.args.across.count c.args.rows c.loop-i-test.true c.requires.count c.requires.first c.requires.top in
    record {
      kept = λ d some.
          any_pushed (λ (p : LeapWindow). IsInnerCell p d) c.loop-i.windows.items c.push.new.self.items _ c.in_ok-push.ensures.items
          (inl (c.loop-i.invariant.kept d some));
      laid = λ d row.
          any_pushed (λ (p : LeapWindow). IsInnerCell p d) c.loop-i.windows.items c.push.new.self.items _ c.in_ok-push.ensures.items (
          elim (row_more c.args.across.first c.loop-i.i (to_z w32 (of_z w32 c.args.top)) _ d at row) [
            | inl before ↦ inl (c.loop-i.invariant.laid d before)
            | inr inner ↦ inr inner
          ]
          );
    }

pub overflow_cast-column : goal.overflow_cast-column
overflow_cast-column c = fits_count c.loop-i.i c.args.across.count c.loop-i-test.true c.requires.count

pub overflow_mul-column : goal.overflow_mul-column
overflow_mul-column c = fits_columns c.loop-i.i c.args.across.count c.loop-i-test.true c.requires.count

pub overflow_add-column : goal.overflow_add-column
overflow_add-column c = fits_column c.args.across.first c.loop-i.i c.args.across.count c.loop-i-test.true c.requires.count c.requires.first

pub loop-i-smaller : goal.loop-i-smaller
loop-i-smaller c = falls _ _ c.loop-i-test.true

pub returns-in_err-push-clause-kept : goal.returns-in_err-push-clause-kept
returns-in_err-push-clause-kept c = IfOk-from_err _ _ c.from_residual.ensures.0

pub returns-in_err-push-clause-laid : goal.returns-in_err-push-clause-laid
returns-in_err-push-clause-laid c = IfOk-from_err _ _ c.from_residual.ensures.0

pub returns-clause-kept : goal.returns-clause-kept
returns-clause-kept c = c.loop-i.invariant.kept
