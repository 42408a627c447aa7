use Rattle.std.proofs.Common.{◌≤◌, ℕ, ℤ, arith, of_z, refl, rules, to_z, unsigned_abs, w32, FitsSigned}
use Rattle.std.proofs.lemmas.Int.{to_z-of_z}
use Rattle.std.proofs.lemmas.Result.{IfOk-from_err}
use Rattle.plane_core.proofs.lemmas.engine.CoverLemmas.{below_end, few_columns, few_rows, none_above, row_is, row_near, rows_more, spans_begin, wider_bound}
use Rattle.plane_core.proofs.engine.cover.lay_rows.Goals as goal

-- a number that fits in 32 bits and is within n is still within n after a conversion to 32 bits and back
passed : (x : ℤ) (n : ℕ) → FitsSigned w32 x → unsigned_abs x ≤ n → unsigned_abs (to_z w32 (of_z w32 x)) ≤ n
passed x n fits low = rw (to_z-of_z w32 x fits) low

pub side_by_side-across-requires-clause-first : goal.side_by_side-across-requires-clause-first
side_by_side-across-requires-clause-first c = passed c.args.rectangle.left _ (search rules) c.requires.left

pub side_by_side-across-requires-clause-last : goal.side_by_side-across-requires-clause-last
side_by_side-across-requires-clause-last c = passed c.args.rectangle.right _ (search rules) c.requires.right

pub side_by_side-down-requires-clause-first : goal.side_by_side-down-requires-clause-first
side_by_side-down-requires-clause-first c = passed c.args.rectangle.top _ (search rules) c.requires.top

pub side_by_side-down-requires-clause-last : goal.side_by_side-down-requires-clause-last
side_by_side-down-requires-clause-last c = passed c.args.rectangle.bottom _ (search rules) c.requires.bottom

columns : 56 ≤ 64
columns = omega arith

pub lay_row-requires-clause-first : goal.lay_row-requires-clause-first
lay_row-requires-clause-first c =
    wider_bound c.side_by_side-across.result.first (spans_begin _ _ 56 c.side_by_side-across.result c.side_by_side-across.ensures columns
    (passed c.args.rectangle.left _ (search rules) c.requires.left))

pub lay_row-requires-clause-count : goal.lay_row-requires-clause-count
lay_row-requires-clause-count c =
    few_columns _ _ c.side_by_side-across.result c.side_by_side-across.ensures
    (passed c.args.rectangle.left _ (search rules) c.requires.left)
    (passed c.args.rectangle.right _ (search rules) c.requires.right)

pub returns-in_err-lay_row-clause-kept : goal.returns-in_err-lay_row-clause-kept
returns-in_err-lay_row-clause-kept c = IfOk-from_err _ _ c.from_residual.ensures.0

pub returns-in_err-lay_row-clause-laid : goal.returns-in_err-lay_row-clause-laid
returns-in_err-lay_row-clause-laid c = IfOk-from_err _ _ c.from_residual.ensures.0

pub returns-clause-kept : goal.returns-clause-kept
returns-clause-kept c = c.loop-laid.invariant.kept

pub loop-laid-init : goal.loop-laid-init
loop-laid-init c =
    let top : FitsSigned w32 c.args.rectangle.top = search rules in
    record {
      few = omega arith;
      kept = λ d some. some;
      laid = λ d within above.
          absurd (none_above d.y c.args.rectangle.top c.side_by_side-down.result.first (simp to_z-of_z at c.side_by_side-down.ensures.start)
          within.top above);
    }

pub lay_row-requires-clause-top : goal.lay_row-requires-clause-top
lay_row-requires-clause-top c =
    let bottom : FitsSigned w32 c.args.rectangle.bottom = search rules in
    let first : FitsSigned w32 c.side_by_side-down.result.first = search rules in
    let begins = spans_begin _ _ _ c.side_by_side-down.result c.side_by_side-down.ensures (omega (arith, c.window_rows-rows.ensures.few))
    (passed c.args.rectangle.top _ (search rules) c.requires.top) in
    let length = few_rows c.side_by_side-down.result.first c.args.rectangle.bottom _ (simp to_z-of_z at c.abs_diff-length.ensures) begins c.requires.bottom in
    row_near c.side_by_side-down.result.first c.loop-laid.laid (omega (arith, c.loop-laid-test.true, length)) begins

pub loop-laid-preserved : goal.loop-laid-preserved
loop-laid-preserved c =
    let left : FitsSigned w32 c.args.rectangle.left = search rules in
    let right : FitsSigned w32 c.args.rectangle.right = search rules in
    let bottom : FitsSigned w32 c.args.rectangle.bottom = search rules in
    let first : FitsSigned w32 c.side_by_side-down.result.first = search rules in
    let begins = spans_begin _ _ _ c.side_by_side-down.result c.side_by_side-down.ensures (omega (arith, c.window_rows-rows.ensures.few))
    (passed c.args.rectangle.top _ (search rules) c.requires.top) in
    let length = few_rows c.side_by_side-down.result.first c.args.rectangle.bottom _ (simp to_z-of_z at c.abs_diff-length.ensures) begins c.requires.bottom in
    let row = row_is c.side_by_side-down.result.first c.loop-laid.laid (omega (arith, c.loop-laid-test.true, length)) begins in
    record {
      few = omega (arith, c.loop-laid-test.true, c.window_rows-rows.ensures.some, c.window_rows-rows.ensures.few);
      kept = λ d some. c.in_ok-lay_row.ensures.kept d (c.loop-laid.invariant.kept d some);
      laid = rows_more c.args.rectangle c.side_by_side-across.result c.side_by_side-down.result.first _ c.loop-laid.laid c.window_rows-rows.result _
          c.loop-laid.windows.items c.lay_row.new.windows.items row (omega (arith, c.window_rows-rows.ensures.some)) refl
          (simp to_z-of_z at c.side_by_side-across.ensures) c.loop-laid.invariant.laid c.in_ok-lay_row.ensures.kept c.in_ok-lay_row.ensures.laid;
    }

pub returns-clause-laid : goal.returns-clause-laid
returns-clause-laid c = λ d within.
    let bottom : FitsSigned w32 c.args.rectangle.bottom = search rules in
    let first : FitsSigned w32 c.side_by_side-down.result.first = search rules in
    c.loop-laid.invariant.laid d within
    (below_end d.y c.args.rectangle.bottom c.side_by_side-down.result.first _ c.loop-laid.laid within.bottom
    (simp to_z-of_z at c.abs_diff-length.ensures) (omega (arith, c.loop-laid-test.false)))
