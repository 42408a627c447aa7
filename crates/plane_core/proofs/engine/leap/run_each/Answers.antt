use borrow.Author.Count.{falls}
use Rattle.std.proofs.Common.{◌≡◌, ◌<◌, ℕ, arith, inl, inr, length, pos, subst, sym, List}
use Rattle.std.specs.List.{All}
use Rattle.std.proofs.lemmas.List.Elements.{All-more, All-nil, All-same}
use Rattle.std.proofs.lemmas.Bool.{false≢true}
use Rattle.std.proofs.lemmas.Result.{IfOk-from_err}
use Rattle.plane_core.specs.declared.engine.leap_window.LeapWindow.{LeapWindow}
use Rattle.plane_core.specs.declared.plane.bounds.Bounds.{Bounds}
use Rattle.plane_core.specs.plane.Bounds.{AreSidesWithin, IsWithin}
use Rattle.plane_core.specs.engine.ActiveBoxes.{box_bound}
use Rattle.plane_core.specs.engine.LeapWindows.{IsOnBoard}
use Rattle.plane_core.proofs.lemmas.engine.ActiveBoxLemmas.{all_pushed, any_pushed, hold_all, in_reach, take_whole}
use Rattle.plane_core.proofs.lemmas.engine.LeapLemmas.{run_more}
use Rattle.plane_core.proofs.engine.leap.run_each.Goals as goal

abbrev nowhere : LeapWindow
nowhere = record { left = pos 0; top = pos 0; rows = 0 }

pub run_window-requires : goal.run_window-requires
run_window-requires g c = record {
  frame = c.requires.frame;
  long = c.requires.long;
  on_board = c.is_on_board.ensures c.if-not-is_on_board.false;
  some = c.requires.some;
  few = c.requires.few;
}

pub bounds-requires : goal.bounds-requires
bounds-requires g c = in_reach c.args.at c.requires.frame _ (c.is_on_board.ensures c.if-not-is_on_board.false)

pub returns-in_err-push-clause-on_board : goal.returns-in_err-push-clause-on_board
returns-in_err-push-clause-on_board g c = IfOk-from_err _ _ c.from_residual.ensures.0

pub returns-in_err-push-clause-run : goal.returns-in_err-push-clause-run
returns-in_err-push-clause-run g c = IfOk-from_err _ _ c.from_residual.ensures.0

pub returns-then-not-is_on_board-clause-on_board : goal.returns-then-not-is_on_board-clause-on_board
returns-then-not-is_on_board-clause-on_board g c = λ e. absurd (false≢true e)

pub returns-then-not-is_on_board-clause-run : goal.returns-then-not-is_on_board-clause-run
returns-then-not-is_on_board-clause-run g c = λ e. absurd (false≢true e)

pub loop-k-preserved : goal.loop-k-preserved
loop-k-preserved g c =
    let before = c.loop-k.boxes.items in
    let later = c.push.new.self.items in
    let at = c.args.at in
    let windows = c.args.windows.now in
    let k = c.loop-k.k in
    let low = c.loop-k-test.true in
    record {
      on_board = All-more (IsOnBoard at) windows k nowhere low c.loop-k.invariant.on_board (c.is_on_board.ensures c.if-not-is_on_board.false);
      run =
          run_more at c.args.words.now (g.A.CellLogic.rule c.args.rule.now) c.args.count windows c.loop-k.held
          before later k nowhere c.run_window.new.held c.in-Some.change c.bounds.result
          c.loop-k.invariant.run low c.in-Some.ensures c.bounds.ensures.difference
          (λ d some. any_pushed (λ (b : Bounds). IsWithin b d) before later c.in-Some-bounds.bounds c.in_ok-push.ensures.items (inl some))
          (λ d here. any_pushed (λ (b : Bounds). IsWithin b d) before later c.in-Some-bounds.bounds c.in_ok-push.ensures.items (inr (rw c.in-Some-bounds.is at here)))
          (all_pushed (AreSidesWithin box_bound) before later c.in-Some-bounds.bounds c.in_ok-push.ensures.items
          c.loop-k.invariant.run.sides c.in-Some-bounds.ensures.sides);
    }

pub loop-k-preserved-in_default-bounds : goal.loop-k-preserved-in_default-bounds
loop-k-preserved-in_default-bounds g c =
    let before = c.loop-k.boxes.items in
    let at = c.args.at in
    let windows = c.args.windows.now in
    let k = c.loop-k.k in
    let low = c.loop-k-test.true in
    record {
      on_board = All-more (IsOnBoard at) windows k nowhere low c.loop-k.invariant.on_board (c.is_on_board.ensures c.if-not-is_on_board.false);
      run =
          run_more at c.args.words.now (g.A.CellLogic.rule c.args.rule.now) c.args.count windows c.loop-k.held
          before before k nowhere c.run_window.new.held c.in-Some.change c.bounds.result
          c.loop-k.invariant.run low c.in-Some.ensures c.bounds.ensures.difference
          (λ d some. some) (λ d here. absurd (rw c.in_default-bounds.is at here)) c.loop-k.invariant.run.sides;
    }

pub returns-clause-on_board : goal.returns-clause-on_board
returns-clause-on_board g c = λ _.
    All-same (IsOnBoard c.args.at) c.args.windows.now _
    (sym (take_whole c.args.windows.now c.loop-k.k c.loop-k.auto.k-end c.loop-k-test.false)) c.loop-k.invariant.on_board

pub returns-clause-run : goal.returns-clause-run
returns-clause-run g c = λ _.
    let windows = c.args.windows.now in
    let inv = c.loop-k.invariant.run in
    let all : c.loop-k.k ≡ length windows = omega arith in
    record {
      long = inv.long;
      run = λ k p cells low. inv.run k p cells (omega (arith, low, all));
      differences = λ cells o shows. hold_all windows _ _ c.loop-k.boxes.items (λ k p d low. inv.differences cells o shows k p d (omega (arith, low, all)));
      sides = inv.sides;
    }

none_done : (k : ℕ) → k < 0 → ⊥
none_done k low = omega (arith, low)

pub loop-k-init : goal.loop-k-init
loop-k-init g c = record {
  on_board = All-nil (IsOnBoard c.args.at);
  run = record {
    long = c.requires.room;
    run = λ k p cells low. absurd (none_done k low);
    differences = λ cells o shows k p d low. absurd (none_done k low);
    sides = subst (λ (boxes : List Bounds). All (AreSidesWithin box_bound) boxes) (sym c.requires.empty) (All-nil (AreSidesWithin box_bound));
  };
}

pub loop-k-smaller : goal.loop-k-smaller
loop-k-smaller g c = falls _ _ c.loop-k-test.true

pub loop-k-smaller-in_default-bounds : goal.loop-k-smaller-in_default-bounds
loop-k-smaller-in_default-bounds g c = falls _ _ c.loop-k-test.true
