use Rattle.std.proofs.Common.{◌≡◌, ◌+◌, ◌-◌, ◌<◌, ◌≤◌, ◌∙◌, ℕ, List, ap, arith, get_or, inr, length, pos, refl, subst, sym}
use Rattle.std.specs.List.{All}
use Rattle.std.proofs.lemmas.List.{get_or_default}
use Rattle.plane_core.specs.declared.engine.leap_window.LeapWindow.{LeapWindow}
use Rattle.plane_core.specs.engine.Frames.{board_cell}
use Rattle.plane_core.specs.engine.Leaps.{ArePutBack}
use Rattle.plane_core.specs.engine.LeapWindows.{IsInnerCell, IsOnBoard}
use Rattle.plane_core.specs.declared.engine.frame.Frame.{Frame}
use Rattle.plane_core.proofs.lemmas.engine.FrameFits.{fits_word_column_beside, fits_window_end, two_word_columns, window_low}
use Rattle.plane_core.proofs.lemmas.engine.LeapLemmas.{back_more}
use Rattle.plane_core.proofs.lemmas.engine.RowSpanLemmas.{inner_held, places_more}
use Rattle.plane_core.proofs.engine.leap.put_all.Goals as goal
use borrow.Author.Count.{falls}

few : 4 ≤ 64
few = omega arith

abbrev nowhere : LeapWindow
nowhere = record { left = pos 0; top = pos 0; rows = 0 }

-- a window of the list has 8 to 64 rows
height : (at : Frame) (windows : List LeapWindow) (k : ℕ) → All (IsOnBoard at) windows → k < length windows
    → (8 ≤ (get_or windows k nowhere).rows) × ((get_or windows k nowhere).rows ≤ 64)
height at windows k on low = let here = on k nowhere low in (here.some, here.few)

back_to : {n : ℕ} → (8 ≤ n) × (n ≤ 64) → n - 4 + 4 ≡ n
back_to h = let some = h.0 in omega (arith, some)

pub loop-k-init : goal.loop-k-init
loop-k-init c = record {
  put = λ cells shown u v hu hv. inr (λ k p low. absurd (omega (arith, low)), refl);
  kept = λ s r h. h;
  covered = λ k p low. absurd (omega (arith, low));
}

pub bounds-windows-k : goal.bounds-windows-k
bounds-windows-k c = c.loop-k-test.true

pub column_of-x-requires-clause-frame : goal.column_of-x-requires-clause-frame
column_of-x-requires-clause-frame c = c.requires.frame

pub column_of-x-requires-clause-on_board : goal.column_of-x-requires-clause-on_board
column_of-x-requires-clause-on_board c = c.requires.on_board c.loop-k.k nowhere c.loop-k-test.true

pub row_of-y-requires-clause-frame : goal.row_of-y-requires-clause-frame
row_of-y-requires-clause-frame c = c.requires.frame

pub row_of-y-requires-clause-on_board : goal.row_of-y-requires-clause-on_board
row_of-y-requires-clause-on_board c = c.requires.on_board c.loop-k.k nowhere c.loop-k-test.true

pub bounds-held-k : goal.bounds-held-k
bounds-held-k c = omega (arith, c.requires.each, c.loop-k-test.true)

pub write-requires-clause-long : goal.write-requires-clause-long
write-requires-clause-long c = c.loop-k.auto.words ∙ c.requires.long

pub write-requires-clause-word_columns : goal.write-requires-clause-word_columns
write-requires-clause-word_columns c = c.column_of-x.ensures.word_columns

pub write-requires-clause-rows : goal.write-requires-clause-rows
write-requires-clause-rows c = let h = c.row_of-y.ensures.rows in omega (arith, h)

pub write-requires-clause-some : goal.write-requires-clause-some
write-requires-clause-some c = let h = (height c.args.at c.args.windows.now c.loop-k.k c.requires.on_board c.loop-k-test.true).0 in omega (arith, h)

pub write-requires-clause-few : goal.write-requires-clause-few
write-requires-clause-few c = let h = (height c.args.at c.args.windows.now c.loop-k.k c.requires.on_board c.loop-k-test.true).1 in omega (arith, h)

pub overflow_add-rows : goal.overflow_add-rows
overflow_add-rows c = fits_window_end c.row_of-y.result 4 (window_low c.args.at c.row_of-y.result _ c.requires.frame c.row_of-y.ensures.rows) few

pub overflow_add-rows-in-loop-k : goal.overflow_add-rows-in-loop-k
overflow_add-rows-in-loop-k c =
    fits_window_end c.row_of-y.result _ (window_low c.args.at c.row_of-y.result _ c.requires.frame c.row_of-y.ensures.rows)
    (let h = (height c.args.at c.args.windows.now c.loop-k.k c.requires.on_board c.loop-k-test.true).1 in omega (arith, h))

pub widen-requires : goal.widen-requires
widen-requires c = (two_word_columns c.column_of-x.result c.args.at.word_columns _ c.column_of-x.ensures.word_columns (c.loop-k.auto.spans ∙ c.requires.word_columns)).0

pub overflow_add-word_column : goal.overflow_add-word_column
overflow_add-word_column c = fits_word_column_beside c.args.at c.column_of-x.result c.requires.frame c.column_of-x.ensures.word_columns

pub widen-requires-in-loop-k : goal.widen-requires-in-loop-k
widen-requires-in-loop-k c =
    (two_word_columns c.column_of-x.result c.args.at.word_columns _ c.column_of-x.ensures.word_columns
    (c.widen.auto.spans ∙ c.loop-k.auto.spans ∙ c.requires.word_columns)).1

pub loop-k-smaller : goal.loop-k-smaller
loop-k-smaller c = falls _ _ c.loop-k-test.true

pub loop-k-preserved : goal.loop-k-preserved
loop-k-preserved c =
    let windows = c.args.windows.now in
    let k = c.loop-k.k in
    let before = c.loop-k.invariant in
    let window = get_or windows k nowhere in
    let end = window.rows - 4 in
    let whole : end + 4 ≡ window.rows = back_to (height c.args.at windows k c.requires.on_board c.loop-k-test.true) in
    record {
      put = back_more c.args.at windows c.args.held.now c.args.words.now c.loop-k.words c.write.new.words k c.column_of-x.result c.row_of-y.result end
          (λ p. ap (λ (q : LeapWindow). q.left) (get_or_default windows k p nowhere c.loop-k-test.true) ∙ c.column_of-x.ensures.is)
          (λ p. ap (λ (q : LeapWindow). q.top) (get_or_default windows k p nowhere c.loop-k-test.true) ∙ c.row_of-y.ensures.is)
          (λ p. whole ∙ ap (λ (q : LeapWindow). q.rows) (sym (get_or_default windows k p nowhere c.loop-k-test.true)))
          before.put c.write.ensures;
      kept = λ s r h. c.widen-in-loop-k.ensures.kept s r (c.widen.ensures.kept s r (before.kept s r h));
      covered = places_more c.args.at c.loop-k.spans c.widen-in-loop-k.new.spans windows k
          nowhere c.loop-k-test.true (λ s r h. c.widen-in-loop-k.ensures.kept s r (c.widen.ensures.kept s r h)) before.covered
          (inner_held c.args.at _ c.column_of-x.result c.row_of-y.result end c.widen.new.spans c.widen-in-loop-k.new.spans c.column_of-x.ensures.is
          c.row_of-y.ensures.is whole c.widen.ensures.held c.widen-in-loop-k.ensures.kept c.widen-in-loop-k.ensures.held);
    }

same : (a b : ℕ) → a ≤ b → b ≤ a → a ≡ b
same a b low high = omega arith

pub returns-clause-put : goal.returns-clause-put
returns-clause-put c =
    subst (λ (n : ℕ). ArePutBack c.args.at c.args.windows.now c.args.held.now n c.args.words.now c.loop-k.words)
    (same _ _ c.loop-k.auto.k-end c.loop-k-test.false) c.loop-k.invariant.put

pub returns-clause-kept : goal.returns-clause-kept
returns-clause-kept c = c.loop-k.invariant.kept

pub returns-clause-covered : goal.returns-clause-covered
returns-clause-covered c = λ s r i hs hr hi (k, p, low, is, inner).
    c.loop-k.invariant.covered k p (omega (arith, low, c.loop-k-test.false)) s r i hs hr hi
    (subst (λ (q : LeapWindow). IsInnerCell q (board_cell c.args.at s r i)) (sym is) inner)
