use Rattle.std.proofs.Common.{◌≡◌, ◌≤◌, ◌∙◌, ℕ, List, ap, arith, length, refl, subst, sym}
use Rattle.std.proofs.lemmas.List.{with_items_is}
use Rattle.std.proofs.lemmas.List.Elements.{All-same}
use Rattle.std.proofs.lemmas.Result.{IfOk-from_err}
use Rattle.plane_core.specs.windows.RuleLogic.{rule_of}
use Rattle.plane_core.specs.declared.plane.bounds.Bounds.{Bounds}
use Rattle.plane_core.specs.declared.engine.frame.Frame.{Frame}
use Rattle.plane_core.specs.declared.engine.leap_window.LeapWindow.{LeapWindow}
use Rattle.plane_core.specs.declared.engine.row_spans.RowSpan.{RowSpan}
use Rattle.plane_core.specs.engine.Boards.{Running}
use Rattle.plane_core.specs.plane.Bounds.{AreSidesWithin}
use Rattle.plane_core.specs.engine.ActiveBoxes.{AreCovered, box_bound}
use Rattle.plane_core.specs.plane.Generations.{after}
use Rattle.plane_core.specs.engine.Leaps.{ArePutBack, AreRun}
use Rattle.plane_core.specs.engine.OnBoard.{cells_on}
use Rattle.plane_core.specs.engine.RowSpans.{AreWidened}
use Rattle.plane_core.proofs.lemmas.engine.AdvanceLemmas.{has_gone_on, is_ready, leapt_board}
use Rattle.plane_core.proofs.lemmas.plane.GenerationLemmas.{after-none}
use Rattle.plane_core.proofs.lemmas.engine.LeapLemmas.{leapt}
use Rattle.plane_core.proofs.lemmas.engine.OnBoardLemmas.{cells_in_order, shows_cells}
use Rattle.plane_core.proofs.lemmas.plane.OrderLemmas.{itself}
use Rattle.plane_core.proofs.engine.board.Board.leap.Goals as goal
use Rattle.plane_core.proofs.lemmas.Between.{HasGoneOn}

nothing : (n : ℕ) → 0 ≤ n
nothing n = omega arith

-- `AreCovered` still holds if both lists are replaced by equal ones
covered_by : (ps qs : List LeapWindow) (bs cs : List Bounds) → qs ≡ ps → bs ≡ cs → AreCovered ps bs → AreCovered qs cs
covered_by ps qs bs cs windows boxes covered =
    subst (λ (xs : List LeapWindow). AreCovered xs cs) (sym windows) (subst (λ (xs : List Bounds). AreCovered ps xs) boxes covered)

put_back : (at : Frame) (windows : List LeapWindow) (hs held : List (List ℕ)) (ws old new : List ℕ) → hs ≡ held → ws ≡ old
    → ArePutBack at windows hs (length windows) ws new → ArePutBack at windows held (length windows) old new
put_back at windows hs held ws old new rows words put =
    subst (λ (us : List ℕ). ArePutBack at windows held (length windows) us new) words
    (subst (λ (xs : List (List ℕ)). ArePutBack at windows xs (length windows) ws new) rows put)

pub returns-then-not-are_enough-clause-rule : goal.returns-then-not-are_enough-clause-rule
returns-then-not-are_enough-clause-rule c = refl

pub returns-then-not-are_enough-clause-most : goal.returns-then-not-are_enough-clause-most
returns-then-not-are_enough-clause-most c = nothing c.args.count

pub returns-then-not-are_enough-clause-after : goal.returns-then-not-are_enough-clause-after
returns-then-not-are_enough-clause-after c = sym (after-none c.args.self.now.rule c.args.self.now.cells)

pub invariant_of-self : goal.invariant_of-self
invariant_of-self c = c.self.invariant

pub invariant_of-self-then-not-inside : goal.invariant_of-self-then-not-inside
invariant_of-self-then-not-inside c = c.self.invariant

pub invariant_of-self-in_err-inside : goal.invariant_of-self-in_err-inside
invariant_of-self-in_err-inside c = c.self.invariant

pub returns-in_err-cover-clause-rule : goal.returns-in_err-cover-clause-rule
returns-in_err-cover-clause-rule c = ap (λ (b : Running). b.rule) c.self.view_is

pub returns-in_err-cover-clause-most : goal.returns-in_err-cover-clause-most
returns-in_err-cover-clause-most c = IfOk-from_err _ _ c.from_residual.ensures.0

pub returns-in_err-cover-clause-after : goal.returns-in_err-cover-clause-after
returns-in_err-cover-clause-after c = IfOk-from_err _ _ c.from_residual.ensures.0

pub returns-then-not-inside-clause-rule : goal.returns-then-not-inside-clause-rule
returns-then-not-inside-clause-rule c = ap (λ (b : Running). b.rule) c.self.view_is

pub returns-then-not-inside-clause-most : goal.returns-then-not-inside-clause-most
returns-then-not-inside-clause-most c = nothing c.args.count

pub returns-then-not-inside-clause-after : goal.returns-then-not-inside-clause-after
returns-then-not-inside-clause-after c =
    ap (λ (b : Running). b.cells) c.self.view_is ∙ sym (after-none c.args.self.now.rule c.args.self.now.cells)

pub returns-in_err-inside-clause-rule : goal.returns-in_err-inside-clause-rule
returns-in_err-inside-clause-rule c = ap (λ (b : Running). b.rule) c.self.view_is

pub returns-in_err-inside-clause-most : goal.returns-in_err-inside-clause-most
returns-in_err-inside-clause-most c = IfOk-from_err _ _ c.from_residual-in_err-inside.ensures.0

pub returns-in_err-inside-clause-after : goal.returns-in_err-inside-clause-after
returns-in_err-inside-clause-after c = IfOk-from_err _ _ c.from_residual-in_err-inside.ensures.0

pub returns-clause-rule : goal.returns-clause-rule
returns-clause-rule c = ap (λ (b : Running). b.rule) c.self.view_is

pub returns-clause-most : goal.returns-clause-most
returns-clause-most c = itself c.args.count

gone_on : (c : goal.After-self-3-1) → HasGoneOn (rule_of c.self.inside.logic) c.self.inside.at c.args.count c.self.inside.words.items c.put_all.new.words
    c.run_all.new.boxes.items c.put_all.new.spans
gone_on c =
    let inside = c.self.inside in
    let rule = rule_of inside.logic in
    let old = inside.words.items in
    let windows = c.as_slice-windows.result.now in
    let held = c.run_all.new.held.items in
    let on = c.in_ok-inside.ensures.on_board c.if-not-inside.false in
    let ran = subst (λ (ws : List ℕ). AreRun inside.at ws rule c.args.count windows held c.run_all.new.boxes.items) c.as_slice-2.ensures.value
    (c.in_ok-inside.ensures.run c.if-not-inside.false) in
    has_gone_on rule inside.at c.args.count old c.put_all.new.words inside.boxes.items c.run_all.new.boxes.items inside.spans.items
    c.put_all.new.spans windows
    (is_ready rule inside.at c.args.count old inside.boxes.items inside.holds_all inside.spans.items c.self.invariant
    (c.are_enough.ensures c.if-not-are_enough.false))
    (covered_by _ windows _ inside.boxes.items c.as_slice-windows.ensures.value c.as_slice.ensures.value c.in_ok-cover.ensures)
    c.requires.some c.requires.few on
    (subst (λ (ss : List RowSpan). AreWidened ss c.put_all.new.spans) c.as_mut_slice-2.ensures.value c.put_all.ensures.kept) c.put_all.ensures.covered
    (leapt inside.at rule c.args.count windows held c.run_all.new.boxes.items old c.put_all.new.words ran
    (put_back inside.at windows c.as_slice-3.result.now held c.as_mut_slice.result.now old c.put_all.new.words c.as_slice-3.ensures.value
    c.as_mut_slice.ensures.value c.put_all.ensures.put))
    ran.sides (ran.differences (cells_on inside.at old) (cells_in_order inside.at old) (shows_cells inside.at old))

pub invariant_of-self-2 : goal.invariant_of-self-2
invariant_of-self-2 c =
    let inside = c.self.inside in
    let new = c.put_all.new.words in
    let spans = c.put_all.new.spans in
    let kept : length new ≡ length c.as_mut_slice.result.now = c.put_all.auto.words in
    let held : length spans ≡ length c.as_mut_slice-2.result.now = c.put_all.auto.spans in
    rw (
      with_items_is inside.words new (kept ∙ c.as_mut_slice.ensures.len),
      with_items_is inside.spans spans (held ∙ c.as_mut_slice-2.ensures.len),
      c.swap.ensures.x_after,
    )
    (leapt_board (rule_of inside.logic) inside.at c.args.count inside.words.items new inside.boxes.items c.run_all.new.boxes.items inside.holds_all
    inside.spans.items spans c.self.invariant (kept ∙ ap length c.as_mut_slice.ensures.value) (held ∙ ap length c.as_mut_slice-2.ensures.value)
    (gone_on c))

pub returns-clause-after : goal.returns-clause-after
returns-clause-after c =
    let inside = c.self.inside in
    let new = c.put_all.new.words in
    rw (with_items_is inside.words new (c.put_all.auto.words ∙ c.as_mut_slice.ensures.len))
    ((gone_on c).cells ∙ (λ i. after (c.self.view_is i).rule (c.self.view_is i).cells c.args.count))

pub cover-requires : goal.cover-requires
cover-requires c = All-same (AreSidesWithin box_bound) _ _ c.as_slice.ensures.value c.self.invariant.board.sides

pub run_all-requires-clause-frame : goal.run_all-requires-clause-frame
run_all-requires-clause-frame c = c.self.invariant.board.frame

pub run_all-requires-clause-long : goal.run_all-requires-clause-long
run_all-requires-clause-long c = ap length c.as_slice-2.ensures.value ∙ c.self.invariant.board.long

pub run_all-requires-clause-some : goal.run_all-requires-clause-some
run_all-requires-clause-some c = c.requires.some

pub run_all-requires-clause-few : goal.run_all-requires-clause-few
run_all-requires-clause-few c = c.requires.few

pub put_all-requires-clause-frame : goal.put_all-requires-clause-frame
put_all-requires-clause-frame c = c.self.invariant.board.frame

pub put_all-requires-clause-long : goal.put_all-requires-clause-long
put_all-requires-clause-long c = ap length c.as_mut_slice.ensures.value ∙ c.self.invariant.board.long

pub put_all-requires-clause-on_board : goal.put_all-requires-clause-on_board
put_all-requires-clause-on_board c = c.in_ok-inside.ensures.on_board c.if-not-inside.false

pub put_all-requires-clause-word_columns : goal.put_all-requires-clause-word_columns
put_all-requires-clause-word_columns c = ap length c.as_mut_slice-2.ensures.value ∙ c.self.invariant.spanned.word_columns

pub put_all-requires-clause-each : goal.put_all-requires-clause-each
put_all-requires-clause-each c =
    rw (ap length c.as_slice-3.ensures.value) (c.in_ok-inside.ensures.run c.if-not-inside.false).long
