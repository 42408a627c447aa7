use Rattle.std.proofs.Common.{◌≡◌, ◌∙◌, ◌*◌, ◌++◌, ℕ, List, [], ap, arith, length, subst, sym, take, true}
use Rattle.std.proofs.lemmas.List.{take-append-le, take_all, with_items_is}
use Rattle.plane_core.specs.declared.plane.bounds.Bounds.{Bounds}
use Rattle.plane_core.specs.declared.engine.frame.Frame.{Frame}
use Rattle.plane_core.specs.declared.engine.row_spans.RowSpan.{RowSpan}
use Rattle.plane_core.specs.engine.Boards.{IsSpannedBoard}
use Rattle.plane_core.specs.engine.ActiveBoxes.{box_bound}
use Rattle.plane_core.specs.engine.Frames.{Shows}
use Rattle.plane_core.specs.engine.OnBoard.{cells_on}
use Rattle.plane_core.specs.plane.Rules.{Numbers}
use Rattle.plane_core.proofs.lemmas.engine.AdvanceLemmas.{box_sides, laid_spanned, no_sides}
use Rattle.plane_core.specs.windows.RuleLogic.{rule_of}
use Rattle.plane_core.proofs.lemmas.engine.BoardLemmas.{blank_board, moved_empty}
use Rattle.plane_core.proofs.lemmas.engine.RowSpanLemmas.{empty_spans}
use Rattle.plane_core.proofs.engine.board.Board.show.Goals as goal

pub empty-requires-clause-long : goal.empty-requires-clause-long
empty-requires-clause-long c = rw c.as_mut_slice.ensures.value c.self.invariant.board.long

pub empty-requires-clause-word_columns : goal.empty-requires-clause-word_columns
empty-requires-clause-word_columns c = rw c.as_mut_slice-2.ensures.value c.self.invariant.spanned.word_columns

pub empty-requires-clause-live : goal.empty-requires-clause-live
empty-requires-clause-live c = rw (c.as_mut_slice.ensures.value, c.as_mut_slice-2.ensures.value) c.self.invariant.spanned.live

pub centred-requires-clause-frame : goal.centred-requires-clause-frame
centred-requires-clause-frame c = c.self.invariant.board.frame

pub centred-requires-clause-plane : goal.centred-requires-clause-plane
centred-requires-clause-plane c = c.self.invariant.plane

-- `IsSpannedBoard` still holds if the words and the spans are replaced by equal ones
same_board : (at : Frame) (rule : Numbers) (ws vs : List ℕ) (bs : List Bounds) (ss ts : List RowSpan) → vs ≡ ws → ts ≡ ss
    → IsSpannedBoard at rule ws bs true ss → IsSpannedBoard at rule vs bs true ts
same_board at rule ws vs bs ss ts words spans board =
    subst (λ (us : List RowSpan). IsSpannedBoard at rule vs bs true us) (sym spans)
    (subst (λ (us : List ℕ). IsSpannedBoard at rule us bs true ss) (sym words) board)

taken : {A : Type 0} (new rest : List A) (n : ℕ) → length new ≡ n → take n (new ++ rest) ≡ new
taken new rest n is = take-append-le n new rest (omega (arith, is)) ∙ take_all n new (omega (arith, is))

pub invariant_of-self : goal.invariant_of-self
invariant_of-self c =
    same_board c.self.inside.at (rule_of c.new-self-inside.result) c.empty.new.words _ c.clear.new.self.items c.empty.new.spans _
    (with_items_is c.self.inside.words c.empty.new.words (c.empty.auto.words ∙ c.as_mut_slice.ensures.len))
    (with_items_is c.self.inside.spans c.empty.new.spans (c.empty.auto.spans ∙ c.as_mut_slice-2.ensures.len))
    (record {
      board = blank_board c.self.inside.at (rule_of c.new-self-inside.result) c.empty.new.words c.clear.new.self.items true c.self.invariant.board.frame
          (c.empty.auto.words ∙ ap length c.as_mut_slice.ensures.value ∙ c.self.invariant.board.long) (no_sides box_bound _ c.clear.ensures.items) c.empty.ensures;
      spanned = empty_spans c.self.inside.at c.empty.new.words c.empty.new.spans c.empty.ensures
          (c.empty.auto.spans ∙ ap length c.as_mut_slice-2.ensures.value ∙ c.self.invariant.spanned.word_columns);
      plane = c.self.invariant.plane;
    })

pub returns-in_default-clause-rule : goal.returns-in_default-clause-rule
returns-in_default-clause-rule c = c.new-self-inside.ensures

pub returns-in_default-clause-none : goal.returns-in_default-clause-none
returns-in_default-clause-none c e = ap (cells_on c.self.inside.at) (with_items_is c.self.inside.words c.empty.new.words (c.empty.auto.words ∙ c.as_mut_slice.ensures.len)) ∙ c.empty.ensures

pub fill-requires-clause-frame : goal.fill-requires-clause-frame
fill-requires-clause-frame c = c.in-Some.ensures.frame

pub fill-requires-clause-on : goal.fill-requires-clause-on
fill-requires-clause-on c = rw c.cells-cells.ensures.cells c.in-Some.ensures.on

pub fill-requires-clause-long : goal.fill-requires-clause-long
fill-requires-clause-long c =
    ap length (c.as_mut_slice-3.ensures.value ∙ with_items_is c.self.inside.words c.empty.new.words (c.empty.auto.words ∙ c.as_mut_slice.ensures.len))
    ∙ c.empty.auto.words ∙ ap length c.as_mut_slice.ensures.value ∙ c.self.invariant.board.long
    ∙ sym (λ i. c.in-Some.ensures.word_columns i * c.in-Some.ensures.rows i)

pub fill-requires-clause-empty : goal.fill-requires-clause-empty
fill-requires-clause-empty c =
    subst (λ (ws : List ℕ). Shows c.in-Some.at ws [])
    (sym (c.as_mut_slice-3.ensures.value ∙ with_items_is c.self.inside.words c.empty.new.words (c.empty.auto.words ∙ c.as_mut_slice.ensures.len)))
    (moved_empty c.self.inside.at c.in-Some.at c.empty.new.words c.in-Some.ensures.word_columns c.in-Some.ensures.rows c.empty.ensures)

pub fill-requires-clause-word_columns : goal.fill-requires-clause-word_columns
fill-requires-clause-word_columns c =
    ap length (c.as_mut_slice-4.ensures.value ∙ with_items_is c.self.inside.spans c.empty.new.spans (c.empty.auto.spans ∙ c.as_mut_slice-2.ensures.len))
    ∙ c.empty.auto.spans ∙ ap length c.as_mut_slice-2.ensures.value ∙ c.self.invariant.spanned.word_columns ∙ sym c.in-Some.ensures.word_columns

laid : (c : goal.After-self-6-1) → IsSpannedBoard c.in-Some.at (rule_of c.new-self-inside.result) c.fill.new.words
    c.boxes_round.new.boxes.items true c.fill.new.spans × (cells_on c.in-Some.at c.fill.new.words ≡ c.args.pattern.now)
laid c =
    laid_spanned (rule_of c.new-self-inside.result) c.in-Some.at c.fill.new.words c.boxes_round.new.boxes.items
    c.fill.new.spans c.args.pattern.now c.cells-cells.result.now c.cells-cells.ensures.cells c.cells-cells.ensures.pattern
    c.in-Some.ensures.frame c.in-Some.ensures.plane
    (c.fill.auto.words ∙ ap length (c.as_mut_slice-3.ensures.value ∙ with_items_is c.self.inside.words c.empty.new.words (c.empty.auto.words ∙ c.as_mut_slice.ensures.len))
    ∙ c.empty.auto.words ∙ ap length c.as_mut_slice.ensures.value ∙ c.self.invariant.board.long
    ∙ sym (λ i. c.in-Some.ensures.word_columns i * c.in-Some.ensures.rows i))
    (c.fill.auto.spans ∙ ap length (c.as_mut_slice-4.ensures.value ∙ with_items_is c.self.inside.spans c.empty.new.spans (c.empty.auto.spans ∙ c.as_mut_slice-2.ensures.len))
    ∙ c.empty.auto.spans ∙ ap length c.as_mut_slice-2.ensures.value ∙ c.self.invariant.spanned.word_columns ∙ sym c.in-Some.ensures.word_columns)
    c.in-Some.ensures.on c.fill.ensures.shown c.fill.ensures.held
    c.in_ok-boxes_round.ensures.held c.boxes_round.ensures.sides

pub invariant_of-self-2 : goal.invariant_of-self-2
invariant_of-self-2 c =
    same_board c.in-Some.at (rule_of c.new-self-inside.result) c.fill.new.words _ c.boxes_round.new.boxes.items c.fill.new.spans _
    (taken c.fill.new.words _ c.self.inside.words.len (c.fill.auto.words ∙ c.as_mut_slice-3.ensures.len))
    (taken c.fill.new.spans _ c.self.inside.spans.len (c.fill.auto.spans ∙ c.as_mut_slice-4.ensures.len))
    (laid c).0

pub invariant_of-self-in_err-boxes_round : goal.invariant_of-self-in_err-boxes_round
invariant_of-self-in_err-boxes_round c =
    same_board c.self.inside.at (rule_of c.new-self-inside.result) c.empty.new.words _ c.boxes_round.new.boxes.items c.empty.new.spans _
    (with_items_is c.self.inside.words c.empty.new.words (c.empty.auto.words ∙ c.as_mut_slice.ensures.len))
    (with_items_is c.self.inside.spans c.empty.new.spans (c.empty.auto.spans ∙ c.as_mut_slice-2.ensures.len))
    (record {
      board = blank_board c.self.inside.at (rule_of c.new-self-inside.result) c.empty.new.words c.boxes_round.new.boxes.items true c.self.invariant.board.frame
          (c.empty.auto.words ∙ ap length c.as_mut_slice.ensures.value ∙ c.self.invariant.board.long) (box_sides c.args.pattern.now c.cells-cells.result.now _ c.cells-cells.ensures.cells c.cells-cells.ensures.pattern
          c.boxes_round.ensures.sides) c.empty.ensures;
      spanned = empty_spans c.self.inside.at c.empty.new.words c.empty.new.spans c.empty.ensures
          (c.empty.auto.spans ∙ ap length c.as_mut_slice-2.ensures.value ∙ c.self.invariant.spanned.word_columns);
      plane = c.self.invariant.plane;
    })

pub returns-clause-shown : goal.returns-clause-shown
returns-clause-shown c e =
    ap (cells_on c.in-Some.at) (taken c.fill.new.words _ c.self.inside.words.len (c.fill.auto.words ∙ c.as_mut_slice-3.ensures.len)) ∙ (laid c).1
