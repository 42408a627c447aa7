use Rattle.plane_core.proofs.engine.board.Board.rules_out_rest.Goals as goal

pub returns-then-try_boxes : goal.returns-then-try_boxes
returns-then-try_boxes c = λ _. c.try_boxes.ensures c.if-try_boxes.true

pub returns : goal.returns
returns c = c.try_boxes-2.ensures
