use Rattle.std.proofs.Common.{◌≡◌, ◌<◌, ◌≤◌, ◌∙◌, ℕ, arith, inl, min, refl, subst, sym}
use Rattle.plane_core.proofs.lemmas.engine.RowSpanLemmas.{row_emptied, zeroed_at}
use Rattle.plane_core.proofs.engine.row_spans.empty_word_column.Goals as goal

pub loop-row-init : goal.loop-row-init
loop-row-init c = record { dead = λ r past near. absurd (omega (arith, past, near)); others = λ m. inl refl }

pub index-requires-clause-frame : goal.index-requires-clause-frame
index-requires-clause-frame c = c.requires.frame

pub index-requires-clause-word_column : goal.index-requires-clause-word_column
index-requires-clause-word_column c = c.requires.word_column

pub returns-clause-others : goal.returns-clause-others
returns-clause-others c = c.loop-row.invariant.others

below_min : (n end rows least : ℕ) → least ≡ min end rows → n < least → n < rows
below_min n end rows least is low = omega arith

past_min : (n end rows least at : ℕ) → least ≡ min end rows → least ≤ at → n < rows → n < end → n < at
past_min n end rows least at is past low inside = omega arith

pub index-requires-clause-row : goal.index-requires-clause-row
index-requires-clause-row c =
    below_min c.loop-row.row c.args.span.end c.args.at.rows c.min-row-end.result c.min-row-end.ensures c.loop-row-test.true

pub bounds-words-index : goal.bounds-words-index
bounds-words-index c = subst (λ (n : ℕ). c.index.result < n) (sym (c.loop-row.auto.words ∙ c.requires.long)) c.index.ensures.inside

pub loop-row-preserved : goal.loop-row-preserved
loop-row-preserved c =
    let low = subst (λ (n : ℕ). c.index.result < n) (sym (c.loop-row.auto.words ∙ c.requires.long)) c.index.ensures.inside in
    record {
      dead = row_emptied c.args.at c.loop-row.words c.args.word_column c.loop-row.row c.args.span.from c.index.result c.index.ensures.index low
          c.loop-row.invariant.dead;
      others = zeroed_at c.args.words.now c.loop-row.words c.index.result low c.loop-row.invariant.others;
    }

pub returns-clause-dead : goal.returns-clause-dead
returns-clause-dead c r low inside =
    c.loop-row.invariant.dead r inside.low
    (past_min r c.args.span.end c.args.at.rows c.min-row-end.result c.loop-row.row c.min-row-end.ensures c.loop-row-test.false low inside.high)
