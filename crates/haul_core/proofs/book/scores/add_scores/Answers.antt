use Rattle.std.proofs.Common.{◌∙◌, ◌<◌, ap, arith, length, sym, is_some}
use Rattle.std.proofs.lemmas.Bool.{false≢true}
use Rattle.haul_core.proofs.JoinedScores.{added_more, added_none, next_total, row_at}
use Rattle.haul_core.proofs.book.scores.add_scores.Goals as goal
use Rattle.haul_core.proofs.book.scores.add_scores.Goals.{in-Some+in_ok-add_score, in_default}

pub loop-index-init : goal.loop-index-init
loop-index-init c = added_none c.args.scores.now.entries c.args.others.now.entries

pub loop-index-preserved : goal.loop-index-preserved
loop-index-preserved c =
    let low : c.loop-index.index < length c.args.others.now.entries = omega (arith, c.loop-index-test.true, c.len-index-end.ensures.len) in
    elim c.match-get_index.branch [
      | in-Some+in_ok-add_score w ↦ rw w.scores-is
          (added_more c.args.scores.now.entries c.loop-index.scores.entries c.args.others.now.entries c.loop-index.index w.in-Some.code.now w.in-Some.score.now
          c.len-index-end.ensures.unique low (sym w.in-Some.ensures.entry) c.loop-index.invariant w.add_score.new.scores.entries w.in_ok-add_score.ensures.score
          w.in_ok-add_score.ensures.others)
      | in_default w ↦ absurd (false≢true (sym (ap is_some w.in_default.is) ∙ c.get_index.ensures.found.1 low))
    ]

pub add_score-requires : goal.add_score-requires
add_score-requires c =
    let low : c.loop-index.index < length c.args.others.now.entries = omega (arith, c.loop-index-test.true, c.len-index-end.ensures.len) in
    let total = ap (λ t. t.total) (next_total c.args.scores.now.entries c.loop-index.scores.entries c.args.others.now.entries c.loop-index.index c.in-Some.code.now
    c.in-Some.score.now c.len-index-end.ensures.unique low (sym c.in-Some.ensures.entry) c.loop-index.invariant) in
    let other = ap (λ t. t.total) (row_at c.args.scores.now.entries c.loop-index.scores.entries c.args.others.now.entries c.loop-index.index c.in-Some.code.now
    c.in-Some.score.now c.len-index-end.ensures.unique low (sym c.in-Some.ensures.entry) c.loop-index.invariant) in
    let room = c.requires c.in-Some.code.now in
    omega (arith, total, other, room)
