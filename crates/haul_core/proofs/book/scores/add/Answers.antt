use Rattle.std.proofs.Common.{◌≡◌, ◌≢◌, ℕ, List, Some, ap, sym, subst, arith}
use Rattle.haul_core.specs.Scores.{HasScore, added, score_in}
use Rattle.haul_core.proofs.ScoreLemmas.{adding_more, adding_next}
use Rattle.haul_core.proofs.book.scores.add.Goals as goal

pub add_one-requires-clause-score : goal.add_one-requires-clause-score
add_one-requires-clause-score c =
    subst (λ (object : List ℕ × ℕ). HasScore c.loop-object.scores.entries object.0) (sym c.object-item.is)
    (c.loop-object.invariant.stay _ (c.requires.scores c.loop-object.object-index c.object-item.result c.loop-object-test.true))

pub add_one-requires-clause-room : goal.add_one-requires-clause-room
add_one-requires-clause-room c =
    let same = subst (λ (object : List ℕ × ℕ). score_in c.loop-object.scores.entries object.0 ≡ score_in c.args.scores.now.entries object.0) (sym c.object-item.is)
    (adding_next c.args.scores.now.entries c.loop-object.scores.entries c.args.objects.now c.args.number c.loop-object.object-index
    c.object-item.result c.requires.lawful c.loop-object-test.true c.loop-object.invariant) in
    let total : (score_in c.loop-object.scores.entries c.object-item.result.0).total ≡ (score_in c.args.scores.now.entries c.object-item.result.0).total =
    ap (λ t. t.total) same in
    let room = c.requires.room c.object-item.result.0 in
    omega arith

pub loop-object-preserved : goal.loop-object-preserved
loop-object-preserved c =
    adding_more c.args.scores.now.entries c.loop-object.scores.entries c.add_one.new.scores.entries c.args.objects.now c.args.number c.loop-object.object-index
    c.object-item.result c.requires.lawful c.loop-object-test.true c.loop-object.invariant
    (subst (λ (object : List ℕ × ℕ). score_in c.add_one.new.scores.entries object.0 ≡ added (Some object.1) c.args.number (score_in c.loop-object.scores.entries object.0))
    c.object-item.is c.add_one.ensures.score)
    (subst (λ (object : List ℕ × ℕ). (other : List ℕ) → other ≢ object.0
    → score_in c.add_one.new.scores.entries other ≡ score_in c.loop-object.scores.entries other)
    c.object-item.is c.add_one.ensures.others)
    c.add_one.ensures.scores
