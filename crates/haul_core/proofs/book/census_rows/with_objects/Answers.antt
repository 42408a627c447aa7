use Rattle.std.proofs.Common.{◌≡◌, ◌∙◌, sym, subst, ap, arith, List, ℕ, ◌<◌, length, Some, cond, is_some}
use Rattle.std.proofs.lemmas.Bool.{false≢true}
use Rattle.std.specs.Map.{lookup}
use Rattle.survey_core.specs.shapes.Objects.{is_code}
use Rattle.haul_core.proofs.CensusLemmas.{kept_inserted, kept_skipped}
use Rattle.haul_core.proofs.book.census_rows.with_objects.Goals as goal
use Rattle.haul_core.proofs.book.census_rows.with_objects.Goals.{in-Some+then-score-gt0+in_ok-code+in_ok-insert, in-Some+else-score-gt0, in_default}

pub loop-index-preserved : goal.loop-index-preserved
loop-index-preserved c =
    let low : c.loop-index.index < length c.args.scores.now.entries = omega (arith, c.loop-index-test.true, c.len-index-end.ensures.len) in
    elim c.match-get_index.branch [
      | in-Some+then-score-gt0+in_ok-code+in_ok-insert w ↦ rw w.kept-is
          (kept_inserted c.args.scores.now.entries c.loop-index.kept.entries w.insert.new.self.entries c.loop-index.index w.in-Some.code.now w.in-Some.score.now
          w.copy-then-score-gt0.result c.len-index-end.ensures.unique low (sym w.in-Some.ensures.entry) w.if-score-gt0.true w.copy-then-score-gt0.ensures
          (subst (λ (k : List ℕ). (q : List ℕ) → lookup (is_code q) w.insert.new.self.entries
          ≡ cond (is_code k q) (Some w.copy-then-score-gt0.result) (lookup (is_code q) c.loop-index.kept.entries))
          w.in_ok-code.ensures w.in_ok-insert.ensures.updates.0)
          c.loop-index.invariant)
      | in-Some+else-score-gt0 w ↦ rw w.kept-is
          (kept_skipped c.args.scores.now.entries c.loop-index.kept.entries c.loop-index.index w.in-Some.code.now w.in-Some.score.now
          c.len-index-end.ensures.unique low (sym w.in-Some.ensures.entry) w.if-score-gt0.false c.loop-index.invariant)
      | in_default w ↦ absurd (false≢true (sym (ap is_some w.in_default.is) ∙ c.get_index.ensures.found.1 low))
    ]
