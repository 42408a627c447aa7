use Rattle.std.proofs.Common.{◌≡◌, ◌∙◌, ap, sym, subst, nat_eq, None, List, ℕ}
use Rattle.indexmap.proofs.CallerLemmas.{insert_entry-new}
use Rattle.std.specs.Cmp.Lexicographic.{pointwise}
use Rattle.haul_core.specs.declared.book.scores.Score.{Score}
use Rattle.haul_core.specs.Scores.{found_score}
use Rattle.haul_core.proofs.ScoreLemmas.{Extends-one, none_from}
use Rattle.haul_core.proofs.book.scores.make_score.Goals as goal

pub returns-clause-extends : goal.returns-clause-extends
returns-clause-extends c =
    let none : found_score c.args.scores.now.entries c.args.code.now ≡ None =
    none_from (found_score c.args.scores.now.entries c.args.code.now) (sym c.contains_key.ensures ∙ c.if-contains_key.false) in
    let copied : found_score c.args.scores.now.entries c.in_ok-code.code ≡ None =
    subst (λ (code : List ℕ). found_score c.args.scores.now.entries code ≡ None) (sym c.in_ok-code.ensures) none in
    let score : Score = record { total = 0; samples = c.none.result } in
    Extends-one c.args.scores.now.entries c.insert.new.self.entries c.in_ok-code.code score
    (c.in_ok-insert.ensures.entries ∙ insert_entry-new (pointwise nat_eq) c.args.scores.now c.in_ok-code.code score copied)
    (ap (λ (samples : List ℕ). record { total = 0; samples = samples }) c.none.ensures)
