use Rattle.std.proofs.Common.{◌∙◌, ◌++◌, ◌∷◌, [], ap, nat_eq, refl, List, ℕ, get_or}
use Rattle.std.specs.Map.{lookup}
use Rattle.indexmap.proofs.CallerLemmas.{insert_entry-new}
use Rattle.haul_core.proofs.JoinLemmas.{fresh, swapped_more}
use Rattle.haul_core.proofs.book.haul.join.by_number.Goals as goal

pub loop-entry-preserved : goal.loop-entry-preserved
loop-entry-preserved c =
    let new = ap (λ (es : List (ℕ × ℕ)). lookup (nat_eq (get_or c.args.taken.now c.loop-entry.entry-index (0, 0)).1) es) c.loop-entry.invariant
    ∙ fresh c.args.taken.now c.loop-entry.entry-index (0, 0) c.requires c.loop-entry-test.true in
    let next : ℕ × ℕ = get_or c.args.taken.now c.loop-entry.entry-index (0, 0) in
    let entry : ℕ × ℕ = (next.1, next.0) in
    c.in_ok-insert.ensures.entries ∙ insert_entry-new nat_eq c.loop-entry.worker_of next.1 next.0 new
    ∙ ap (λ (es : List (ℕ × ℕ)). es ++ entry ∷ []) c.loop-entry.invariant
    ∙ swapped_more c.args.taken.now c.loop-entry.entry-index (0, 0) entry c.loop-entry-test.true refl
