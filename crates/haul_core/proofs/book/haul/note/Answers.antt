use Rattle.std.proofs.Common.{◌∙◌, nat_eq}
use Rattle.indexmap.proofs.CallerLemmas.{insert_entry-new}
use Rattle.haul_core.proofs.ScoreLemmas.{on_ok_at}
use Rattle.haul_core.proofs.book.haul.note.Goals as goal

pub returns-clause-workers : goal.returns-clause-workers
returns-clause-workers c =
    on_ok_at c.insert.result (c.insert.ensures.succeeds c.requires.spare) c.insert.ensures.entries
    ∙ insert_entry-new nat_eq c.args.worker_of.now c.args.number c.args.worker c.requires.new
