use Rattle.std.proofs.Common.{refl}
use Rattle.std.proofs.KnownBytes.{Appends-nil}
use Rattle.pattern_commands.proofs.AnswerLemmas.{err_of}
use Rattle.commands.proofs.FinishLemmas.{unwritten}
use Rattle.commands.proofs.finish.put_haul_text.Goals as goal

pub returns-in_err-census-clause-prints : goal.returns-in_err-census-clause-prints
returns-in_err-census-clause-prints g c missing is = rw (err_of _ _ c.from_residual.ensures.1) (Appends-nil _)

pub returns-in_err-census-clause-no_memory : goal.returns-in_err-census-clause-no_memory
returns-in_err-census-clause-no_memory g c = rw (err_of _ _ c.from_residual.ensures.1) (λ is. refl)

pub put_census-requires : goal.put_census-requires
put_census-requires g c = c.requires

pub returns-in_err-put_census-clause-prints : goal.returns-in_err-put_census-clause-prints
returns-in_err-put_census-clause-prints g c missing is =
    let sent = c.in_err-put_census.ensures in
    rw (err_of _ _ c.from_residual-in_err-put_census.ensures.1)
    (record { census = c.in_ok-census.census; counted = c.in_ok-census.ensures.counted; prefix = sent.prefix; cut = sent.remembers })

pub returns-in_err-put_census-clause-no_memory : goal.returns-in_err-put_census-clause-no_memory
returns-in_err-put_census-clause-no_memory g c = rw (err_of _ _ c.from_residual-in_err-put_census.ensures.1) (unwritten _ _)

pub returns-clause-prints : goal.returns-clause-prints
returns-clause-prints g c missing is =
    let sent = c.in_ok-put_census.ensures in
    record { census = c.in_ok-census.census; counted = c.in_ok-census.ensures.counted; missing_is = is; text = sent.whole; fine = sent.remembers }
