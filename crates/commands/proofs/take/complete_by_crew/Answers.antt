use Rattle.std.proofs.Common.{◌≡◌, ◌∙◌, inr, sym}
use Rattle.crew.specs.declared.take.CrewError.TheVariants as crew_error
use Rattle.commands.proofs.GrownLemmas.{grown_by, let_in_by}
use Rattle.commands.proofs.take.complete_by_crew.Goals as goal

pub returns-in-Ok-clause-grown : goal.returns-in-Ok-clause-grown
returns-in-Ok-clause-grown g c = grown_by _ _ (c.in-Ok.ensures.taken c.requires.«open»)

pub returns-in-Stopped-clause-grown : goal.returns-in-Stopped-clause-grown
returns-in-Stopped-clause-grown g c = grown_by _ _ (c.in-Err.ensures.taken c.requires.«open»)

pub returns-in-Stopped-clause-ends : goal.returns-in-Stopped-clause-ends
returns-in-Stopped-clause-ends g c =
    let worker = c.in-Stopped.worker in
    inr (
      c.in-Err.ensures.incomplete (λ closed. let bad : crew_error.Stopped worker ≡ crew_error.Closed = sym c.in-Stopped.is ∙ closed in cc),
      worker,
      c.in-Err.ensures.stopped worker c.in-Stopped.is,
    )

pub returns-in-Memory-clause-grown : goal.returns-in-Memory-clause-grown
returns-in-Memory-clause-grown g c = grown_by _ _ (c.in-Err.ensures.taken c.requires.«open»)

pub returns-in-Ok-clause-let_in : goal.returns-in-Ok-clause-let_in
returns-in-Ok-clause-let_in g c = let_in_by _ _ (c.in-Ok.ensures.taken c.requires.«open»)

pub returns-in-Stopped-clause-let_in : goal.returns-in-Stopped-clause-let_in
returns-in-Stopped-clause-let_in g c = let_in_by _ _ (c.in-Err.ensures.taken c.requires.«open»)

pub returns-in-Memory-clause-let_in : goal.returns-in-Memory-clause-let_in
returns-in-Memory-clause-let_in g c = let_in_by _ _ (c.in-Err.ensures.taken c.requires.«open»)
