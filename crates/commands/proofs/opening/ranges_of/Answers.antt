use Rattle.std.proofs.Common.{◌≡◌, ◌∙◌, ◌++◌, ◌∷◌, [], List, Err, ap, sym}
use Rattle.ranges.specs.declared.range.Range.{Range}
use Rattle.commands.specs.SoupSets.{own_range}
use Rattle.pattern_commands.proofs.AnswerLemmas.{err_of}
use Rattle.commands.proofs.TakeLemmas.{Stops_list}
use Rattle.commands.proofs.opening.ranges_of.Goals as goal

pub returns-in_err-ranges-clause-stops : goal.returns-in_err-ranges-clause-stops
returns-in_err-ranges-clause-stops c =
    let facts = c.in_err-ranges.ensures in
    rw (err_of _ _ c.from_residual.ensures.1)
    (Stops_list c.args.set.now c.as_str.result.now c.in_err-ranges.field-0.0 c.as_str.ensures facts.complete
    (λ place is. facts.bad_list place (ap Err is)) (λ is. facts.memory (ap Err is)))

pub returns-in_err-add_range-clause-stops : goal.returns-in_err-add_range-clause-stops
returns-in_err-add_range-clause-stops c =
    rw (err_of _ _ c.from_residual-in_err-add_range.ensures.1)
    (record {
      ranges = c.in_ok-ranges.ranges.items;
      fit = c.in_ok-ranges.ensures.fit;
      spelled = c.in_ok-ranges.ensures.ranges ∙ c.as_str.ensures;
    })

pub returns-clause-named : goal.returns-clause-named
returns-clause-named c = record {
  listed = c.in_ok-ranges.ranges.items;
  fit = c.in_ok-ranges.ensures.fit;
  spelled = c.in_ok-ranges.ensures.ranges ∙ c.as_str.ensures;
  all = c.in_ok-add_range.ensures;
}

pub returns-clause-only : goal.returns-clause-only
returns-clause-only c = λ others of.
    let listed : of.listed ≡ c.in_ok-ranges.ranges.items = sym (c.in_ok-ranges.ensures.complete of.listed of.fit (of.spelled ∙ sym c.as_str.ensures)) in
    of.all ∙ ap (λ (rs : List Range). rs ++ own_range c.args.set.now ∷ []) listed ∙ sym c.in_ok-add_range.ensures
