use Rattle.std.proofs.Common.{refl}
use Rattle.std.proofs.lemmas.Bool.{false≢true}
use Rattle.pattern_commands.specs.Show.{show_behaviour}
use Rattle.pattern_commands.specs.Soup.{soup_behaviour}
use Rattle.census.proofs.RequestLemmas.{by_either_error, does, error_unless_ok, spares_unless_valid, spares_unread}
use Rattle.census.proofs.request.do_pattern_request.Goals as goal

pub returns-in-Pattern-clause-ends : goal.returns-in-Pattern-clause-ends
returns-in-Pattern-clause-ends g c =
    let ended = rw c.as_str-rule.ensures at c.do_run.ensures.ends in
    rw (c.in-Run.is, c.in-Pattern.is) (record { bytes = ended.0; input = ended.1; ends = ended.2 })

pub returns-in-Pattern-clause-spares : goal.returns-in-Pattern-clause-spares
returns-in-Pattern-clause-spares g c =
    let rule_first = rw c.as_str-rule.ensures at c.do_run.ensures.rule_first in
    rw (c.in-Run.is, c.in-Pattern.is)
    (spares_unless_valid _ _ _ _ _ refl refl (λ invalid. (rule_first (error_unless_ok _ invalid)).1) c.do_run.ensures.untouched
    (λ is _. c.do_run.ensures.no_memory is))

pub returns-in-Sizes-clause-ends : goal.returns-in-Sizes-clause-ends
returns-in-Sizes-clause-ends g c =
    let ended = rw c.as_str-rule.ensures at c.do_sizes.ensures.ends in
    rw (c.in-Run.is, c.in-Sizes.is) (record { bytes = ended.0; input = ended.1; ends = ended.2 })

pub returns-in-Sizes-clause-spares : goal.returns-in-Sizes-clause-spares
returns-in-Sizes-clause-spares g c =
    let rule_first = rw c.as_str-rule.ensures at c.do_sizes.ensures.rule_first in
    rw (c.in-Run.is, c.in-Sizes.is)
    (spares_unless_valid _ _ _ _ _ refl refl (λ invalid. (rule_first (error_unless_ok _ invalid)).1) c.do_sizes.ensures.untouched
    (λ is whole. absurd (false≢true whole)))

pub returns-in-Name-clause-ends : goal.returns-in-Name-clause-ends
returns-in-Name-clause-ends g c =
    let ended = rw c.as_str.ensures at c.do_name.ensures.ends in
    rw c.in-Name.is (record { bytes = ended.0; input = ended.1; ends = ended.2 })

pub returns-in-Name-clause-spares : goal.returns-in-Name-clause-spares
returns-in-Name-clause-spares g c =
    let rule_first = rw c.as_str.ensures at c.do_name.ensures.rule_first in
    rw c.in-Name.is
    (spares_unless_valid _ _ _ _ _ refl refl
    (λ invalid. by_either_error _ _ (λ error. (c.do_name.ensures.profile_first error).1) (λ error. (rule_first error).1) invalid)
    c.do_name.ensures.untouched (λ is _. c.do_name.ensures.no_memory is))

pub returns-in-Show-clause-ends : goal.returns-in-Show-clause-ends
returns-in-Show-clause-ends g c =
    rw c.in-Show.is (does _ _ (λ i. show_behaviour c.in-Show.form (c.as_str-in-Show.ensures i)) c.do_show.ensures.ends)

pub returns-in-Show-clause-spares : goal.returns-in-Show-clause-spares
returns-in-Show-clause-spares g c = spares_unread _ _ _ _ refl c.do_show.ensures.untouched c.do_show.ensures.no_memory

pub returns-in-Soup-clause-ends : goal.returns-in-Soup-clause-ends
returns-in-Soup-clause-ends g c =
    rw c.in-Soup.is (does _ _ (λ i. soup_behaviour c.in-Soup.form (c.as_str-in-Soup.ensures i) c.in-Soup.number) c.do_soup.ensures.ends)

pub returns-in-Soup-clause-spares : goal.returns-in-Soup-clause-spares
returns-in-Soup-clause-spares g c = spares_unread _ _ _ _ refl c.do_soup.ensures.untouched c.do_soup.ensures.no_memory

pub returns-in-Version-clause-ends : goal.returns-in-Version-clause-ends
returns-in-Version-clause-ends g c = rw c.in-Version.is (does _ _ refl c.do_version.ensures.ends)
