use Rattle.std.proofs.Common.{◌≡◌, ◌∙◌, ◌+◌, List, None, ap, rules, subst, sym, ℕ}
use Rattle.std.specs.BTreeMap.{BTreeMap}
use Rattle.std.specs.Map.{lookup}
use Rattle.survey_core.specs.shapes.Objects.{IsOneMore, is_code}
use Rattle.survey_core.proofs.lemmas.shapes.ObjectLemmas.{first_counted, once_more}
use Rattle.survey_core.proofs.shapes.objects.count_one.Goals as goal

-- the case of a code that is already counted
pub returns-in-Some : goal.returns-in-Some
returns-in-Some c =
    let before = c.in-Some.count.now in
    let written = c.get_mut.follows.holds (before + 1) in
    once_more c.args.counts.now.entries (c.get_mut.follows.lender (before + 1)).entries c.args.code.now before (sym c.in-Some.ensures.value)
    (written.3 (search rules)).0 written.0

-- the case of the first object with the code
pub returns : goal.returns
returns c =
    let left = c.get_mut.follows.lender-at-none in
    let same : left ≡ c.args.counts.now = c.get_mut.follows.holds-at-none in
    let new = c.insert.new.self.entries in
    let first = c.in_ok-first.first in
    let copied : first ≡ c.args.code.now = c.in_ok-first.ensures in
    let e = c.in_ok-insert.ensures in
    let none : lookup (is_code first) left.entries ≡ None =
    ap (λ (k : List ℕ). lookup (is_code k) left.entries) copied ∙ ap (λ (m : BTreeMap (List ℕ) ℕ). lookup (is_code c.args.code.now) m.entries) same
    ∙ sym c.in_default.ensures.value in
    subst (λ (m : BTreeMap (List ℕ) ℕ). IsOneMore c.args.code.now m.entries new) same
    (subst (λ (k : List ℕ). IsOneMore k left.entries new) copied (first_counted left new first e.was_ordered none e.updates.0 e.entries))
