use Rattle.std.proofs.Common.{◌≡◌, ◌∙◌, ◌+ℤ◌, ℤ, FitsSigned, ap, of_z, rules, subst, sym, to_z, w32}
use Rattle.std.proofs.lemmas.Int.{to_z-of_z}
use Rattle.survey_core.specs.declared.shapes.envelope_bounds.EnvelopeBounds.{EnvelopeBounds}
use Rattle.survey_core.specs.shapes.Memos.{Fact, IsKnown}
use Rattle.survey_core.specs.shapes.Envelopes.{IsEnvelope}
use Rattle.survey_core.proofs.lemmas.shapes.MemoLemmas.{moved_envelope, envelope_known}
use Rattle.survey_core.proofs.shapes.memo.Memo.recalled_envelope.Goals as goal

-- a side of the moved box is the side of the box plus the displacement, if these three numbers fit in 32 bits
moved_to : (at by to : ℤ) → FitsSigned w32 at → FitsSigned w32 by → FitsSigned w32 to → to ≡ to_z w32 (of_z w32 at) +ℤ to_z w32 (of_z w32 by)
    → to_z w32 (of_z w32 to) ≡ at +ℤ by
moved_to at by to at_fits by_fits to_fits is =
    to_z-of_z w32 to to_fits ∙ is ∙ (λ i. to_z-of_z w32 at at_fits i +ℤ to_z-of_z w32 by by_fits i)

pub returns : goal.returns
returns c =
    let shift = c.in-Some.shift in
    let envelope = c.known.inside.envelope in
    let b = envelope.bounds in
    let dx_fits : FitsSigned w32 shift.0 = search rules in
    let dy_fits : FitsSigned w32 shift.1 = search rules in
    let left_fits : FitsSigned w32 b.left = search rules in
    let left_moved : FitsSigned w32 c.in-Some-moved.left = search rules in
    let top_fits : FitsSigned w32 b.top = search rules in
    let top_moved : FitsSigned w32 c.in-Some-moved-2.top = search rules in
    let right_fits : FitsSigned w32 b.right = search rules in
    let right_moved : FitsSigned w32 c.in-Some-moved.right = search rules in
    let bottom_fits : FitsSigned w32 b.bottom = search rules in
    let bottom_moved : FitsSigned w32 c.in-Some-moved-2.bottom = search rules in
    let to : EnvelopeBounds = record {
      recurrence = envelope.recurrence;
      bounds = record {
        left = to_z w32 (of_z w32 c.in-Some-moved.left);
        top = to_z w32 (of_z w32 c.in-Some-moved-2.top);
        right = to_z w32 (of_z w32 c.in-Some-moved.right);
        bottom = to_z w32 (of_z w32 c.in-Some-moved-2.bottom);
      };
    } in
    let moved : moved_envelope shift envelope ≡ to = λ i. record {
      recurrence = envelope.recurrence;
      bounds = record {
        left = sym (moved_to b.left shift.0 c.in-Some-moved.left left_fits dx_fits left_moved c.in-Some-moved.ensures.first) i;
        top = sym (moved_to b.top shift.1 c.in-Some-moved-2.top top_fits dy_fits top_moved c.in-Some-moved-2.ensures.first) i;
        right = sym (moved_to b.right shift.0 c.in-Some-moved.right right_fits dx_fits right_moved c.in-Some-moved.ensures.last) i;
        bottom = sym (moved_to b.bottom shift.1 c.in-Some-moved-2.bottom bottom_fits dy_fits bottom_moved c.in-Some-moved-2.ensures.last) i;
      };
    } in
    subst (IsEnvelope c.args.rule.now c.args.limit c.args.pattern.now)
    (ap (λ (fact : Fact). moved_envelope shift fact.envelope) (sym c.known.view_is) ∙ moved)
    (envelope_known c.args.rule.now c.args.limit c.args.pattern.now shift c.in-Some.known.now (subst IsKnown c.known.view_is c.known.invariant) c.in-Some.ensures)
