-- A pattern that is a moved copy of a known shape has the shape's code, and the shape's envelope, moved likewise.
use Rattle.std.proofs.Common.{◌≡◌, ◌∙◌, ◌+ℤ◌, Err, IfNone, IfOk, None, Ok, Option, Result, Some, refl, sym, subst, ℕ, ℤ, Bool, false, not, true, List, All, arith}
use Rattle.std.proofs.lemmas.Int.{ints}
use Rattle.std.proofs.lemmas.List.Elements.{All-map}
use Rattle.plane_core.specs.declared.plane.bounds.Bounds.{Bounds}
use Rattle.plane_core.specs.declared.plane.cell.Cell.{Cell}
use Rattle.plane_core.specs.plane.Bounds.{IsWithin, shifted}
use Rattle.plane_core.specs.plane.Cells.{moved_by}
use Rattle.plane_core.specs.plane.Generations.{NeverRecurs, after}
use Rattle.plane_core.specs.plane.Rules.{Numbers}
use Rattle.plane_core.proofs.lemmas.plane.TransformLemmas.{in_order-shifted}
use Rattle.code_core.specs.Names.{IsCode}
use Rattle.code_core.proofs.MovedCodes.{after-shifted, codes_moved, recurs-shifted}
use Rattle.survey_core.specs.declared.shapes.envelope_bounds.EnvelopeBounds.{EnvelopeBounds}
use Rattle.survey_core.specs.Jobs.{same_rule}
use Rattle.survey_core.specs.shapes.Memos.{Fact, IsAbout, IsKnown}
use Rattle.survey_core.specs.shapes.RecurringShapes.{RecursWithin}
use Rattle.survey_core.specs.shapes.Envelopes.{IsEnvelope}
use Rattle.survey_core.proofs.lemmas.JobLemmas.{rules_decide}

-- the box, moved by `shift`
abbrev moved_bounds : ℤ × ℤ → Bounds → Bounds
moved_bounds shift b = record {
  left = b.left +ℤ shift.0;
  top = b.top +ℤ shift.1;
  right = b.right +ℤ shift.0;
  bottom = b.bottom +ℤ shift.1;
}

-- the envelope of a moved pattern: it recurs as before, in the moved box
abbrev pub moved_envelope : ℤ × ℤ → EnvelopeBounds → EnvelopeBounds
moved_envelope shift envelope = record { recurrence = envelope.recurrence; bounds = moved_bounds shift envelope.bounds }

-- `NeverRecurs` contradicts `RecursWithin`
pub never_recurs : (rule : Numbers) (limit : ℕ) (cells : List Cell) → NeverRecurs rule cells limit → ¬ RecursWithin rule limit cells
never_recurs rule limit cells never (r, recurs) = never r.period r.dx r.dy recurs.some recurs.within recurs.back

-- a cell moved with its box stays within it
within_moved : (shift : ℤ × ℤ) (b : Bounds) (c : Cell) → IsWithin b c → IsWithin (moved_bounds shift b) (moved_by shift.0 shift.1 c)
within_moved shift b c w = record {
  left = omega (arith, ints, w.left);
  top = omega (arith, ints, w.top);
  right = omega (arith, ints, w.right);
  bottom = omega (arith, ints, w.bottom);
}

-- if a pattern has an envelope, the moved pattern has the moved envelope
envelope_moved : (shift : ℤ × ℤ) (rule : Numbers) (limit : ℕ) (cells : List Cell) (envelope : EnvelopeBounds) → IsEnvelope rule limit cells envelope
    → IsEnvelope rule limit (shifted shift.0 shift.1 cells) (moved_envelope shift envelope)
envelope_moved shift rule limit cells envelope is = record {
  in_order = in_order-shifted shift.0 shift.1 cells is.in_order;
  recurs = recurs-shifted shift.0 shift.1 rule cells limit envelope.recurrence is.in_order is.recurs;
  within = λ g low.
      subst (All (IsWithin (moved_bounds shift envelope.bounds))) (sym (after-shifted shift.0 shift.1 rule cells g is.in_order))
      (All-map (IsWithin (moved_bounds shift envelope.bounds)) (moved_by shift.0 shift.1) (after rule cells g)
      (λ k d there. within_moved shift envelope.bounds _ (is.within g low k d there)));
}

-- a pattern that a known fact is about has the fact's envelope, moved
pub envelope_known : (rule : Numbers) (limit : ℕ) (cells : List Cell) (shift : ℤ × ℤ) (fact : Fact) → IsKnown fact → IsAbout rule limit cells shift fact
    → IsEnvelope rule limit cells (moved_envelope shift fact.envelope)
envelope_known rule limit cells shift fact known about =
    subst (λ (r : Numbers). IsEnvelope r limit cells (moved_envelope shift fact.envelope)) about.rule_is
    (subst (λ (n : ℕ). IsEnvelope fact.rule n cells (moved_envelope shift fact.envelope)) about.limit_is
    (subst (λ (S : List Cell). IsEnvelope fact.rule fact.limit S (moved_envelope shift fact.envelope)) about.shape_is
    (envelope_moved shift fact.rule fact.limit fact.shape fact.envelope known.enveloped)))

-- a pattern that a known fact is about has the fact's code
pub code_known : (rule : Numbers) (limit : ℕ) (cells : List Cell) (shift : ℤ × ℤ) (fact : Fact) → IsKnown fact → IsAbout rule limit cells shift fact
    → IsCode rule cells limit fact.code
code_known rule limit cells shift fact known about =
    subst (λ (r : Numbers). IsCode r cells limit fact.code) about.rule_is
    (subst (λ (n : ℕ). IsCode fact.rule cells n fact.code) about.limit_is
    (subst (λ (S : List Cell). IsCode fact.rule S fact.limit fact.code) about.shape_is
    (codes_moved shift.0 shift.1 fact.rule fact.shape fact.limit fact.code known.enveloped.in_order known.named)))

-- if `differs`, the result of the program's `!=` on two rules, is false, the rules are equal
pub same_rules : (one other : Numbers) (differs : Bool) → differs ≡ not (same_rule one other) → differs ≡ false → one ≡ other
same_rules one other differs told same = (rules_decide one other).0 (not_false (same_rule one other) (sym told ∙ same))
  where
    not_false : (b : Bool) → not b ≡ false → b ≡ true
    not_false true e = refl
    not_false false e = sym e

-- if `None` refutes P, it refutes each Q that implies P
pub none_of_part : {X E : Type 0} (result : Result (Option X) E) (P Q : Type 0) → (Q → P) → IfOk result (λ found. IfNone found (¬ P))
    → IfOk result (λ found. IfNone found (¬ Q))
none_of_part (Ok None) P Q part never = λ all. never (part all)
none_of_part (Ok (Some x)) P Q part never = tt
none_of_part (Err e) P Q part never = tt
