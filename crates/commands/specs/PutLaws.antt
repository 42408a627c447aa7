-- Two laws of `PutsReports`, which says what was written for a list of reports: it holds for an empty list, and if it
-- holds for one list and then for another, it holds for both lists joined.
use Rattle.std.proofs.Common.{◌≡◌, ◌++◌, ◌∙◌, ℕ, Bool, List, [], Option, ap, false, refl, subst, sym, true}
use Rattle.std.proofs.KnownBytes.{Appends-nil}
use Rattle.std.proofs.lemmas.Grind.{flat_map-append}
use Rattle.std.proofs.lemmas.List.Elements.{All-append, All-nil}
use Rattle.plane_core.proofs.lemmas.OutputLemmas.{Appends-append, AppendsPrefix-append, AppendsPrefix-longer}
use Rattle.plane_core.specs.Outputs.{AppendsPrefix, Output}
use Rattle.std.specs.Io.KnownBytes.{Appends}
use Rattle.haul_core.specs.Reports.{IsReport, Reported}
use Rattle.commands.specs.LateReports.{PutsReports, late_line, late_lines}

module _ {V : Type 0} (contents : V → Option (List ℕ)) (from : ℕ) where
  -- `PutsReports` holds for an empty list of reports if nothing has changed
  pub puts_none : (s : Output V) → PutsReports contents from s s []
  puts_none s = record {
    right = All-nil IsReport;
    whole = λ fine. (fine, Appends-nil (contents s.writer));
    prefix = ([], [], refl, Appends-nil (contents s.writer));
    stays = λ failed. refl;
  }

  -- if `PutsReports` holds for `xs` and then for `ys`, it holds for both lists joined
  pub puts_more : (s m t : Output V) (xs ys : List Reported) → PutsReports contents from s m xs → PutsReports contents from m t ys
      → PutsReports contents from s t (xs ++ ys)
  puts_more s m t xs ys p q = record {
    right = All-append IsReport xs ys p.right q.right;
    whole = λ fine.
        let later = q.whole fine in
        let first = p.whole later.0 in
        (first.0, subst (Appends before after) lines (Appends-append before (contents m.writer) after one more first.1 later.1));
    prefix = subst (AppendsPrefix before after) lines (both m.failed refl);
    stays = λ failed. q.stays (ap (λ (o : Output V). o.failed) (p.stays failed) ∙ failed) ∙ p.stays failed;
  }
    where
      before : Option (List ℕ)
      before = contents s.writer

      after : Option (List ℕ)
      after = contents t.writer

      one : List ℕ
      one = late_lines from xs

      more : List ℕ
      more = late_lines from ys

      lines : one ++ more ≡ late_lines from (xs ++ ys)
      lines = sym (flat_map-append (late_line from) xs ys)

      both : (b : Bool) → m.failed ≡ b → AppendsPrefix before after (one ++ more)
      both true is =
          subst (λ (o : Output V). AppendsPrefix before (contents o.writer) (one ++ more)) (sym (q.stays is))
          (AppendsPrefix-longer before (contents m.writer) one more p.prefix)
      both false is = AppendsPrefix-append before (contents m.writer) after one more (p.whole is).1 q.prefix
