-- The line of a lawful claim has no line feed. A text made of lines without line feeds is cut into these lines again.
use Rattle.std.proofs.Common.{ℕ, zero, suc, ◌≡◌, ◌∙◌, ap, refl, ◌≤◌, append_assoc, cond, ◌++◌, ◌∷◌, List, [], Bool, true, false, Option, None, Some, arith, codes, decimal, flat_map, map}
use Rattle.std.specs.List.{AllByRecursion, list_all}
use Rattle.std.proofs.lemmas.Bool.{and_parts, leb-true, ne_eqb}
use Rattle.std.proofs.lemmas.List.Elements.{recursion_from_All}
use Rattle.plane_core.specs.plane.Rules.{rule_text}
use Rattle.survey_core.specs.Profiles.{Settling}
use Rattle.survey_core.specs.Seeds.{is_visible}
use Rattle.haul_core.specs.HaulTexts.{line_of, spaced, text_of}
use Rattle.haul_core.specs.LawfulClaims.{Claimed, IsClaim, IsCount, IsFound, SaidOfSoup}
use Rattle.haul_core.specs.ReportLines.{claim_line, count_field, found_fields, head_fields, mark_field, mark_fields, profile_field}
use Rattle.commands.specs.Lines.{IsOneLine, begun_with, input_lines}
use Rattle.laws.proofs.TextLemmas.{AllVisible, all-append, code_visible, decimal_visible, is_printed, rule_visible, visible_printed}

one_line : (text : List ℕ) → list_all is_printed text ≡ true → IsOneLine text
one_line [] h k d low = absurd (omega arith)
one_line (b ∷ bs) h zero d low = λ e.
    let printed : 32 ≤ b = leb-true 32 b (and_parts (is_printed b) (list_all is_printed bs) h).0 in
    absurd (omega (arith, printed, e))
one_line (b ∷ bs) h (suc k) d low = one_line bs (and_parts (is_printed b) (list_all is_printed bs) h).1 k d (omega arith)

abbrev AreVisible : List (List ℕ) → Type 0
AreVisible fields = AllByRecursion AllVisible fields

visible-append-fields : (fs gs : List (List ℕ)) → AreVisible fs → AreVisible gs → AreVisible (fs ++ gs)
visible-append-fields [] gs h k = k
visible-append-fields (f ∷ fs) gs h k = (h.0, visible-append-fields fs gs h.1 k)

after_name : (name text : List ℕ) → AllVisible name → AllVisible text → AllVisible (name ++ text)
after_name name text h k = all-append is_visible name text h k

then_number : (n : ℕ) (text : List ℕ) → AllVisible text → AllVisible (decimal n ++ 44 ∷ text)
then_number n text h = after_name (decimal n) (44 ∷ text) (decimal_visible n) h

profile_visible : (p : Settling) → AllVisible (profile_field p)
unfolding profile_field
profile_visible p =
    after_name (codes "profile=") (decimal p.period ++ 44 ∷ (decimal p.horizon ++ 44 ∷ (decimal p.stride ++ 44 ∷ decimal p.limit))) refl
    (then_number p.period (decimal p.horizon ++ 44 ∷ (decimal p.stride ++ 44 ∷ decimal p.limit))
    (then_number p.horizon (decimal p.stride ++ 44 ∷ decimal p.limit) (then_number p.stride (decimal p.limit) (decimal_visible p.limit))))

counts_visible : (counts : List (List ℕ × ℕ)) → AllByRecursion IsCount counts → AreVisible (map count_field counts)
counts_visible [] h = tt
counts_visible (o ∷ counts) h =
    (after_name o.0 (42 ∷ decimal o.1) (code_visible o.0 h.0.code.bytes) (decimal_visible o.1), counts_visible counts h.1)

mark_visible : (for_good : Bool) → AllVisible (mark_field for_good)
unfolding mark_field
mark_visible true = refl
mark_visible false = refl

marks_visible : (for_good : Option Bool) → AreVisible (mark_fields for_good)
unfolding mark_fields
marks_visible None = tt
marks_visible (Some for_good) = (mark_visible for_good, tt)

found_visible : (version : ℕ) (found : Option SaidOfSoup) → IsFound version found → AreVisible (found_fields found)
unfolding found_fields
found_visible version None h = (refl, tt)
found_visible version (Some said) h = (
  after_name (codes "at=") (decimal said.checkpoint) refl (decimal_visible said.checkpoint),
  visible-append-fields (mark_fields said.for_good) (map count_field said.counts) (marks_visible said.for_good)
      (counts_visible said.counts (recursion_from_All IsCount said.counts h.counts)),
)

head_visible : (claim : Claimed) → IsClaim claim → AreVisible (head_fields claim)
unfolding head_fields
head_visible claim h = (
  decimal_visible claim.version,
  (
    after_name (codes "rule=") (rule_text claim.job.rule) refl (rule_visible claim.job.rule h.rule),
    (
      profile_visible claim.job.profile,
      (
        after_name (codes "seed=") claim.job.seed refl h.seed.visible,
        (
          after_name (codes "worker=") (decimal claim.worker) refl (decimal_visible claim.worker),
          (after_name (codes "soup=") (decimal claim.number) refl (decimal_visible claim.number), tt),
        ),
      ),
    ),
  ),
)

spaced_printed : (fields : List (List ℕ)) → AreVisible fields → list_all is_printed (flat_map spaced fields) ≡ true
spaced_printed [] h = refl
spaced_printed (f ∷ fs) h = all-append is_printed (32 ∷ f) (flat_map spaced fs) (visible_printed f h.0) (spaced_printed fs h.1)

pub claim_one_line : (claim : Claimed) → IsClaim claim → IsOneLine (claim_line claim)
unfolding claim_line line_of
claim_one_line claim h =
    one_line (codes "report" ++ flat_map spaced (head_fields claim ++ found_fields claim.found))
    (all-append is_printed (codes "report") (flat_map spaced (head_fields claim ++ found_fields claim.found)) refl
    (spaced_printed (head_fields claim ++ found_fields claim.found)
    (visible-append-fields (head_fields claim) (found_fields claim.found) (head_visible claim h) (found_visible claim.version claim.found h.found))))

-- ---- the lines of a text

first_line : (line more : List ℕ) → IsOneLine line → input_lines (line ++ 10 ∷ more) ≡ line ∷ input_lines more
first_line [] more one = refl
first_line (b ∷ line) more one =
    ap (λ (ends : Bool). cond ends ([] ∷ input_lines (line ++ 10 ∷ more)) (begun_with b (input_lines (line ++ 10 ∷ more))))
    (ne_eqb b 10 (one 0 b (omega arith)))
    ∙ ap (begun_with b) (first_line line more (λ k d low. one (suc k) d (omega arith)))

-- a text that is made of lines without line feeds is cut into the same lines again
pub lines_of_text : (lines : List (List ℕ)) → AllByRecursion IsOneLine lines → input_lines (text_of lines) ≡ lines
unfolding text_of
lines_of_text [] each = refl
lines_of_text (line ∷ lines) each =
    ap input_lines (append_assoc line (10 ∷ []) (text_of lines)) ∙ first_line line (text_of lines) each.0
    ∙ ap (λ (more : List (List ℕ)). line ∷ more) (lines_of_text lines each.1)
