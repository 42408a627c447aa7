-- The line of a report, written piece by piece.
use Rattle.std.proofs.Common.{◌≡◌, ◌∙◌, ℕ, Bool, List, [], ◌++◌, None, Some, ap, sym, arith, append_assoc, codes, decimal, flat_map, map, refl}
use Rattle.std.proofs.lemmas.Fmt.{decimal_digit}
use Rattle.std.proofs.lemmas.Grind.{flat_map-append}
use Rattle.std.proofs.lemmas.List.{append-nil}
use Rattle.std.proofs.lemmas.List.Folds.{flat_map-map}
use Rattle.plane_core.specs.plane.Rules.{rule_text}
use Rattle.survey_core.specs.Profiles.{Settling}
use Rattle.haul_core.specs.HaulTexts.{line_of, spaced}
use Rattle.haul_core.specs.ReportLines.{claim_of, count_field, found_fields, claim_line, head_fields, mark_fields, profile_field, report_text, said_of}
use Rattle.haul_core.specs.Reports.{Reported}

-- ---- the profile

abbrev pub after_stride : Settling → List ℕ
after_stride p = codes "," ++ decimal p.limit

abbrev pub after_horizon : Settling → List ℕ
after_horizon p = (codes "," ++ decimal p.stride) ++ after_stride p

abbrev pub after_period : Settling → List ℕ
after_period p = (codes "," ++ decimal p.horizon) ++ after_horizon p

pub profile_spelled : (p : Settling) → (codes " profile=" ++ decimal p.period) ++ after_period p ≡ spaced (profile_field p)
unfolding profile_field
profile_spelled p = refl

-- ---- the fields before the finding

abbrev pub soup_word : Reported → List ℕ
soup_word report = codes " soup=" ++ decimal report.number

abbrev pub after_seed : Reported → List ℕ
after_seed report = (codes " worker=" ++ decimal report.worker) ++ soup_word report

abbrev pub after_profile : Reported → List ℕ
after_profile report = codes " seed=" ++ (report.job.seed ++ after_seed report)

abbrev pub after_rule : Reported → List ℕ
after_rule report = spaced (profile_field report.job.profile) ++ after_profile report

pub head_spelled : (report : Reported)
    → codes "report 2 rule=" ++ (rule_text report.job.rule ++ after_rule report) ≡ line_of (codes "report") (head_fields (claim_of 2 report))
unfolding line_of head_fields
head_spelled report =
    let version : codes "2" ≡ decimal 2 = sym (decimal_digit 2 (omega arith)) in
    ap (λ (last : List ℕ). codes "report 2 rule=" ++ (rule_text report.job.rule ++ (spaced (profile_field report.job.profile)
    ++ (codes " seed=" ++ (report.job.seed ++ ((codes " worker=" ++ decimal report.worker) ++ last)))))) (sym (append-nil (soup_word report)))
    ∙ ap (λ (v : List ℕ). codes "report " ++ (v ++ (codes " rule=" ++ (rule_text report.job.rule ++ (spaced (profile_field report.job.profile)
    ++ (codes " seed=" ++ (report.job.seed ++ ((codes " worker=" ++ decimal report.worker) ++ (soup_word report ++ []))))))))) version

-- ---- the finding

pub unsettled_spelled : codes " unsettled" ≡ flat_map spaced (found_fields None)
unfolding found_fields
unsettled_spelled = refl

abbrev pub counts_text : List (List ℕ × ℕ) → List ℕ
counts_text counts = flat_map (λ object. spaced (count_field object)) counts

pub said_spelled : (checkpoint : ℕ) (for_good : Bool) (counts : List (List ℕ × ℕ))
    → (codes " at=" ++ decimal checkpoint) ++ (flat_map spaced (mark_fields (Some for_good)) ++ counts_text counts)
    ≡ flat_map spaced (found_fields (Some (record { checkpoint = checkpoint; for_good = Some for_good; counts = counts })))
unfolding found_fields
said_spelled checkpoint for_good counts =
    ap (λ (remainder : List ℕ). (codes " at=" ++ decimal checkpoint) ++ remainder)
    (sym (flat_map-append spaced (mark_fields (Some for_good)) (map count_field counts)
    ∙ ap (λ (remainder : List ℕ). flat_map spaced (mark_fields (Some for_good)) ++ remainder) (flat_map-map spaced count_field counts)))

-- ---- the whole line

line_append : (name : List ℕ) (fields more : List (List ℕ)) → line_of name (fields ++ more) ≡ line_of name fields ++ flat_map spaced more
unfolding line_of
line_append name fields more =
    ap (λ (remainder : List ℕ). name ++ remainder) (flat_map-append spaced fields more)
    ∙ sym (append_assoc name (flat_map spaced fields) (flat_map spaced more))

abbrev pub after_head : Reported → List ℕ
after_head report = flat_map spaced (found_fields (said_of 2 report.finding)) ++ codes "\n"

pub report_spelled : (report : Reported) → line_of (codes "report") (head_fields (claim_of 2 report)) ++ after_head report ≡ report_text report
unfolding claim_line
report_spelled report =
    let head : List (List ℕ) = head_fields (claim_of 2 report) in
    let found : List (List ℕ) = found_fields (said_of 2 report.finding) in
    sym (ap (λ (line : List ℕ). line ++ codes "\n") (line_append (codes "report") head found)
    ∙ append_assoc (line_of (codes "report") head) (flat_map spaced found) (codes "\n"))
