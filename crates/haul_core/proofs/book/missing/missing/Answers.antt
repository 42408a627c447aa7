use Rattle.std.proofs.Common.{◌≡◌, ◌∙◌, ◌+◌, ◌++◌, ◌<◌, ◌∷◌, [], ℕ, List, ap, append-nil, filter, get_or, length, sym, take}
use Rattle.std.proofs.lemmas.List.{take_more}
use Rattle.std.proofs.lemmas.List.Concat.{flat_map-append}
use Rattle.std.proofs.lemmas.List.Elements.{filter-append}
use Rattle.std.proofs.lemmas.Result.{IfOk-from_err}
use Rattle.haul_core.specs.Missing.{numbers_of, numbers_of_range}
use Rattle.haul_core.specs.MissingSteps.{has_no_worker}
use Rattle.ranges.specs.declared.range.Range.{Range}
use Rattle.haul_core.proofs.book.missing.missing.Goals as goal

missing_more : (workers : List (ℕ × ℕ)) (ranges : List Range) (i : ℕ) (d : Range) → i < length ranges
    → filter (has_no_worker workers) (numbers_of (take (i + 1) ranges))
    ≡ filter (has_no_worker workers) (numbers_of (take i ranges)) ++ filter (has_no_worker workers) (numbers_of_range (get_or ranges i d))
missing_more workers ranges i d h =
    let range : Range = get_or ranges i d in
    let prefix : List Range = take i ranges in
    ap (λ (rs : List Range). filter (has_no_worker workers) (numbers_of rs)) (take_more ranges i d h)
    ∙ ap (filter (has_no_worker workers)) (flat_map-append numbers_of_range prefix (range ∷ [])
    ∙ ap (λ (ns : List ℕ). numbers_of prefix ++ ns) (append-nil (numbers_of_range range)))
    ∙ filter-append (has_no_worker workers) (numbers_of prefix) (numbers_of_range range)

pub loop-range-init : goal.loop-range-init
loop-range-init c = c.new-missing.ensures.items

pub add_missing-requires : goal.add_missing-requires
add_missing-requires c = c.requires c.loop-range.range-index (record { first = 0; count = 0 }) c.loop-range-test.true

pub returns-in_err-add_missing : goal.returns-in_err-add_missing
returns-in_err-add_missing c = IfOk-from_err _ _ c.from_residual.ensures.0

pub loop-range-preserved : goal.loop-range-preserved
loop-range-preserved c =
    let kept = filter (has_no_worker c.args.worker_of.now.entries) in
    let range : Range = get_or c.args.ranges.now c.loop-range.range-index (record { first = 0; count = 0 }) in
    c.in_ok-add_missing.ensures ∙ ap (λ (ns : List ℕ). ns ++ kept (numbers_of_range range)) c.loop-range.invariant
    ∙ sym (missing_more c.args.worker_of.now.entries c.args.ranges.now c.loop-range.range-index (record { first = 0; count = 0 }) c.loop-range-test.true)
