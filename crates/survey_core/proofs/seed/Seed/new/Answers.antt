use Rattle.std.proofs.Common.{◌≡◌, ◌∙◌, ap, get_or, set, sym, List, ℕ, ◌++◌, ◌-◌, ◌≤◌, length, replicate, take, arith, refl, subst, position, None, Ok, Some}
use Rattle.std.proofs.Math.Seq.{take-append_seam}
use Rattle.std.proofs.lemmas.Iterator.Adapters.{position_from-zero}
use Rattle.survey_core.specs.Seeds.{IsSeed, is_invisible, most_bytes, seed_read}
use Rattle.survey_core.proofs.lemmas.SeedLemmas.{all_visible, invisible_here, invisible_later, invisible_nowhere, padded_all, padded_more, read_as}
use Rattle.survey_core.proofs.seed.Seed.new.Goals as goal

pub loop-place-init : goal.loop-place-init
loop-place-init c = record { padded = refl; seen = sym (position_from-zero is_invisible c.as_bytes-bytes.result.now) }

pub returns-then-not-is_visible : goal.returns-then-not-is_visible
returns-then-not-is_visible c =
    let bytes : List ℕ = c.as_bytes-bytes.result.now in
    let place = c.loop-place.place in
    let found : position is_invisible bytes ≡ Some place =
    sym c.loop-place.invariant.seen ∙ invisible_here bytes place c.loop-place-test.true (sym c.if-not-is_visible.ensures) in
    let short : length bytes ≤ 64 = omega arith in
    read_as bytes (Some place) short found ∙ ap seed_read c.as_bytes-bytes.ensures.value

pub loop-place-preserved : goal.loop-place-preserved
loop-place-preserved c =
    let bytes : List ℕ = c.as_bytes-bytes.result.now in
    let place = c.loop-place.place in
    let short : length bytes ≤ 64 = omega arith in
    record {
      padded = ap (λ (padded : List ℕ). set padded place (get_or bytes place 0)) c.loop-place.invariant.padded
          ∙ padded_more bytes place c.loop-place-test.true short;
      seen = sym (invisible_later bytes place c.loop-place-test.true (sym c.if-not-is_visible.ensures)) ∙ c.loop-place.invariant.seen;
    }

-- the bytes before the zeros are the text
pub invariant_of-result : goal.invariant_of-result
invariant_of-result c =
    let bytes : List ℕ = c.as_bytes-bytes.result.now in
    let short : length bytes ≤ 64 = omega arith in
    let padded : c.loop-place.padded ≡ bytes ++ replicate (most_bytes - length bytes) 0 =
    c.loop-place.invariant.padded ∙ padded_all bytes c.loop-place.place c.loop-place.auto.place-end c.loop-place-test.false in
    let none : position is_invisible bytes ≡ None =
    sym c.loop-place.invariant.seen ∙ invisible_nowhere bytes c.loop-place.place c.loop-place-test.false in
    let prefix : take (length bytes) c.loop-place.padded ≡ bytes = ap (take (length bytes)) padded
    ∙ take-append_seam bytes (replicate (most_bytes - length bytes) 0) in (
      (λ i. prefix i ++ replicate (most_bytes - length (prefix i)) 0) ∙ sym padded,
      ap length prefix,
      subst IsSeed (sym prefix) (record { short = short; visible = all_visible bytes none }),
    )

pub returns : goal.returns
returns c =
    let bytes : List ℕ = c.as_bytes-bytes.result.now in
    let none : position is_invisible bytes ≡ None =
    sym c.loop-place.invariant.seen ∙ invisible_nowhere bytes c.loop-place.place c.loop-place-test.false in
    let prefix : take (length bytes) c.loop-place.padded ≡ bytes = ap (take (length bytes)) (c.loop-place.invariant.padded
    ∙ padded_all bytes c.loop-place.place c.loop-place.auto.place-end c.loop-place-test.false)
    ∙ take-append_seam bytes (replicate (most_bytes - length bytes) 0) in
    let short : length bytes ≤ 64 = omega arith in
    (λ i. Ok (prefix i)) ∙ read_as bytes None short none ∙ ap seed_read c.as_bytes-bytes.ensures.value
