use Rattle.std.proofs.Common.{◌∙◌, ◌+◌, ◌∷◌, List, ℕ, ap, subst, subst₂, sym}
use Rattle.std.proofs.lemmas.Bool.{false≢true}
use Rattle.code_core.specs.ReadingSteps.{Begins, IsStuck, has_character}
use Rattle.code_core.specs.declared.reader.Token.{Token}
use Rattle.code_core.specs.declared.reader.Token.TheVariants.{Gap}
use Rattle.code_core.proofs.TokenReading.{Begins_long_gap, Begins_single, no_character, stuck_at_end}
use Rattle.code_core.proofs.reader.first_token.Goals as goal

pub returns-then-byte-ne-MANY_EMPTY-clause-token : goal.returns-then-byte-ne-MANY_EMPTY-clause-token
returns-then-byte-ne-MANY_EMPTY-clause-token c =
    Begins_single c.args.text.now c.single.result c.in-Some.byte.now c.in-Some.remainder.now c.in-Some.ensures.cases.0 c.single.ensures
    (sym c.is_character.ensures ∙ c.if-not-is_character.false) c.if-byte-ne-MANY_EMPTY.true

pub returns-in_default-clause-none : goal.returns-in_default-clause-none
returns-in_default-clause-none c = stuck_at_end c.args.text.now c.in_default.ensures.cases

pub returns-then-not-is_character-clause-none : goal.returns-then-not-is_character-clause-none
returns-then-not-is_character-clause-none c =
    subst IsStuck (sym c.in-Some.ensures.cases.0)
    (λ h. absurd (false≢true (sym c.if-not-is_character.true ∙ c.is_character.ensures ∙ h)))

pub returns-in_default-split_first-clause-none : goal.returns-in_default-split_first-clause-none
returns-in_default-split_first-clause-none c =
    subst IsStuck (sym c.in-Some.ensures.cases.0)
    (λ h. (c.if-byte-ne-MANY_EMPTY.false, no_character c.in-Some.remainder.now c.in_default-split_first.ensures.cases))

pub returns-then-not-is_character-2-clause-none : goal.returns-then-not-is_character-2-clause-none
returns-then-not-is_character-2-clause-none c =
    subst IsStuck (sym c.in-Some.ensures.cases.0) (λ h. (
      c.if-byte-ne-MANY_EMPTY.false,
      ap has_character c.in-Some-split_first.ensures.cases.0 ∙ sym c.is_character-2.ensures ∙ c.if-not-is_character-2.true,
    ))

pub character_value-requires : goal.character_value-requires
character_value-requires c = sym c.is_character-2.ensures ∙ c.if-not-is_character-2.false

pub returns-clause-token : goal.returns-clause-token
returns-clause-token c =
    let length = c.in-Some-split_first.length.now in
    let remainder = c.in-Some-split_first.remainder.now in
    subst₂ (λ (text : List ℕ) (token : Token). Begins text token remainder)
    (sym (c.in-Some.ensures.cases.0 ∙ (λ i. c.if-byte-ne-MANY_EMPTY.false i ∷ c.in-Some-split_first.ensures.cases.0 i)))
    (ap (λ n. Gap (n + 4)) (sym c.character_value.ensures.value))
    (Begins_long_gap length remainder (sym c.is_character-2.ensures ∙ c.if-not-is_character-2.false))
