-- The behaviour of `census soup`.
use Rattle.std.specs.Prelude.{ℕ, List, Result, Ok, true, false}
use Rattle.std.specs.Result.{result_map_both}
use Rattle.requests.specs.declared.form.PatternForm.{PatternForm}
use Rattle.survey_core.specs.declared.seed.SeedFault.{SeedFault}
use Rattle.survey_core.specs.declared.seed.SeedFault.TheVariants as error
use Rattle.survey_core.specs.Seeds.{seed_read}
use Rattle.survey_core.specs.Soups.{soup}
use Rattle.pattern_commands.specs.declared.ending.complaint.Complaint.{Complaint}
use Rattle.pattern_commands.specs.declared.ending.complaint.Complaint.TheVariants.{Refused}
use Rattle.pattern_commands.specs.declared.ending.refusal.Refusal.TheVariants.{SeedBadByte, SeedTooLong}
use Rattle.pattern_commands.specs.Answers.{Answer, given, only}
use Rattle.pattern_commands.specs.PatternText.{pattern_text}
use Rattle.pattern_commands.specs.Behaviours.{Behaviour, text_behaviour}

-- the complaint about a seed
abbrev pub seed_complaint : SeedFault → Complaint
seed_complaint error.TooLong = Refused SeedTooLong
seed_complaint (error.BadByte place) = Refused (SeedBadByte place)

-- the seed with this text, or the complaint about the text
abbrev pub seed_named : List ℕ → Result (List ℕ) Complaint
seed_named text = result_map_both (λ seed. seed) seed_complaint (seed_read text)

-- the text of the soup with this number, or the complaint about the seed
abbrev pub soup_answer : PatternForm → List ℕ → ℕ → Answer
soup_answer form seed_text number = given (seed_named seed_text) (λ seed. Ok (pattern_text form (soup seed number)))

-- the behaviour of `soup`
abbrev pub soup_behaviour : PatternForm → List ℕ → ℕ → Behaviour
soup_behaviour form seed_text number = text_behaviour false true (λ bytes. only (soup_answer form seed_text number))
