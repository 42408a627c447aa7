-- The behaviour of `census run`.
use Rattle.std.specs.Prelude.{ℕ, List, Ok, true, is_ok}
use Rattle.plane_core.specs.plane.Generations.{after}
use Rattle.requests.specs.declared.form.PatternForm.{PatternForm}
use Rattle.pattern_commands.specs.Answers.{Answer, given, only}
use Rattle.pattern_commands.specs.Inputs.{rule_named, pattern_of}
use Rattle.pattern_commands.specs.PatternText.{pattern_text}
use Rattle.pattern_commands.specs.Behaviours.{Behaviour, text_behaviour}

-- the text of the pattern after n generations; first the rule is checked, and then the input
abbrev pub run_answer : PatternForm → List ℕ → ℕ → List ℕ → Answer
run_answer form rule_text n bytes =
    given (rule_named rule_text) (λ rule. given (pattern_of bytes) (λ cells. Ok (pattern_text form (after rule cells n))))

-- the behaviour of `run`; the input is read only if the rule is valid
abbrev pub run_behaviour : PatternForm → List ℕ → ℕ → Behaviour
run_behaviour form rule_text n =
    text_behaviour (is_ok (rule_named rule_text)) true (λ bytes. only (run_answer form rule_text n bytes))
