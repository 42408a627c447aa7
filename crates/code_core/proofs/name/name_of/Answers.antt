use Rattle.std.proofs.Common.{◌≡◌, option_map, string_bytes, rules, ℕ, List}
use Rattle.std.proofs.lemmas.Result.{IfOk-weaker}
use Rattle.std.specs.Prelude.{IfOk, IfSome}
use Rattle.plane_core.specs.plane.Rules.{Numbers}
use Rattle.code_core.specs.Least.{IsNameBy}
use Rattle.code_core.specs.Names.{IsCode}
use Rattle.code_core.specs.Recurrences.{IsCycle}
use Rattle.code_core.specs.Texts.{HasTextShape}
use Rattle.code_core.proofs.LeastLemmas.{named_by, shape_of_least}
use Rattle.code_core.proofs.name.name_of.Goals as goal

-- the least text is the text of an image, so it has the shape of texts
pub make-requires : goal.make-requires
make-requires c =
    let shape : IfSome (option_map string_bytes c.in_ok-least.least) HasTextShape = shape_of_least c.as_slice.result.now _ c.in_ok-least.ensures in
    let same : option_map (λ t. t.now) c.as_deref.result ≡ option_map string_bytes c.in_ok-least.least = c.as_deref.ensures.value in
    rw same shape

pub returns : goal.returns
returns c =
    let cells = c.args.pattern.now in
    let phases = c.args.cycle.now.phases.items in
    let back = c.args.cycle.now.recurrence in
    let named : IfOk c.make.result (IsNameBy cells phases back) = search rules in
    IfOk-weaker c.make.result (IsNameBy cells phases back)
    (λ (code : List ℕ). (rule : Numbers) (limit : ℕ) → IsCycle rule cells limit phases back → IsCode rule cells limit code)
    (λ (code : List ℕ) told rule limit is. named_by rule cells limit phases back code is told) named
