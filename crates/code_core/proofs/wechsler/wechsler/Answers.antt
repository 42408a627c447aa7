use Rattle.std.proofs.Common.{◌≡◌, List, Option, option_map, string_bytes, subst, ℕ}
use Rattle.std.specs.Prelude.{IfOk}
use Rattle.code_core.proofs.ImageRows.{text-same}
use Rattle.code_core.proofs.wechsler.wechsler.Goals as goal

-- the text of the image in the orientation `Same` is the text of the pattern
pub returns : goal.returns
returns c =
    subst (λ (text : Option (List ℕ)). IfOk c.image_text.result (λ found. option_map string_bytes found ≡ text))
    (text-same c.args.pattern.now c.recall_order.ensures.in_order) c.image_text.ensures
