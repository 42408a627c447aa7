use Rattle.std.proofs.Common.{◌≡◌, ◌∙◌, List, pos, refl, string_bytes, subst, sym, true}
use Rattle.plane_core.specs.declared.plane.cell.Cell.{Cell}
use Rattle.plane_core.specs.plane.Orientations.{turned}
use Rattle.plane_core.specs.windows.Rows.{ShowsInAllRows}
use Rattle.code_core.proofs.ImageRows.{image_is_small, image_written, no_text_of_image, no_text_of_nothing}
use Rattle.code_core.specs.Texts.{fits_forty_square}
use Rattle.code_core.proofs.wechsler.image_text.Goals.{After-image_box}
use Rattle.code_core.proofs.wechsler.image_text.Goals as goal

pub returns-in_default : goal.returns-in_default
returns-in_default c = sym (no_text_of_nothing c.args.orientation c.args.pattern.now (c.in_default.ensures.none.0 refl))

pub returns-then-not-fits_forty_square : goal.returns-then-not-fits_forty_square
returns-then-not-fits_forty_square c =
    sym (no_text_of_image c.args.orientation c.args.pattern.now c.in-Some.bounds (sym c.in-Some.ensures.bounds)
    (sym c.fits_forty_square.ensures ∙ c.if-not-fits_forty_square.true))

small : (c : After-image_box) → fits_forty_square c.in-Some.bounds ≡ true
small c = sym c.fits_forty_square.ensures ∙ c.if-not-fits_forty_square.false

pub text_in-requires-clause-width : goal.text_in-requires-clause-width
text_in-requires-clause-width c =
    (image_is_small c.args.orientation c.in-Some.bounds c.image_box.result c.image_box.ensures (small (goal.at.text_in-requires-clause-width c).After-image_box)).0

pub text_in-requires-clause-height : goal.text_in-requires-clause-height
text_in-requires-clause-height c =
    (image_is_small c.args.orientation c.in-Some.bounds c.image_box.result c.image_box.ensures (small (goal.at.text_in-requires-clause-height c).After-image_box)).1

pub returns : goal.returns
returns c =
    let shown : ShowsInAllRows (pos 0) (pos 0) c.image_rows-rows.result (turned c.args.orientation c.args.pattern.now) =
    subst (λ (cells : List Cell). ShowsInAllRows (pos 0) (pos 0) c.image_rows-rows.result (turned c.args.orientation cells)) c.cells.ensures.cells
    c.image_rows-rows.ensures in
    image_written c.args.orientation c.args.pattern.now c.in-Some.bounds c.image_box.result c.image_rows-rows.result (string_bytes c.in_ok-text.text)
    c.image_box.ensures (sym c.in-Some.ensures.bounds) (small (goal.at.returns c).After-image_box) shown c.in_ok-text.ensures
