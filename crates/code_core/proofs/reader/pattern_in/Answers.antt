use Rattle.std.proofs.Common.{◌≡◌, rules, sym, ap, ◌∙◌, None, Some, Ok}
use Rattle.plane_core.specs.plane.Cells.{set_of, off_plane}
use Rattle.std.specs.List.{position}
use Rattle.code_core.specs.Columns.{cells_from}
use Rattle.code_core.proofs.ReaderCells.{position-on_plane}
use Rattle.code_core.proofs.ReaderLoops.{Gathered_all, Gathered_more, sound, Spells-on_plane}
use Rattle.code_core.proofs.reader.pattern_in.Goals as goal

pub loop-token-preserved : goal.loop-token-preserved
loop-token-preserved c =
    Gathered_more _ _ _ _ _ _ _ _ _ _ c.loop-token.invariant c.in-Some.ensures.token c.in_ok-head.ensures.cells c.in_ok-head.ensures.strip
    c.in_ok-head.ensures.column

pub returns-in-Ok-clause-pattern : goal.returns-in-Ok-clause-pattern
returns-in-Ok-clause-pattern c =
    let s = sound c.args.text.now c.requires.sound in
    let cells : c.loop-token.cells.items ≡ cells_from 0 0 s.tokens = Gathered_all _ _ _ _ _ c.loop-token.invariant (search rules) s.tokens s.spells in
    let set : c.in-Ok.pattern ≡ set_of c.as_slice.result.now = search rules in
    s.pattern ∙ ap Ok (sym (set ∙ ap set_of (c.as_slice.ensures.value ∙ cells)))

pub unreachable-requires : goal.unreachable-requires
unreachable-requires c =
    let s = sound c.args.text.now c.requires.sound in
    let cells : c.loop-token.cells.items ≡ cells_from 0 0 s.tokens = Gathered_all _ _ _ _ _ c.loop-token.invariant (search rules) s.tokens s.spells in
    let none : position off_plane c.as_slice.result.now ≡ None = ap (position off_plane) (c.as_slice.ensures.value ∙ cells)
    ∙ position-on_plane (cells_from 0 0 s.tokens) (Spells-on_plane s.tokens c.args.text.now s.spells c.requires.short) in
    let some : position off_plane c.as_slice.result.now ≡ Some c.in-Err-OutOfPlane.field-0-0 = search rules in
    cc
