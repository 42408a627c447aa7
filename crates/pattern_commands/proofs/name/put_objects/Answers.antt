use Rattle.std.proofs.Common.{◌++◌, ◌+◌, drop, flat_map, sym}
use Rattle.plane_core.proofs.lemmas.OutputLemmas.{Writes_same, Writes_then, Writes_stops}
use Rattle.pattern_commands.specs.Name.{object_line}
use Rattle.pattern_commands.proofs.NameLemmas.{lines_more}
use Rattle.pattern_commands.proofs.name.put_objects.Goals as goal

pub loop-object-preserved : goal.loop-object-preserved
loop-object-preserved g c =
    let prefix = c.loop-object.invariant in
    let objects = c.args.objects.now in
    let i = c.loop-object.object-index in (
      prefix.0 ++ object_line c.object-item.result,
      lines_more object_line objects i c.object-item.result (flat_map object_line objects) prefix.0 c.loop-object-test.true c.object-item.is prefix.1,
      Writes_then prefix.2 c.in_ok-put_object.ensures,
    )

pub returns-in_err-put_object : goal.returns-in_err-put_object
returns-in_err-put_object g c =
    let prefix = c.loop-object.invariant in
    let objects = c.args.objects.now in
    let i = c.loop-object.object-index in
    let more = lines_more object_line objects i c.object-item.result (flat_map object_line objects) prefix.0 c.loop-object-test.true c.object-item.is prefix.1 in
    Writes_same (sym more) (Writes_stops (flat_map object_line (drop (i + 1) objects)) c.from_residual.ensures.0
    (Writes_then prefix.2 c.in_err-put_object.ensures))
