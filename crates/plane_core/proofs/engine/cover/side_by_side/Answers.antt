use Rattle.std.proofs.Common.{◌*◌, ◌-◌, ◌<◌, rules}
use Rattle.plane_core.proofs.lemmas.engine.CoverLemmas.{beside_few, side_by_side_of}
use Rattle.plane_core.proofs.engine.cover.side_by_side.Goals as goal

pub overflow_mul-beside : goal.overflow_mul-beside
overflow_mul-beside c =
    let few = beside_few c.args.size c.abs_diff-length.result c.spans_needed-count.result c.requires.some c.spans_needed-count.ensures in
    search (rules, few, c.requires.size, c.abs_diff-length.ensures, c.requires.first, c.requires.last)

pub overflow_cast-result : goal.overflow_cast-result
overflow_cast-result c =
    let few = beside_few c.args.size c.abs_diff-length.result c.spans_needed-count.result c.requires.some c.spans_needed-count.ensures in
    search (rules, few, c.requires.size)

pub overflow_sub-result : goal.overflow_sub-result
overflow_sub-result c =
    let few = beside_few c.args.size c.abs_diff-length.result c.spans_needed-count.result c.requires.some c.spans_needed-count.ensures in
    search (rules, few, c.requires.size, c.requires.first)

pub returns : goal.returns
returns c =
    let few : c.spans_needed-count.result * c.args.size - c.abs_diff-length.result - 1 < c.args.size =
    beside_few c.args.size c.abs_diff-length.result c.spans_needed-count.result c.requires.some c.spans_needed-count.ensures in
    side_by_side_of c.args.first c.args.last _ c.args.size c.abs_diff-length.result c.spans_needed-count.result c.requires.some
    (search (rules, c.abs_diff-length.ensures)) c.spans_needed-count.ensures (search (rules, few, c.requires.size))
