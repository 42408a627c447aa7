use Rattle.std.proofs.Common.{subst, sym}
use Rattle.std.specs.List.{All}
use Rattle.std.proofs.lemmas.List.Elements.{All-push}
use Rattle.plane_core.specs.clusters.Clusters.{IsCluster}
use Rattle.plane_core.proofs.lemmas.one_sided.FloodedLemmas.{flooded_pattern}
use Rattle.plane_core.proofs.one_sided.spaceship_candidates.add_grown.Goals as goal

pub loop-preserved : goal.loop-preserved
loop-preserved c = λ cells o shows all.
    let before : All (IsCluster cells) c.loop.clusters.items = c.loop.invariant cells o shows all in
    let one : IsCluster cells c.in_ok-pattern.pattern = subst (IsCluster cells) (sym c.in_ok-pattern.ensures)
    (flooded_pattern c.args.at c.args.rows.now c.flood-whole.new.flood c.in-Some.spot.row c.in-Some.spot.column cells c.requires.word_columns c.requires.rows
    (c.flood-whole.ensures c.if-not-whole.false) shows o) in
    subst (All (IsCluster cells)) (sym c.in_ok-push.ensures.items) (All-push (IsCluster cells) c.loop.clusters.items c.in_ok-pattern.pattern before one)

pub loop-init : goal.loop-init
loop-init c = λ cells o shows all. all

pub pattern_of-requires : goal.pattern_of-requires
pattern_of-requires c = record { frame = c.requires.frame; plane = c.requires.plane; word_columns = c.requires.word_columns; rows = c.requires.rows }

pub returns-in_default : goal.returns-in_default
returns-in_default c = c.loop.invariant

pub loop-preserved-then-not-whole : goal.loop-preserved-then-not-whole
loop-preserved-then-not-whole c = c.loop.invariant

pub loop-preserved-then-has : goal.loop-preserved-then-has
loop-preserved-then-has c = c.loop.invariant

pub returns : goal.returns
returns c = c.loop.invariant
