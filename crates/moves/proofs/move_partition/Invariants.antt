use Rattle.store.specs.Meaning.{values_in}
use Rattle.moves.proofs.Steps.{Moving}
use Rattle.moves.proofs.move_partition.Given as goal

abbrev pub invariant-loop-place : goal.invariant-loop-place
invariant-loop-place g l =
    let w = g.W.Store.meaning in
    let s = g.S.Store.meaning in
    Moving g.W.Key.Ord.cmp (w l.initial.windows) (s l.initial.side) (w l.windows) (s l.side) l.partition

abbrev pub decreases-loop-place : goal.decreases-loop-place
decreases-loop-place g l = values_in (g.W.Store.meaning l.windows) l.partition
