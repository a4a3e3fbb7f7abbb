use Rattle.std.proofs.Common.{take}
use Rattle.store.specs.Meaning.{run_at}
use Rattle.moves.specs.Moving.{Appended}
use Rattle.moves.proofs.copy_run.Given as goal

abbrev pub invariant-loop-i : goal.invariant-loop-i
invariant-loop-i g l =
    let s = g.S.Store.meaning in
    Appended g.W.Key.Ord.cmp (s l.initial.to) (s l.to) l.place (take l.i (run_at g.W.Key.Ord.cmp (g.W.Store.meaning l.from) l.place))
