use Rattle.std.proofs.Common.{length}
use Rattle.store.specs.Meaning.{run_at}
use Rattle.store.proofs.Thins.{Thins}
use Rattle.store.proofs.store.Store.remove_run.Given as goal

abbrev pub invariant-loop-self : goal.invariant-loop-self
invariant-loop-self g l =
    Thins g.Self.Key.Ord.cmp (g.Self.Store.meaning l.initial.self) (g.Self.Store.meaning l.self) l.place

abbrev pub decreases-loop-self : goal.decreases-loop-self
decreases-loop-self g l = length (run_at g.Self.Key.Ord.cmp (g.Self.Store.meaning l.self) l.place)
