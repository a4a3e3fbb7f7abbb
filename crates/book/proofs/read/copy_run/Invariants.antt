use Rattle.std.proofs.Common.{◌≡◌}
use lib.Seq.{paste}
use Rattle.store.specs.Meaning.{run_at}
use Rattle.book.proofs.read.copy_run.Given as goal

abbrev pub invariant-loop-i : goal.invariant-loop-i
invariant-loop-i g l = l.slots ≡ paste l.initial.slots 0 (run_at g.S.Key.Ord.cmp (g.S.Store.meaning l.store) l.place) l.i
