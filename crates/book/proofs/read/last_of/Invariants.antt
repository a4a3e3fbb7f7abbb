use Rattle.book.proofs.Near.{Bare}
use Rattle.book.proofs.read.last_of.Given as goal

abbrev pub invariant-loop-q : goal.invariant-loop-q
invariant-loop-q g l = Bare g.S.Key.Ord.cmp (g.S.Store.meaning l.store) l.q (g.S.Store.meaning l.store).partitions
