use Rattle.book.proofs.Near.{Bare}
use Rattle.book.proofs.read.first_from.Given as goal

abbrev pub invariant-loop-q : goal.invariant-loop-q
invariant-loop-q g l = Bare g.S.Key.Ord.cmp (g.S.Store.meaning l.store) l.from l.q
