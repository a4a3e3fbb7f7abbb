use Rattle.std.proofs.Common.{◌-◌, arith}
use Rattle.book.proofs.Near.{bare-down, last_some, last_none}
use Rattle.book.proofs.read.last_of.Goals as goal

pub returns-in-Some : goal.returns-in-Some
returns-in-Some g c =
    last_some g.met.S.Key.Key.lawful (g.S.Store.meaning c.args.store.now) (g.met.S.Store.sound c.args.store.now) (c.loop-q.q - 1) c.in-Some.place (λ p x y. c.loop-q.invariant p (omega arith) y) c.in-Some.ensures

pub loop-q-preserved : goal.loop-q-preserved
loop-q-preserved g c =
    let m = g.S.Store.meaning c.args.store.now in
    bare-down g.met.S.Key.Key.lawful m (g.met.S.Store.sound c.args.store.now) (c.loop-q.q - 1) m.partitions (λ p x y. c.loop-q.invariant p (omega arith) y) c.in_default.ensures

pub returns : goal.returns
returns g c = last_none g.met.S.Key.Key.lawful (g.S.Store.meaning c.args.store.now) (g.met.S.Store.sound c.args.store.now) (λ p x y. c.loop-q.invariant p (omega arith) y)
