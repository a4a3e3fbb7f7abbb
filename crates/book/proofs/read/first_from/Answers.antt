use Rattle.std.proofs.Common.{arith}
use Rattle.book.proofs.Near.{bare-up, first_some, first-none}
use Rattle.book.proofs.read.first_from.Goals as goal

pub returns-in-Some : goal.returns-in-Some
returns-in-Some g c =
    first_some g.met.S.Key.Key.lawful (g.S.Store.meaning c.args.store.now) (g.met.S.Store.sound c.args.store.now) c.args.from c.loop-q.q c.in-Some.place (omega arith) c.loop-q.invariant c.in-Some.ensures

pub loop-q-preserved : goal.loop-q-preserved
loop-q-preserved g c =
    bare-up g.met.S.Key.Key.lawful (g.S.Store.meaning c.args.store.now) (g.met.S.Store.sound c.args.store.now) c.args.from c.loop-q.q c.loop-q.invariant c.in_default.ensures

pub returns : goal.returns
returns g c =
    let m = g.S.Store.meaning c.args.store.now in
    first-none g.met.S.Key.Key.lawful m (g.met.S.Store.sound c.args.store.now) c.args.from (λ p x y. c.loop-q.invariant p x (omega arith))
