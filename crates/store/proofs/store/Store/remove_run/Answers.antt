use Rattle.std.proofs.Common.{arith}
use Rattle.store.proofs.Thins.{thin_none, thin_more, thin_all}
use Rattle.store.proofs.store.Store.remove_run.Goals as goal

pub loop-self-init : goal.loop-self-init
loop-self-init g c = thin_none g.Self.Key.Ord.cmp (g.Self.Store.meaning c.args.self.now) c.args.place.now

pub loop-self-preserved : goal.loop-self-preserved
loop-self-preserved g c =
    let m = g.Self.Store.meaning in
    (thin_more g.Self.Key.Ord.cmp (m c.args.self.now) (m c.loop-self.self) (m c.take.new.self) c.args.place.now c.take.result c.loop-self.invariant (omega arith) c.take.ensures).0

pub loop-self-smaller : goal.loop-self-smaller
loop-self-smaller g c =
    let m = g.Self.Store.meaning in
    (thin_more g.Self.Key.Ord.cmp (m c.args.self.now) (m c.loop-self.self) (m c.take.new.self) c.args.place.now c.take.result c.loop-self.invariant (omega arith) c.take.ensures).1

pub returns : goal.returns
returns g c =
    thin_all g.Self.Key.Ord.cmp (g.Self.Store.meaning c.args.self.now) (g.Self.Store.meaning c.loop-self.self) c.args.place.now c.loop-self.invariant (omega arith)
