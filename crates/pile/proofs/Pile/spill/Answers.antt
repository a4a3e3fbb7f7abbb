use Rattle.keys.proofs.Tests.{total}
use Rattle.keys.specs.Laws.{places_lawful}
use Rattle.joint.proofs.Spilling.{moved-apiece}
use Rattle.pile.proofs.Pile.spill.Goals as goal

pub invariant_of-self : goal.invariant_of-self
invariant_of-self g c =
    let cmp = g.W.Key.Ord.cmp in
    let o = total (places_lawful cmp g.met.W.Key.Key.lawful) in
    let t = c.args.self.now in
    let w = c.move_partition.new.windows in
    let s = c.move_partition.new.side in
    record {
      apiece = λ e.
          moved-apiece cmp o (g.W.Store.meaning t.windows) (g.S.Store.meaning t.side) (g.W.Store.meaning w) (g.S.Store.meaning s) c.args.partition
          record { windows = g.met.W.Store.sound t.windows; side = g.met.S.Store.sound t.side; full = g.met.W.Windowed.windows t.windows }
          record { windows = g.met.W.Store.sound w; side = g.met.S.Store.sound s; full = g.met.W.Windowed.windows w }
          c.move_partition.ensures (t.apiece e);
    }
