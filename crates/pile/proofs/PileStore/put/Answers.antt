use Rattle.keys.proofs.Tests.{total}
use Rattle.keys.specs.Laws.{places_lawful}
use Rattle.store.specs.Meaning.{Put}
use Rattle.joint.proofs.Changes.{put-side}
use Rattle.joint.proofs.Lifts.{lift}
use Rattle.std.proofs.Common.{refl}
use Rattle.pile.proofs.PileStore.put.Goals as goal

pub invariant_of-self : goal.invariant_of-self
invariant_of-self g c =
    let cmp = g.W.Key.Ord.cmp in
    let o = total (places_lawful cmp g.met.W.Key.Key.lawful) in
    let m = g.W.Store.meaning c.args.self.now.windows in
    let n = g.S.Store.meaning c.args.self.now.side in
    let k = g.S.Store.meaning c.put.new.self in
    let at = c.in-Side.ensures in
    let t = put-side cmp o m n k c.args.place.now c.args.offset c.args.value c.put.result at.0.known.side (g.met.S.Store.sound c.put.new.self) at.0.apiece at.1 c.put.ensures in
    record { apiece = λ e. t.1 }

pub returns-in-Side-clause-does : goal.returns-in-Side-clause-does
returns-in-Side-clause-does g c =
    let cmp = g.W.Key.Ord.cmp in
    let o = total (places_lawful cmp g.met.W.Key.Key.lawful) in
    let m = g.W.Store.meaning c.args.self.now.windows in
    let n = g.S.Store.meaning c.args.self.now.side in
    let k = g.S.Store.meaning c.put.new.self in
    let at = c.in-Side.ensures in
    let t = put-side cmp o m n k c.args.place.now c.args.offset c.args.value c.put.result at.0.known.side (g.met.S.Store.sound c.put.new.self) at.0.apiece at.1 c.put.ensures in
    lift cmp (λ x y. Put cmp x y c.args.place.now c.args.offset c.args.value c.put.result) c.args.self.now.live c.args.self.now.live m n m k at.0.is_live refl t.0
