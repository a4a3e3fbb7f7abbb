use Rattle.keys.proofs.Tests.{total}
use Rattle.keys.specs.Laws.{places_lawful}
use Rattle.store.specs.Meaning.{Take}
use Rattle.joint.proofs.Changes.{take-window, take-side}
use Rattle.joint.proofs.Lifts.{lift}
use Rattle.std.proofs.Common.{refl}
use Rattle.pile.proofs.PileStore.take.Goals as goal

pub invariant_of-self : goal.invariant_of-self
invariant_of-self g c =
    let cmp = g.W.Key.Ord.cmp in
    let o = total (places_lawful cmp g.met.W.Key.Key.lawful) in
    let m = g.W.Store.meaning c.args.self.now.windows in
    let n = g.S.Store.meaning c.args.self.now.side in
    let k = g.W.Store.meaning c.take.new.self in
    let at = c.in-Window.ensures in
    let t = take-window cmp o m n k c.args.place.now c.args.offset c.take.result at.0.known.windows at.0.known.side (g.met.W.Store.sound c.take.new.self) at.0.apiece at.1 c.take.ensures in
    record { apiece = λ e. t.1 }

pub returns-in-Window-clause-does : goal.returns-in-Window-clause-does
returns-in-Window-clause-does g c =
    let cmp = g.W.Key.Ord.cmp in
    let o = total (places_lawful cmp g.met.W.Key.Key.lawful) in
    let m = g.W.Store.meaning c.args.self.now.windows in
    let n = g.S.Store.meaning c.args.self.now.side in
    let k = g.W.Store.meaning c.take.new.self in
    let at = c.in-Window.ensures in
    let t = take-window cmp o m n k c.args.place.now c.args.offset c.take.result at.0.known.windows at.0.known.side (g.met.W.Store.sound c.take.new.self) at.0.apiece at.1 c.take.ensures in
    lift cmp (λ x y. Take cmp x y c.args.place.now c.args.offset c.take.result) c.args.self.now.live c.args.self.now.live m n k n at.0.is_live refl t.0

pub invariant_of-self-in-Side : goal.invariant_of-self-in-Side
invariant_of-self-in-Side g c =
    let cmp = g.W.Key.Ord.cmp in
    let o = total (places_lawful cmp g.met.W.Key.Key.lawful) in
    let m = g.W.Store.meaning c.args.self.now.windows in
    let n = g.S.Store.meaning c.args.self.now.side in
    let k = g.S.Store.meaning c.take-in-Side.new.self in
    let at = c.in-Side.ensures in
    let t = take-side cmp o m n k c.args.place.now c.args.offset c.take-in-Side.result at.0.known.side (g.met.S.Store.sound c.take-in-Side.new.self) at.0.apiece at.1 c.take-in-Side.ensures in
    record { apiece = λ e. t.1 }

pub returns-in-Side-clause-does : goal.returns-in-Side-clause-does
returns-in-Side-clause-does g c =
    let cmp = g.W.Key.Ord.cmp in
    let o = total (places_lawful cmp g.met.W.Key.Key.lawful) in
    let m = g.W.Store.meaning c.args.self.now.windows in
    let n = g.S.Store.meaning c.args.self.now.side in
    let k = g.S.Store.meaning c.take-in-Side.new.self in
    let at = c.in-Side.ensures in
    let t = take-side cmp o m n k c.args.place.now c.args.offset c.take-in-Side.result at.0.known.side (g.met.S.Store.sound c.take-in-Side.new.self) at.0.apiece at.1 c.take-in-Side.ensures in
    lift cmp (λ x y. Take cmp x y c.args.place.now c.args.offset c.take-in-Side.result) c.args.self.now.live c.args.self.now.live m n m k at.0.is_live refl t.0
