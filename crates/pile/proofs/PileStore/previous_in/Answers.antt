use Rattle.std.proofs.Common.{ap, ◌∙◌}
use Rattle.keys.proofs.Tests.{total}
use Rattle.keys.specs.Laws.{places_lawful}
use Rattle.store.specs.Meaning.{previous_in}
use Rattle.joint.proofs.Joint.{run-windows, run-side}
use Rattle.joint.proofs.Lifts.{live-is, previous-joint}
use Rattle.pile.proofs.PileStore.previous_in.Goals as goal

pub returns-in-Window : goal.returns-in-Window
returns-in-Window g c =
    let cmp = g.W.Key.Ord.cmp in
    let o = total (places_lawful cmp g.met.W.Key.Key.lawful) in
    let m = g.W.Store.meaning c.args.self.now.windows in
    let n = g.S.Store.meaning c.args.self.now.side in
    let at = c.in-Window.ensures in
    c.previous_in.ensures
    ∙ previous-joint cmp o m n m c.args.place.now at.0.known.side at.0.known.windows (run-windows cmp o m n at.0.known.side c.args.place.now.partition at.1)
    ∙ ap (λ x. previous_in cmp x c.args.place.now) (live-is cmp c.args.self.now.live m n at.0.is_live)

pub returns-in-Side : goal.returns-in-Side
returns-in-Side g c =
    let cmp = g.W.Key.Ord.cmp in
    let o = total (places_lawful cmp g.met.W.Key.Key.lawful) in
    let m = g.W.Store.meaning c.args.self.now.windows in
    let n = g.S.Store.meaning c.args.self.now.side in
    let at = c.in-Side.ensures in
    c.previous_in-in-Side.ensures
    ∙ previous-joint cmp o m n n c.args.place.now at.0.known.side at.0.known.side (run-side cmp o m n at.0.known.side c.args.place.now.partition (at.0.apiece.apart c.args.place.now.partition at.1))
    ∙ ap (λ x. previous_in cmp x c.args.place.now) (live-is cmp c.args.self.now.live m n at.0.is_live)
