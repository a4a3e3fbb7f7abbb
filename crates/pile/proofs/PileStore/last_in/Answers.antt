use Rattle.std.proofs.Common.{ap, ◌∙◌}
use Rattle.keys.proofs.Tests.{total}
use Rattle.keys.specs.Laws.{places_lawful}
use Rattle.store.specs.Meaning.{last_in}
use Rattle.joint.proofs.Joint.{run-windows, run-side}
use Rattle.joint.proofs.Lifts.{live-is, last-joint}
use Rattle.pile.proofs.PileStore.last_in.Goals as goal

pub returns-in-Window : goal.returns-in-Window
returns-in-Window g c =
    let cmp = g.W.Key.Ord.cmp in
    let o = total (places_lawful cmp g.met.W.Key.Key.lawful) in
    let m = g.W.Store.meaning c.args.self.now.windows in
    let n = g.S.Store.meaning c.args.self.now.side in
    let at = c.in-Window.ensures in
    c.last_in.ensures
    ∙ last-joint cmp o m n m c.args.partition at.0.known.side at.0.known.windows (run-windows cmp o m n at.0.known.side c.args.partition at.1)
    ∙ ap (λ x. last_in cmp x c.args.partition) (live-is cmp c.args.self.now.live m n at.0.is_live)

pub returns-in-Side : goal.returns-in-Side
returns-in-Side g c =
    let cmp = g.W.Key.Ord.cmp in
    let o = total (places_lawful cmp g.met.W.Key.Key.lawful) in
    let m = g.W.Store.meaning c.args.self.now.windows in
    let n = g.S.Store.meaning c.args.self.now.side in
    let at = c.in-Side.ensures in
    c.last_in-in-Side.ensures
    ∙ last-joint cmp o m n n c.args.partition at.0.known.side at.0.known.side (run-side cmp o m n at.0.known.side c.args.partition (at.0.apiece.apart c.args.partition at.1))
    ∙ ap (λ x. last_in cmp x c.args.partition) (live-is cmp c.args.self.now.live m n at.0.is_live)
