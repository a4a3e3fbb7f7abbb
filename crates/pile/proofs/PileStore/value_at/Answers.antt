use Rattle.std.proofs.Common.{sym, refl, ap, ◌∙◌}
use Rattle.keys.proofs.Tests.{total}
use Rattle.keys.specs.Laws.{places_lawful}
use Rattle.std.specs.List.{slice_get}
use Rattle.store.specs.Meaning.{run_at}
use Rattle.joint.proofs.Joint.{run-windows, run-side}
use Rattle.joint.proofs.Lifts.{live-is}
use Rattle.pile.proofs.PileStore.value_at.Goals as goal

pub returns-in-Window : goal.returns-in-Window
returns-in-Window g c =
    let cmp = g.W.Key.Ord.cmp in
    let o = total (places_lawful cmp g.met.W.Key.Key.lawful) in
    let m = g.W.Store.meaning c.args.self.now.windows in
    let n = g.S.Store.meaning c.args.self.now.side in
    let at = c.in-Window.ensures in
    c.value_at.ensures ∙ ap (λ xs. slice_get xs c.args.offset) (sym (run-windows cmp o m n at.0.known.side c.args.place.now.partition at.1 c.args.place.now refl)) ∙ ap (λ x. slice_get (run_at cmp x c.args.place.now) c.args.offset) (live-is cmp c.args.self.now.live m n at.0.is_live)

pub returns-in-Side : goal.returns-in-Side
returns-in-Side g c =
    let cmp = g.W.Key.Ord.cmp in
    let o = total (places_lawful cmp g.met.W.Key.Key.lawful) in
    let m = g.W.Store.meaning c.args.self.now.windows in
    let n = g.S.Store.meaning c.args.self.now.side in
    let at = c.in-Side.ensures in
    c.value_at-in-Side.ensures ∙ ap (λ xs. slice_get xs c.args.offset) (sym (run-side cmp o m n at.0.known.side c.args.place.now.partition (at.0.apiece.apart c.args.place.now.partition at.1) c.args.place.now refl)) ∙ ap (λ x. slice_get (run_at cmp x c.args.place.now) c.args.offset) (live-is cmp c.args.self.now.live m n at.0.is_live)
