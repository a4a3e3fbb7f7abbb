use Rattle.std.proofs.Common.{◌&&◌, sym, ap, ◌∙◌}
use Rattle.keys.proofs.Tests.{total}
use Rattle.keys.specs.Laws.{places_lawful}
use Rattle.contents.specs.Entries.{none}
use Rattle.joint.proofs.Lifts.{live-is, none-joint}
use Rattle.pile.proofs.PileStore.is_empty.Goals as goal

pub returns-else-is_empty : goal.returns-else-is_empty
returns-else-is_empty g c =
    let cmp = g.W.Key.Ord.cmp in
    let o = total (places_lawful cmp g.met.W.Key.Key.lawful) in
    let m = g.W.Store.meaning c.args.self.now.windows in
    let n = g.S.Store.meaning c.args.self.now.side in
    c.if-is_empty.false ∙ ap (λ b. b && none n.contents) c.if-is_empty.ensures ∙ sym (none-joint cmp o m n)
    ∙ ap (λ x. none x.contents) (live-is cmp c.args.self.now.live m n c.if-not-self.false)
