use Rattle.std.proofs.Common.{arith}
use Rattle.keys.proofs.Tests.{total}
use Rattle.keys.specs.Laws.{places_lawful}
use Rattle.moves.proofs.Steps.{first-place, no_place, run-within}
use Rattle.pile.proofs.Pile.home_of.Goals as goal

pub returns-in-Some : goal.returns-in-Some
returns-in-Some g c =
    let cmp = g.W.Key.Ord.cmp in
    let o = total (places_lawful cmp g.met.W.Key.Key.lawful) in
    let n = g.S.Store.meaning c.args.self.now.side in
    let h = first-place cmp o n c.args.partition c.in-Some.field-0 c.in-Some.ensures in (
      record {
        is_live = c.if-not-self.false;
        known = record { windows = g.met.W.Store.sound c.args.self.now.windows; side = g.met.S.Store.sound c.args.self.now.side; full = g.met.W.Windowed.windows c.args.self.now.windows };
        apiece = c.args.self.now.apiece c.if-not-self.false;
      },
      omega (arith, h.1, run-within cmp o n c.args.partition c.in-Some.field-0 h.0),
    )

pub returns-in-None : goal.returns-in-None
returns-in-None g c =
    let cmp = g.W.Key.Ord.cmp in
    let o = total (places_lawful cmp g.met.W.Key.Key.lawful) in (
      record {
        is_live = c.if-not-self.false;
        known = record { windows = g.met.W.Store.sound c.args.self.now.windows; side = g.met.S.Store.sound c.args.self.now.side; full = g.met.W.Windowed.windows c.args.self.now.windows };
        apiece = c.args.self.now.apiece c.if-not-self.false;
      },
      no_place cmp o (g.S.Store.meaning c.args.self.now.side) c.args.partition c.in-None.ensures,
    )
