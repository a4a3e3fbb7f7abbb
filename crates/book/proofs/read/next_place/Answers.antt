use Rattle.std.proofs.Common.{arith}
use Rattle.book.proofs.Near.{next-some, next-none, next-further}
use Rattle.book.proofs.read.next_place.Goals as goal

pub returns-in-Some : goal.returns-in-Some
returns-in-Some g c =
    next-some g.met.S.Key.Key.lawful (g.S.Store.meaning c.args.store.now) (g.met.S.Store.sound c.args.store.now) c.args.place.now c.in-Some.next c.in-Some.ensures

pub returns-then-place-partition_count : goal.returns-then-place-partition_count
returns-then-place-partition_count g c =
    next-none g.met.S.Key.Key.lawful (g.S.Store.meaning c.args.store.now) (g.met.S.Store.sound c.args.store.now) c.args.place.now c.in_default.ensures (omega arith)

pub returns : goal.returns
returns g c =
    next-further g.met.S.Key.Key.lawful (g.S.Store.meaning c.args.store.now) (g.met.S.Store.sound c.args.store.now) c.args.place.now c.in_default.ensures c.first_from.result c.first_from.ensures
