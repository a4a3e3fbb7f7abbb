use Rattle.std.proofs.Common.{sym, subst}
use Rattle.keys.specs.Order.{before}
use Rattle.keys.specs.Orders.{place_order}
use Rattle.contents.specs.Sorted.{Sorted}
use Rattle.side.proofs.SideTable.sorted.Goals as goal

pub new-requires : goal.new-requires
new-requires g c = subst (Sorted (before (place_order g.K.Ord.cmp))) (sym c.places.ensures) c.args.self.now.sorts.rising
