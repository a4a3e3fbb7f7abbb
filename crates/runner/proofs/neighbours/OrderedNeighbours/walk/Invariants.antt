use Rattle.keys.specs.Order.{before}
use Rattle.keys.specs.Orders.{place_order}
use Rattle.contents.specs.Entries.{places}
use Rattle.runner.proofs.Walking.{left}
use Rattle.runner.proofs.neighbours.OrderedNeighbours.walk.Given as goal

abbrev pub decreases-loop-next : goal.decreases-loop-next
decreases-loop-next g l =
    left (before (place_order g.T.Key.Ord.cmp)) (places (g.S.Store.meaning l.book.store).contents) l.next
