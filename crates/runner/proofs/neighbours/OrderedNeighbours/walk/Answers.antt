use Rattle.runner.proofs.Walking.{walk_ends}
use Rattle.runner.proofs.neighbours.OrderedNeighbours.walk.Goals as goal

pub loop-next-smaller : goal.loop-next-smaller
loop-next-smaller g c =
    rw c.in-Some.is
    (walk_ends g.met.T.Key.Key.lawful (g.S.Store.meaning c.args.book.now.store).contents c.in-Some.place c.in_ok-next-2.next c.in_ok-next-2.ensures.1)
