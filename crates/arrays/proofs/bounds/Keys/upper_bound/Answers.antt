use Rattle.std.proofs.Common.{not, rules}
use Rattle.keys.specs.Order.{before}
use Rattle.keys.proofs.Tests.{total}
use Rattle.contents.proofs.Bounds.{upto-parts}
use Rattle.arrays.proofs.Searches.{halved}
use Rattle.arrays.proofs.bounds.Keys.upper_bound.Goals as goal

pub returns : goal.returns
returns g c =
    let s = c.args.self.now in
    let key = c.args.key.now in
    halved (λ x. not (before g.K.Ord.cmp key x)) s.keys.now c.partition_point.result
    (upto-parts (total g.met.K.Key.lawful) s.keys.now key s.sorted)
    c.partition_point.ensures.bound c.partition_point.ensures.partitioned (λ a r f' k. search rules)
