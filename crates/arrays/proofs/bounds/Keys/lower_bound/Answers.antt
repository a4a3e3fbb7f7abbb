use Rattle.std.proofs.Common.{rules}
use Rattle.keys.specs.Order.{before}
use Rattle.keys.proofs.Tests.{total}
use Rattle.contents.proofs.Bounds.{below_parts}
use Rattle.arrays.proofs.Searches.{halved}
use Rattle.arrays.proofs.bounds.Keys.lower_bound.Goals as goal

pub returns : goal.returns
returns g c =
    let s = c.args.self.now in
    let key = c.args.key.now in
    halved (λ x. before g.K.Ord.cmp x key) s.keys.now c.partition_point.result
    (below_parts (total g.met.K.Key.lawful) s.keys.now key s.sorted)
    c.partition_point.ensures.bound c.partition_point.ensures.partitioned (λ a r f' k. search rules)
