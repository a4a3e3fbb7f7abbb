use Rattle.std.proofs.Common.{arith}
use Rattle.keys.proofs.Tests.{total}
use Rattle.arrays.proofs.Searches.{between_bounds}
use Rattle.arrays.proofs.bounds.Keys.run_starting_at.Goals as goal

pub run_on-requires : goal.run_on-requires
run_on-requires g c =
    let s = c.args.self.now in
    let own = (between_bounds (total g.met.K.Key.lawful) s.keys.now s.sorted c.args.idx c.index-self-idx.result c.requires).1 in
    omega arith
