use Rattle.std.proofs.Common.{arith}
use Rattle.keys.proofs.Tests.{total}
use Rattle.contents.proofs.Bounds.{below-upto}
use Rattle.arrays.proofs.bounds.Keys.run_range.Goals as goal

pub run_on-requires : goal.run_on-requires
run_on-requires g c =
    let le = below-upto (total g.met.K.Key.lawful) c.args.self.now.keys.now c.args.key.now in
    omega arith
