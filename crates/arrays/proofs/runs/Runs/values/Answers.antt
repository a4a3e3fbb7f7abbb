use Rattle.keys.proofs.Tests.{total}
use Rattle.arrays.proofs.Handing.{part_is}
use Rattle.arrays.proofs.runs.Runs.values.Goals as goal

pub returns : goal.returns
returns g c =
    let s = c.args.self.now in
    let r = c.run_range in
    part_is (total g.met.K.Key.lawful) s.keys.keys.now s.values.now s.keys.sorted s.alongside r.result.start r.result.end c.args.key.now r.ensures.start r.ensures.end
