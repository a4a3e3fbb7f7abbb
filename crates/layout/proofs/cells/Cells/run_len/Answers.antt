use Rattle.std.proofs.Common.{arith}
use Rattle.layout.proofs.Steps.{count-f}
use Rattle.layout.proofs.cells.Cells.run_len.Goals as goal

pub returns : goal.returns
returns g c =
    let t = c.args.self.now in
    let e = count-f g.met.K.Key.lawful t.keys.now t.values.now t.lengths.now t.layout.window t.layout.partitions t.sorts c.args.place.now in
    omega arith
