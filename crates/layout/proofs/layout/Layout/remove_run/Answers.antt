use Rattle.std.proofs.Common.{◌<◌, get_or, refl, arith}
use Rattle.layout.proofs.Steps.{run-known, run_inside, none-removed, remove-done}
use Rattle.layout.proofs.layout.Layout.remove_run.Goals as goal

pub returns-then-start-end : goal.returns-then-start-end
returns-then-start-end g c =
    let t = c.args in
    let r = c.range-start in
    record { sorts = c.requires; does = none-removed g.met.K.Key.lawful t.keys.now t.values.now t.lengths.now t.self.window t.self.partitions c.requires c.args.place.now r.result.start r.result.end r.ensures (omega arith) }

pub overflow_sub-lengths-2 : goal.overflow_sub-lengths-2
overflow_sub-lengths-2 g c =
    let t = c.args in
    let r = c.range-start in
    let some : r.result.start < r.result.end = omega (arith, r.ensures.ordered) in
    omega (arith, (run_inside g.met.K.Key.lawful t.keys.now t.values.now t.lengths.now t.self.window t.self.partitions c.requires c.args.place.now r.result.start r.result.end r.ensures some).0)

pub returns : goal.returns
returns g c =
    let t = c.args in
    let r = c.range-start in
    let some : r.result.start < r.result.end = omega (arith, r.ensures.ordered) in
    let d =
    remove-done g.met.K.Key.lawful t.keys.now t.values.now t.lengths.now t.self.window t.self.partitions c.requires c.args.place.now r.result.start r.result.end r.ensures
    (get_or t.lengths.now c.args.place.now.partition 0) (run-known g.met.K.Key.lawful t.keys.now t.values.now t.lengths.now t.self.window t.self.partitions c.requires c.args.place.now r.result.start r.result.end r.ensures some) refl some
    c.remove.new.cells c.remove-2.new.cells c.remove.ensures c.remove-2.ensures in
    record { sorts = d.0; does = d.1 }
