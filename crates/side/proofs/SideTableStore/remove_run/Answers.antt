use Rattle.side.proofs.Steps.{clear_done}
use Rattle.side.proofs.SideTableStore.remove_run.Goals as goal

pub invariant_of-self : goal.invariant_of-self
invariant_of-self g c =
    let r = c.range-run in
    let d = c.remove.ensures in
    let h =
    clear_done g.met.K.Key.lawful c.args.self.now c.args.place.now r.result.start r.result.end r.ensures
    c.remove.new.places c.remove.new.values c.remove.new.len d.places d.values d.len in
    record { sorts = h.0 }

pub returns : goal.returns
returns g c =
    let r = c.range-run in
    let d = c.remove.ensures in
    let h =
    clear_done g.met.K.Key.lawful c.args.self.now c.args.place.now r.result.start r.result.end r.ensures
    c.remove.new.places c.remove.new.values c.remove.new.len d.places d.values d.len in
    h.1
