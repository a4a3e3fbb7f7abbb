use Rattle.std.proofs.Common.{get_or, ap}
use Rattle.side.proofs.Steps.{take_done}
use Rattle.side.proofs.SideTableStore.take.Goals as goal

pub invariant_of-self : goal.invariant_of-self
invariant_of-self g c =
    let t = c.args.self.now in
    let at = c.in_ok-at.at in
    let d = c.take.ensures in
    let h =
    take_done g.met.K.Key.lawful t c.args.place.now c.args.offset at c.in_ok-at.ensures
    (get_or t.values.now at c.index-self-at.result) (ap (get_or t.values.now at) c.index-self-at.is)
    c.take.new.places c.take.new.values c.take.new.len d.places d.values d.len in
    record { sorts = h.0 }

pub returns : goal.returns
returns g c =
    let t = c.args.self.now in
    let at = c.in_ok-at.at in
    let d = c.take.ensures in
    let h =
    take_done g.met.K.Key.lawful t c.args.place.now c.args.offset at c.in_ok-at.ensures
    (get_or t.values.now at c.index-self-at.result) (ap (get_or t.values.now at) c.index-self-at.is)
    c.take.new.places c.take.new.values c.take.new.len d.places d.values d.len in
    h.1
