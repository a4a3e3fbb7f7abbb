use Rattle.side.proofs.Steps.{put-done}
use Rattle.side.proofs.SideTableStore.put.Goals as goal

pub invariant_of-self : goal.invariant_of-self
invariant_of-self g c =
    let d = c.insert.ensures in
    let h =
    put-done g.met.K.Key.lawful c.args.self.now c.args.place.now c.args.offset c.in_ok-at.at c.args.value c.in_ok-at.ensures
    c.insert.new.places c.insert.new.values c.insert.new.len d.places d.values d.len in
    record { sorts = h.0 }

pub returns : goal.returns
returns g c =
    let d = c.insert.ensures in
    let h =
    put-done g.met.K.Key.lawful c.args.self.now c.args.place.now c.args.offset c.in_ok-at.at c.args.value c.in_ok-at.ensures
    c.insert.new.places c.insert.new.values c.insert.new.len d.places d.values d.len in
    h.1
