use Rattle.std.proofs.Common.{refl}
use Rattle.side.proofs.Steps.{set-done}
use Rattle.side.proofs.SideTableStore.set.Goals as goal

pub invariant_of-self : goal.invariant_of-self
invariant_of-self g c =
    let h =
    set-done g.met.K.Key.lawful c.args.self.now c.args.place.now c.args.offset c.in_ok-at.at c.in_ok-at.ensures
    c.args.value _ refl in
    record { sorts = h.0 }

pub returns : goal.returns
returns g c =
    let h =
    set-done g.met.K.Key.lawful c.args.self.now c.args.place.now c.args.offset c.in_ok-at.at c.in_ok-at.ensures
    c.args.value _ refl in
    h.1
