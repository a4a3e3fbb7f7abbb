use Rattle.side.proofs.Steps.{front}
use Rattle.side.proofs.SideTable.places.Goals as goal

pub returns : goal.returns
returns g c = front g.met.K.Key.lawful c.args.self.now
