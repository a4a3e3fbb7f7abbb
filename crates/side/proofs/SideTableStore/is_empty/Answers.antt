use Rattle.side.proofs.Steps.{empty}
use Rattle.side.proofs.SideTableStore.is_empty.Goals as goal

pub returns : goal.returns
returns g c = empty g.met.K.Key.lawful c.args.self.now
