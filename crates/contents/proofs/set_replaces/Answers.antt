use Rattle.keys.proofs.Tests.{total}
use Rattle.contents.proofs.Laws.{replaces}
use Rattle.contents.proofs.set_replaces.Goals as goal

pub returns : goal.returns
returns g c = let o = total g.met.K.Key.lawful in replaces o
