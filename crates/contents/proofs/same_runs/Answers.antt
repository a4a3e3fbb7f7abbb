use Rattle.keys.proofs.Tests.{total}
use Rattle.contents.proofs.Laws.{extensional}
use Rattle.contents.proofs.same_runs.Goals as goal

pub returns : goal.returns
returns g c = let o = total g.met.K.Key.lawful in extensional o
