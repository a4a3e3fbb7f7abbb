use Rattle.keys.proofs.Tests.{total}
use Rattle.contents.proofs.Laws.{loses, rising-out}
use Rattle.contents.proofs.remove_loses.Goals as goal

pub returns : goal.returns
returns g c = let o = total g.met.K.Key.lawful in record { sorted = rising-out o; loses = loses o }
