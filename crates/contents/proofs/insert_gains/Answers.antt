use Rattle.keys.proofs.Tests.{total}
use Rattle.contents.proofs.Laws.{gains, rising-in}
use Rattle.contents.proofs.insert_gains.Goals as goal

pub returns : goal.returns
returns g c = let o = total g.met.K.Key.lawful in record { sorted = rising-in o; gains = gains o }
