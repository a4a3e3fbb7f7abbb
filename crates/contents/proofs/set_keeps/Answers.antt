use Rattle.keys.proofs.Tests.{total}
use Rattle.contents.proofs.Counts.{items-set, keys-set}
use Rattle.contents.proofs.set_keeps.Goals as goal

pub returns : goal.returns
returns g c = let o = total g.met.K.Key.lawful in record { values = items-set o; places = keys-set o }
