use Rattle.keys.proofs.Tests.{total}
use Rattle.contents.proofs.Laws.{items-put, keys-put}
use Rattle.contents.proofs.put_adds.Goals as goal

pub returns : goal.returns
returns g c = let o = total g.met.K.Key.lawful in record { values = items-put o; places = keys-put o }
