use Rattle.keys.proofs.Tests.{total}
use Rattle.contents.proofs.Counts.{items-clear, keys-clear}
use Rattle.contents.proofs.clear_drops.Goals as goal

pub returns : goal.returns
returns g c = let o = total g.met.K.Key.lawful in record { values = items-clear o; places = keys-clear o }
