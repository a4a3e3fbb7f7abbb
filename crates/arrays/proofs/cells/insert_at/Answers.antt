use Rattle.std.proofs.Common.{arith}
use Rattle.arrays.proofs.Shift.{rotated-put}
use Rattle.arrays.proofs.cells.insert_at.Goals as goal

pub returns : goal.returns
returns g c =
    rotated-put c.args.cells.now c.args.len c.args.idx c.args.x c.rotate_right.new.self (omega arith) (omega arith) c.rotate_right.ensures.after
