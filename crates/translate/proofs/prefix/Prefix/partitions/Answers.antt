use Rattle.std.proofs.Common.{◌^◌, ◌≤◌, arith}
use native.Mathlib.Nat.{pow-le-pow_right}
use Rattle.translate.proofs.prefix.Prefix.partitions.Goals as goal

pub pow-requires : goal.pow-requires
pow-requires c =
    let h : 256 ^ c.args.self.now.bytes ≤ 256 ^ 3 = pow-le-pow_right (omega arith) c.args.self.now.few.1 in omega arith
