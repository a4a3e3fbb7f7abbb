use Rattle.std.proofs.Common.{arith}
use Rattle.store.specs.Meaning.{run_at}
use Rattle.book.proofs.Slots.{copied_more}
use Rattle.book.proofs.read.copy_run.Goals as goal

pub loop-i-preserved : goal.loop-i-preserved
loop-i-preserved g c =
    let run = run_at g.S.Key.Ord.cmp (g.S.Store.meaning c.args.store.now) c.args.place.now in
    copied_more c.args.slots.now run c.loop-i.slots c.loop-i.i c.in-Some.value (omega arith) (omega arith) c.loop-i.invariant c.in-Some.ensures
