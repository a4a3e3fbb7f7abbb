use Rattle.std.proofs.Common.{take, sym, subst}
use Rattle.keys.proofs.Tests.{total}
use Rattle.keys.specs.Laws.{places_lawful}
use Rattle.store.specs.Meaning.{run_at}
use Rattle.moves.specs.Moving.{Appended}
use Rattle.moves.proofs.Steps.{take_nth, appended_more}
use Rattle.moves.proofs.copy_run.Goals as goal

pub loop-i-preserved : goal.loop-i-preserved
loop-i-preserved g c =
    let cmp = g.W.Key.Ord.cmp in
    let s = g.S.Store.meaning in
    let sound = g.met.S.Store.sound in
    let o = total (places_lawful cmp g.met.W.Key.Key.lawful) in
    let p = c.args.place.now in
    let v = c.in-Some.value in
    let i = c.loop-i.i in
    let xs = run_at cmp (g.W.Store.meaning c.args.from.now) p in
    subst (Appended cmp (s c.args.to.now) (s c.put_sure.new.side) p) (sym (take_nth xs i v c.in-Some.ensures))
    (appended_more cmp o (s c.args.to.now) (s c.loop-i.to) (s c.put_sure.new.side) p c.run_len-end.result (take i xs) v
    c.loop-i.invariant (sound c.loop-i.to) (sound c.put_sure.new.side) c.put_sure.ensures c.run_len-end.ensures)
