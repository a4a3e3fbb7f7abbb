use Rattle.std.proofs.Common.{◌<◌, length, refl, ap, arith}
use Rattle.keys.proofs.Tests.{total}
use Rattle.keys.specs.Laws.{places_lawful}
use Rattle.moves.proofs.Steps.{gains-values}
use Rattle.joint.specs.Piled.{joint, Known}
use Rattle.joint.proofs.Joint.{run-windows}
use Rattle.joint.proofs.Changes.{apiece-from, gains-there, side-put}
use Rattle.joint.proofs.Spilling.{same-put, exists, full-space, gone-values, moved_same, moved-space, spill_full, counted-moved}
use Rattle.pile.proofs.Pile.put_full.Goals as goal

pub returns-then-run_len-offset-clause-does : goal.returns-then-run_len-offset-clause-does
returns-then-run_len-offset-clause-does g c =
    let cmp = g.W.Key.Ord.cmp in
    let o = total (places_lawful cmp g.met.W.Key.Key.lawful) in
    let m = g.W.Store.meaning c.args.self.now.windows in
    let n = g.S.Store.meaning c.args.self.now.side in
    let p = c.args.place.now in
    let q = c.args.place.now.partition in
    let i = c.args.offset in
    let v = c.args.value in
    let k = c.requires.live.known in (
      refl {a = joint cmp m n},
      (
        full-space cmp o m n q k c.requires.live.apiece c.requires.apart (omega (arith, c.space.ensures, c.window.ensures, c.if-space-window.false)),
        omega (arith, ap length (run-windows cmp o m n k.side q c.requires.apart p refl), c.run_len.ensures, c.if-run_len-offset.true),
      ),
    )

pub invariant_of-self : goal.invariant_of-self
invariant_of-self g c =
    let cmp = g.W.Key.Ord.cmp in
    let o = total (places_lawful cmp g.met.W.Key.Key.lawful) in
    let m = g.W.Store.meaning c.args.self.now.windows in
    let n = g.S.Store.meaning c.args.self.now.side in
    let p = c.args.place.now in
    let q = c.args.place.now.partition in
    let i = c.args.offset in
    let v = c.args.value in
    let k = c.requires.live.known in
    let t = c.spill.new.self in
    let m1 = g.W.Store.meaning t.windows in
    let n1 = g.S.Store.meaning t.side in
    let n2 = g.S.Store.meaning c.put_sure.new.side in
    let k1 : Known cmp m1 n1 = record { windows = g.met.W.Store.sound t.windows; side = g.met.S.Store.sound t.side; full = g.met.W.Windowed.windows t.windows } in
    let d = c.put_sure.ensures in
    record {
      apiece = λ e.
          apiece-from m1 n1 m1 n2 q (t.apiece e) d.same_partitions refl (λ r ne. refl)
          (gains-there cmp o n1 n2 p i v k1.side (g.met.S.Store.sound c.put_sure.new.side) d.gains)
          (λ h. gone-values cmp o m n m1 n1 q k k1 c.spill.ensures.moved);
    }

pub returns-clause-does : goal.returns-clause-does
returns-clause-does g c =
    let cmp = g.W.Key.Ord.cmp in
    let o = total (places_lawful cmp g.met.W.Key.Key.lawful) in
    let m = g.W.Store.meaning c.args.self.now.windows in
    let n = g.S.Store.meaning c.args.self.now.side in
    let p = c.args.place.now in
    let q = c.args.place.now.partition in
    let i = c.args.offset in
    let v = c.args.value in
    let k = c.requires.live.known in
    let t = c.spill.new.self in
    let m1 = g.W.Store.meaning t.windows in
    let n1 = g.S.Store.meaning t.side in
    let n2 = g.S.Store.meaning c.put_sure.new.side in
    let k1 : Known cmp m1 n1 = record { windows = g.met.W.Store.sound t.windows; side = g.met.S.Store.sound t.side; full = g.met.W.Windowed.windows t.windows } in
    let moved = c.spill.ensures.moved in
    let more : m.assured < n.space q = omega (arith, c.space.ensures, c.window.ensures, c.if-space-window.false) in
    same-put cmp (joint cmp m n) (joint cmp m1 n1) (joint cmp m1 n2) p i v (full-space cmp o m n q k c.requires.live.apiece c.requires.apart more) (moved_same cmp o m n m1 n1 q k k1 moved c.requires.apart c.requires.full)
    (side-put cmp o m1 n1 n2 p i v k1.side (g.met.S.Store.sound c.put_sure.new.side) (gone-values cmp o m n m1 n1 q k k1 moved)
    (moved-space cmp o m n m1 n1 q k k1 moved (exists cmp o m n q k c.requires.live.apiece (omega (arith, more))) c.requires.full) c.put_sure.ensures)

pub returns-clause-counted : goal.returns-clause-counted
returns-clause-counted g c =
    let cmp = g.W.Key.Ord.cmp in
    let o = total (places_lawful cmp g.met.W.Key.Key.lawful) in
    let m = g.W.Store.meaning c.args.self.now.windows in
    let n = g.S.Store.meaning c.args.self.now.side in
    let p = c.args.place.now in
    let q = c.args.place.now.partition in
    let i = c.args.offset in
    let v = c.args.value in
    let k = c.requires.live.known in
    let t = c.spill.new.self in
    let n1 = g.S.Store.meaning t.side in
    let n2 = g.S.Store.meaning c.put_sure.new.side in
    counted-moved m n q n2 c.args.self.now.spills t.spills (spill_full m n q c.requires.apart c.requires.full) c.spill.ensures.counted
    (omega (arith, gains-values cmp o n1 n2 p i v (g.met.S.Store.sound t.side) (g.met.S.Store.sound c.put_sure.new.side) c.put_sure.ensures.gains))
