use Rattle.std.proofs.Common.{◌≡◌, ◌≤◌, false, Err, ap, ◌∙◌, subst, sym, refl, arith}
use Rattle.std.proofs.lemmas.Result.{err_from_is_err_and}
use Rattle.keys.proofs.Tests.{total}
use Rattle.keys.specs.Laws.{places_lawful}
use Rattle.store.specs.Meaning.{Put}
use Rattle.moves.proofs.Steps.{gains-values}
use Rattle.joint.specs.Piled.{joint, spilled, Known}
use Rattle.joint.proofs.Changes.{window-put, window-apart, window-refused}
use Rattle.joint.proofs.Spilling.{put_same, window-space, here_values, moved_same, spill_fills, no_spill_more, no_spill_small, counted-moved, counted-stays}
use Rattle.pile.proofs.Pile.put_window.Goals as goal
use Rattle.pile.proofs.Pile.put_window.Goals.{else-space-eq0-via-then-space-eq0+else-space-window, else-space-eq0-via-else-space-eq0}

pub invariant_of-self : goal.invariant_of-self
invariant_of-self g c =
    let cmp = g.W.Key.Ord.cmp in
    let o = total (places_lawful cmp g.met.W.Key.Key.lawful) in
    let m = g.W.Store.meaning c.args.self.now.windows in
    let n = g.S.Store.meaning c.args.self.now.side in
    let p = c.args.place.now in
    let q = c.args.place.now.partition in
    let i = c.args.offset in
    let v = c.args.value in
    let k = c.requires.live.known in
    record { apiece = λ e. window-apart cmp o m n (g.W.Store.meaning c.put.new.self) p i v c.put.result k.windows (g.met.W.Store.sound c.put.new.self) c.requires.live.apiece c.requires.apart c.put.ensures }

pub returns-in_err-put-clause-does : goal.returns-in_err-put-clause-does
returns-in_err-put-clause-does g c =
    let cmp = g.W.Key.Ord.cmp in
    let o = total (places_lawful cmp g.met.W.Key.Key.lawful) in
    let m = g.W.Store.meaning c.args.self.now.windows in
    let n = g.S.Store.meaning c.args.self.now.side in
    let p = c.args.place.now in
    let q = c.args.place.now.partition in
    let i = c.args.offset in
    let v = c.args.value in
    let k = c.requires.live.known in
    let m1 = g.W.Store.meaning c.put.new.self in
    let z = err_from_is_err_and c.from_residual.result c.from_residual.ensures.1 in
    subst (Put cmp (joint cmp m n) (joint cmp m1 n) p i v) (sym (z.1 ∙ ap Err z.2))
    (window-refused cmp o m n m1 p i c.in_err-put.field-0.0 k.side c.requires.apart c.requires.roomy c.in_err-put.ensures)

pub returns-then-space-window-clause-does : goal.returns-then-space-window-clause-does
returns-then-space-window-clause-does g c =
    let cmp = g.W.Key.Ord.cmp in
    let o = total (places_lawful cmp g.met.W.Key.Key.lawful) in
    let m = g.W.Store.meaning c.args.self.now.windows in
    let n = g.S.Store.meaning c.args.self.now.side in
    let p = c.args.place.now in
    let q = c.args.place.now.partition in
    let i = c.args.offset in
    let v = c.args.value in
    let k = c.requires.live.known in
    let m1 = g.W.Store.meaning c.put.new.self in
    let k1 : Known cmp m1 n = record { windows = g.met.W.Store.sound c.put.new.self; side = k.side; full = g.met.W.Windowed.windows c.put.new.self } in
    let t = c.spill.new.self in
    let m2 = g.W.Store.meaning t.windows in
    let n2 = g.S.Store.meaning t.side in
    let k2 : Known cmp m2 n2 = record { windows = g.met.W.Store.sound t.windows; side = g.met.S.Store.sound t.side; full = g.met.W.Windowed.windows t.windows } in
    put_same cmp (joint cmp m n) (joint cmp m1 n) (joint cmp m2 n2) p i v (window-put cmp o m n m1 p i v k.windows k.side k1.windows c.requires.apart c.in_ok-put.ensures)
    (moved_same cmp o m1 n m2 n2 q k1 k2 c.spill.ensures.moved c.requires.apart (omega (arith, c.space.ensures, c.if-space-eq0.true)))

pub returns-then-space-window-clause-counted : goal.returns-then-space-window-clause-counted
returns-then-space-window-clause-counted g c =
    let cmp = g.W.Key.Ord.cmp in
    let o = total (places_lawful cmp g.met.W.Key.Key.lawful) in
    let m = g.W.Store.meaning c.args.self.now.windows in
    let n = g.S.Store.meaning c.args.self.now.side in
    let p = c.args.place.now in
    let q = c.args.place.now.partition in
    let i = c.args.offset in
    let v = c.args.value in
    let k = c.requires.live.known in
    let m1 = g.W.Store.meaning c.put.new.self in
    let k1 : Known cmp m1 n = record { windows = g.met.W.Store.sound c.put.new.self; side = k.side; full = g.met.W.Windowed.windows c.put.new.self } in
    let d = c.in_ok-put.ensures in
    let t = c.spill.new.self in
    let m2 = g.W.Store.meaning t.windows in
    let n2 = g.S.Store.meaning t.side in
    let k2 : Known cmp m2 n2 = record { windows = g.met.W.Store.sound t.windows; side = g.met.S.Store.sound t.side; full = g.met.W.Windowed.windows t.windows } in
    let fall = window-space cmp o m m1 p i v k.windows k.full k1.windows k1.full d in
    let full : m1.space q ≡ 0 = omega (arith, c.space.ensures, c.if-space-eq0.true) in
    let le : m.assured ≤ n.space q = omega (arith, c.space-then-space-eq0.ensures, c.window.ensures, c.if-space-window.true, d.same_assured) in
    counted-moved m n q n2 c.args.self.now.spills t.spills (spill_fills m n q c.requires.apart (omega (arith, fall, full)) le) c.spill.ensures.counted
    (omega (arith, here_values cmp o m1 n m2 n2 q k1 k2 c.spill.ensures.moved, gains-values cmp o m m1 p i v k.windows k1.windows d.gains))

pub returns-else-space-eq0-clause-does : goal.returns-else-space-eq0-clause-does
returns-else-space-eq0-clause-does g c =
    let cmp = g.W.Key.Ord.cmp in
    let o = total (places_lawful cmp g.met.W.Key.Key.lawful) in
    let m = g.W.Store.meaning c.args.self.now.windows in
    let n = g.S.Store.meaning c.args.self.now.side in
    let p = c.args.place.now in
    let q = c.args.place.now.partition in
    let i = c.args.offset in
    let v = c.args.value in
    let k = c.requires.live.known in
    window-put cmp o m n (g.W.Store.meaning c.put.new.self) p i v k.windows k.side (g.met.W.Store.sound c.put.new.self) c.requires.apart c.in_ok-put.ensures

pub returns-else-space-eq0-clause-counted : goal.returns-else-space-eq0-clause-counted
returns-else-space-eq0-clause-counted g c =
    let cmp = g.W.Key.Ord.cmp in
    let o = total (places_lawful cmp g.met.W.Key.Key.lawful) in
    let m = g.W.Store.meaning c.args.self.now.windows in
    let n = g.S.Store.meaning c.args.self.now.side in
    let p = c.args.place.now in
    let q = c.args.place.now.partition in
    let i = c.args.offset in
    let v = c.args.value in
    let k = c.requires.live.known in
    let m1 = g.W.Store.meaning c.put.new.self in
    let k1 : Known cmp m1 n = record { windows = g.met.W.Store.sound c.put.new.self; side = k.side; full = g.met.W.Windowed.windows c.put.new.self } in
    let d = c.in_ok-put.ensures in
    let fall = window-space cmp o m m1 p i v k.windows k.full k1.windows k1.full d in
    let stays : spilled m n q ≡ false =
    elim c.else-space-eq0.branch [
      | else-space-eq0-via-then-space-eq0+else-space-window w ↦ no_spill_small m n q
          (omega (arith, fall, c.space.ensures, w.if-space-eq0.true))
          (omega (arith, w.space-then-space-eq0.ensures, w.window.ensures, w.if-space-window.false, d.same_assured))
      | else-space-eq0-via-else-space-eq0 w ↦ no_spill_more m n q (omega (arith, fall, c.space.ensures, w.if-space-eq0.false))
    ]
    in
    counted-stays m n q n c.args.self.now.spills stays (λ z. refl)
