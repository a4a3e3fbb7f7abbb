use Rattle.std.proofs.Common.{◌<◌, ap, arith}
use Rattle.keys.proofs.Tests.{total}
use Rattle.keys.specs.Laws.{places_lawful}
use Rattle.store.specs.Meaning.{values_in}
use Rattle.moves.proofs.Steps.{Moving, run-within, first-place, no_place, moving_none, moving_turn, moving_all}
use Rattle.moves.proofs.move_partition.Goals as goal

pub loop-place-init : goal.loop-place-init
loop-place-init g c =
    let cmp = g.W.Key.Ord.cmp in
    let o = total (places_lawful cmp g.met.W.Key.Key.lawful) in
    moving_none cmp o (g.W.Store.meaning c.args.windows.now) (g.S.Store.meaning c.args.side.now) c.args.partition c.requires.apart

-- what one turn does
turn : (g : _) (c : goal.After-remove_run g) → Moving g.W.Key.Ord.cmp (g.W.Store.meaning c.args.windows.now) (g.S.Store.meaning c.args.side.now) (g.W.Store.meaning c.remove_run.new.self) (g.S.Store.meaning c.copy_run.new.to) c.args.partition × (values_in (g.W.Store.meaning c.remove_run.new.self) c.args.partition < values_in (g.W.Store.meaning c.loop-place.windows) c.args.partition)
turn g c =
    let cmp = g.W.Key.Ord.cmp in
    let o = total (places_lawful cmp g.met.W.Key.Key.lawful) in
    let w = g.W.Store.meaning in
    let s = g.S.Store.meaning in
    let sound = g.met.W.Store.sound in
    let h = first-place cmp o (w c.loop-place.windows) c.args.partition c.in-Some.place c.in-Some.ensures in
    moving_turn cmp o (w c.args.windows.now) (s c.args.side.now) (w c.loop-place.windows) (s c.loop-place.side) (w c.remove_run.new.self) (s c.copy_run.new.to)
    c.in-Some.place c.args.partition h.0 h.1 c.loop-place.invariant (sound c.loop-place.windows) (sound c.remove_run.new.self) c.copy_run.ensures c.remove_run.ensures

pub copy_run-requires : goal.copy_run-requires
copy_run-requires g c =
    let cmp = g.W.Key.Ord.cmp in
    let o = total (places_lawful cmp g.met.W.Key.Key.lawful) in
    let v = c.loop-place.invariant in
    let at = (first-place cmp o (g.W.Store.meaning c.loop-place.windows) c.args.partition c.in-Some.place c.in-Some.ensures).0 in
    let within = run-within cmp o (g.W.Store.meaning c.loop-place.windows) c.args.partition c.in-Some.place at in
    omega (arith, within, v.falls, v.values, c.requires.roomy, ap (λ x. (g.S.Store.meaning c.loop-place.side).space x) at)

pub loop-place-smaller : goal.loop-place-smaller
loop-place-smaller g c = (turn g c).1

pub loop-place-preserved : goal.loop-place-preserved
loop-place-preserved g c = (turn g c).0

pub returns : goal.returns
returns g c =
    let cmp = g.W.Key.Ord.cmp in
    let o = total (places_lawful cmp g.met.W.Key.Key.lawful) in
    let m1 = g.W.Store.meaning c.loop-place.windows in
    moving_all cmp o (g.W.Store.meaning c.args.windows.now) (g.S.Store.meaning c.args.side.now) m1 (g.S.Store.meaning c.loop-place.side) c.args.partition
    c.loop-place.invariant (no_place cmp o m1 c.args.partition c.in_default.ensures)
