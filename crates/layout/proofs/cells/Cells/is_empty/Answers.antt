use Rattle.std.proofs.Common.{◌≡◌, take, rules, tests, ◌<◌}
use Rattle.std.proofs.lemmas.Iterator.{YieldsList-from_slice, cases_from_all}
use Rattle.layout.proofs.Steps.{none-f}
use Rattle.layout.proofs.cells.Cells.is_empty.Goals as goal

pub returns : goal.returns
returns g c =
    let t = c.args.self.now in
    let idle = cases_from_all _ _ _ (λ x. x ≡ 0) (λ x. 0 < x) c.all.ensures.ran (YieldsList-from_slice (take t.layout.partitions t.lengths.now) cc) (λ x q k. search (rules, tests)) (λ x q k. search (rules, tests)) in
    none-f g.met.K.Key.lawful t.keys.now t.values.now t.lengths.now t.layout.window t.layout.partitions t.sorts c.all.result idle
