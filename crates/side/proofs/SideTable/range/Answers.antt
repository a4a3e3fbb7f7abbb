use Rattle.std.proofs.Common.{ap, ◌∙◌}
use Rattle.keys.specs.Order.{before}
use Rattle.keys.specs.Orders.{place_order}
use Rattle.contents.specs.Sorted.{below, upto}
use Rattle.side.proofs.Steps.{ranges}
use Rattle.side.proofs.SideTable.range.Goals as goal

pub returns : goal.returns
returns g c =
    let p = c.args.place.now in
    let r = c.run_range in
    ranges g.met.K.Key.lawful c.args.self.now p r.result.start r.result.end
    (r.ensures.start ∙ ap (λ ks. below (before (place_order g.K.Ord.cmp)) ks p) c.sorted.ensures)
    (r.ensures.end ∙ ap (λ ks. upto (before (place_order g.K.Ord.cmp)) ks p) c.sorted.ensures)
