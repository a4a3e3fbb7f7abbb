use Rattle.std.proofs.Common.{ap, ◌∙◌}
use Rattle.keys.specs.Order.{before}
use Rattle.keys.specs.Orders.{place_order}
use Rattle.keys.specs.Laws.{places_lawful}
use Rattle.keys.proofs.Tests.{total}
use Rattle.contents.specs.Sorted.{below}
use Rattle.contents.specs.Entries.{places}
use Rattle.side.specs.Tables.{table_meaning}
use Rattle.side.proofs.Finds.{previous-of}
use Rattle.side.proofs.SideTableStore.previous_in.Goals as goal

pub returns : goal.returns
returns g c =
    let p = c.args.place.now in
    c.place_before.ensures
    ∙ previous-of g.K.Ord.cmp (places (table_meaning c.args.self.now).contents) c.args.self.now.sorts.rising (total (places_lawful g.K.Ord.cmp g.met.K.Key.lawful)) p
    c.lower_bound-bound.result (c.lower_bound-bound.ensures ∙ ap (λ ks. below (before (place_order g.K.Ord.cmp)) ks p) c.sorted.ensures)
