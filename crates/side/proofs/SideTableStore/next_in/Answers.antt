use Rattle.std.proofs.Common.{ap, ◌∙◌}
use Rattle.keys.specs.Order.{before}
use Rattle.keys.specs.Orders.{place_order}
use Rattle.keys.specs.Laws.{places_lawful}
use Rattle.keys.proofs.Tests.{total}
use Rattle.contents.specs.Sorted.{upto}
use Rattle.contents.specs.Entries.{places}
use Rattle.side.specs.Tables.{table_meaning}
use Rattle.side.proofs.Finds.{next_of}
use Rattle.side.proofs.SideTableStore.next_in.Goals as goal

pub returns : goal.returns
returns g c =
    let p = c.args.place.now in
    c.place_in.ensures
    ∙ next_of g.K.Ord.cmp (places (table_meaning c.args.self.now).contents) c.args.self.now.sorts.rising (total (places_lawful g.K.Ord.cmp g.met.K.Key.lawful)) p
    c.upper_bound-next.result (c.upper_bound-next.ensures ∙ ap (λ ks. upto (before (place_order g.K.Ord.cmp)) ks p) c.sorted.ensures)
