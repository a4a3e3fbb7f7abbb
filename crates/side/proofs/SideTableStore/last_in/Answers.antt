use Rattle.std.proofs.Common.{◌≡◌, Bool, leb, sym, ap, ◌∙◌, subst, rules, tests}
use Rattle.keys.specs.declared.place.Place.{Place}
use Rattle.contents.specs.Sorted.{count}
use Rattle.contents.specs.Entries.{places}
use Rattle.contents.proofs.Bounds.{Parts}
use Rattle.arrays.proofs.Searches.{halved}
use Rattle.side.specs.Tables.{table_meaning}
use Rattle.side.proofs.Finds.{end-parts, last_of}
use Rattle.side.proofs.SideTableStore.last_in.Goals as goal

pub returns : goal.returns
returns g c =
    let q = c.args.partition in
    let ps = places (table_meaning c.args.self.now).contents in
    let test : Place g.row.K.Denot → Bool = λ x. leb x.partition q in
    let end : c.partition_point-end.result ≡ count test ps =
    halved test c.places.result.now c.partition_point-end.result
    (subst (λ xs. Parts test xs (count test xs)) (sym c.places.ensures) (end-parts g.K.Ord.cmp ps c.args.self.now.sorts.rising q))
    c.partition_point-end.ensures.bound c.partition_point-end.ensures.partitioned (λ a r f' k. search (rules, tests))
    ∙ ap (count test) c.places.ensures in
    c.place_before.ensures ∙ last_of g.K.Ord.cmp ps c.args.self.now.sorts.rising q c.partition_point-end.result end
