use Rattle.std.proofs.Common.{◌≡◌, Bool, ltb, sym, ap, ◌∙◌, subst, rules, tests}
use Rattle.keys.specs.declared.place.Place.{Place}
use Rattle.contents.specs.Sorted.{count}
use Rattle.contents.specs.Entries.{places}
use Rattle.contents.proofs.Bounds.{Parts}
use Rattle.arrays.proofs.Searches.{halved}
use Rattle.side.specs.Tables.{table_meaning}
use Rattle.side.proofs.Finds.{start-parts, first_of}
use Rattle.side.proofs.SideTableStore.first_in.Goals as goal

pub returns : goal.returns
returns g c =
    let q = c.args.partition in
    let ps = places (table_meaning c.args.self.now).contents in
    let test : Place g.row.K.Denot → Bool = λ x. ltb x.partition q in
    let start : c.partition_point-start.result ≡ count test ps =
    halved test c.places.result.now c.partition_point-start.result
    (subst (λ xs. Parts test xs (count test xs)) (sym c.places.ensures) (start-parts g.K.Ord.cmp ps c.args.self.now.sorts.rising q))
    c.partition_point-start.ensures.bound c.partition_point-start.ensures.partitioned (λ a r f' k. search (rules, tests))
    ∙ ap (count test) c.places.ensures in
    c.place_in.ensures ∙ first_of g.K.Ord.cmp ps c.args.self.now.sorts.rising q c.partition_point-start.result start
