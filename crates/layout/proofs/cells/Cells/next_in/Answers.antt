use Rattle.std.proofs.Common.{ap, ◌∙◌}
use Rattle.std.specs.Option.{option_map}
use Rattle.std.specs.List.{slice_get}
use Rattle.keys.specs.Order.{before}
use Rattle.keys.proofs.Tests.{total}
use Rattle.contents.specs.Sorted.{upto}
use Rattle.layout.specs.Windows.{spot}
use Rattle.layout.proofs.Nearby.{next-nth}
use Rattle.layout.proofs.Steps.{next-f}
use Rattle.layout.proofs.cells.Cells.next_in.Goals as goal

pub returns : goal.returns
returns g c =
    let t = c.args.self.now in
    let p = c.args.place.now in
    let lt = before g.K.Ord.cmp in
    c.place_at.ensures
    ∙ ap (λ i. option_map (spot p.partition) (slice_get c.used-used.result.now i)) c.upper_bound-next.ensures
    ∙ ap (λ xs. option_map (spot p.partition) (slice_get c.used-used.result.now (upto lt xs p.key))) c.new.ensures
    ∙ ap (λ xs. option_map (spot p.partition) (slice_get xs (upto lt xs p.key))) c.used-used.ensures.is
    ∙ ap (option_map (spot p.partition)) (next-nth (total g.met.K.Key.lawful) _ (t.sorts.keys.sorted p.partition) p.key)
    ∙ next-f g.met.K.Key.lawful t.keys.now t.values.now t.lengths.now t.layout.window t.layout.partitions t.sorts p
