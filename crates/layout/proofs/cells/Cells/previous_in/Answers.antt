use Rattle.std.proofs.Common.{ap, ◌∙◌}
use Rattle.std.specs.Option.{option_map}
use Rattle.keys.specs.Order.{before}
use Rattle.keys.proofs.Tests.{total}
use Rattle.contents.specs.Sorted.{below}
use Rattle.layout.specs.Windows.{spot, ahead}
use Rattle.layout.proofs.Nearby.{prev_nth}
use Rattle.layout.proofs.Steps.{previous-f}
use Rattle.layout.proofs.cells.Cells.previous_in.Goals as goal

pub returns : goal.returns
returns g c =
    let t = c.args.self.now in
    let p = c.args.place.now in
    let lt = before g.K.Ord.cmp in
    c.place_before.ensures
    ∙ ap (λ i. option_map (spot p.partition) (ahead c.used-used.result.now i)) c.lower_bound-bound.ensures
    ∙ ap (λ xs. option_map (spot p.partition) (ahead c.used-used.result.now (below lt xs p.key))) c.new.ensures
    ∙ ap (λ xs. option_map (spot p.partition) (ahead xs (below lt xs p.key))) c.used-used.ensures.is
    ∙ ap (option_map (spot p.partition)) (prev_nth (total g.met.K.Key.lawful) _ (t.sorts.keys.sorted p.partition) p.key)
    ∙ previous-f g.met.K.Key.lawful t.keys.now t.values.now t.lengths.now t.layout.window t.layout.partitions t.sorts p
