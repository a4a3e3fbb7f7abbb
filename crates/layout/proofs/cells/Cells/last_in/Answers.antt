use Rattle.std.proofs.Common.{length, ap, ◌∙◌}
use Rattle.std.specs.Option.{option_map}
use Rattle.layout.specs.Windows.{spot, ahead, used}
use Rattle.layout.proofs.Nearby.{last-nth}
use Rattle.layout.proofs.Steps.{last-f}
use Rattle.layout.proofs.cells.Cells.last_in.Goals as goal

pub returns : goal.returns
returns g c =
    let t = c.args.self.now in
    c.place_before.ensures
    ∙ ap (λ xs. option_map (spot c.args.partition) (ahead xs (length xs))) c.used-used.ensures.is
    ∙ ap (option_map (spot c.args.partition)) (last-nth (used t.keys.now t.lengths.now t.layout.window t.layout.partitions c.args.partition))
    ∙ last-f g.met.K.Key.lawful t.keys.now t.values.now t.lengths.now t.layout.window t.layout.partitions t.sorts c.args.partition
