use Rattle.std.proofs.Common.{ap, ◌∙◌}
use Rattle.std.specs.Option.{option_map}
use Rattle.std.specs.List.{slice_get}
use Rattle.layout.specs.Windows.{spot}
use Rattle.layout.proofs.Nearby.{first-nth}
use Rattle.layout.proofs.Steps.{first-f}
use Rattle.layout.proofs.cells.Cells.first_in.Goals as goal

pub returns : goal.returns
returns g c =
    let t = c.args.self.now in
    c.place_at.ensures
    ∙ ap (λ xs. option_map (spot c.args.partition) (slice_get xs 0)) c.used.ensures.is
    ∙ ap (option_map (spot c.args.partition)) (first-nth _)
    ∙ first-f g.met.K.Key.lawful t.keys.now t.values.now t.lengths.now t.layout.window t.layout.partitions t.sorts c.args.partition
