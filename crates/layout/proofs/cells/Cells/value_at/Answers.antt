use Rattle.std.proofs.Common.{◌≡◌, ap, ◌∙◌}
use Rattle.std.specs.List.{slice_get}
use Rattle.layout.proofs.Nearby.{copied-is}
use Rattle.layout.proofs.Steps.{run-code}
use Rattle.layout.proofs.cells.Cells.value_at.Goals as goal

pub returns : goal.returns
returns g c =
    let t = c.args.self.now in
    let read : c.copied.result ≡ slice_get c.values-run.result.now c.args.offset = c.copied.ensures ∙ copied-is _ _ c.get.result c.get.ensures.lookup in
    read
    ∙ ap (λ xs. slice_get xs c.args.offset)
    (run-code g.met.K.Key.lawful t.keys.now t.values.now t.lengths.now t.layout.window t.layout.partitions t.sorts c.args.place.now
    c.new.result.keys.keys.now c.new.result.values.now c.values-run.result.now (c.new.ensures.keys ∙ c.used-keys.ensures.is) (c.new.ensures.values ∙ c.used-cells.ensures) c.values-run.ensures)
