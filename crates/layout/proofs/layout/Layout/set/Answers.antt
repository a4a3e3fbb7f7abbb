use Rattle.std.proofs.Common.{Err, ap, ◌∙◌}
use Rattle.std.proofs.lemmas.Result.{err_from_is_err_and}
use Rattle.layout.proofs.Steps.{set-done, set-refused}
use Rattle.layout.proofs.layout.Layout.set.Goals as goal

pub returns-in_err-at : goal.returns-in_err-at
returns-in_err-at g c =
    let t = c.args in
    let z = err_from_is_err_and c.from_residual.result c.from_residual.ensures.1 in
    record {
      sorts = c.requires;
      does = set-refused g.met.K.Key.lawful t.keys.now t.values.now t.lengths.now t.self.window t.self.partitions c.requires c.args.place.now c.args.offset c.in_err-at.field-0.0 c.args.value
          c.from_residual.result (z.1 ∙ ap Err z.2) c.in_err-at.ensures;
    }

pub returns : goal.returns
returns g c =
    let t = c.args in
    let h = c.in_ok-at.ensures in
    let d =
    set-done g.met.K.Key.lawful t.keys.now t.values.now t.lengths.now t.self.window t.self.partitions c.requires c.args.place.now c.args.offset
    _ c.in_ok-at.at h.0 c.args.value h.1 h.2 c.replace.new.cells c.replace.ensures in
    record { sorts = d.0; does = d.1 }
