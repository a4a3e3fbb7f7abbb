use Rattle.std.proofs.Common.{get_or, Err, ap, ◌∙◌}
use Rattle.std.proofs.lemmas.Result.{err_from_is_err_and}
use Rattle.layout.proofs.Steps.{take_done, take-refused}
use Rattle.layout.proofs.layout.Layout.take.Goals as goal

pub returns-in_err-len : goal.returns-in_err-len
returns-in_err-len g c =
    let t = c.args in
    let z = err_from_is_err_and c.from_residual.result c.from_residual.ensures.1 in
    record {
      sorts = c.requires;
      does = take-refused g.met.K.Key.lawful t.keys.now t.values.now t.lengths.now t.self.window t.self.partitions c.requires c.args.place.now c.args.offset c.in_err-len.field-0.0
          c.from_residual.result (z.1 ∙ ap Err z.2) c.in_err-len.ensures;
    }

pub returns : goal.returns
returns g c =
    let t = c.args in
    let h = c.in_ok-len.ensures in
    let v = c.value_at-value.result in
    let read = c.value_at-value.ensures ∙ ap (λ xs. get_or xs c.in_ok-len.at v) c.used.ensures in
    let d =
    take_done g.met.K.Key.lawful t.keys.now t.values.now t.lengths.now t.self.window t.self.partitions c.requires c.args.place.now c.args.offset
    c.in_ok-len.len c.in_ok-len.at h.0 v h.1 h.2 read c.remove.new.cells c.remove-2.new.cells c.remove.ensures c.remove-2.ensures in
    record { sorts = d.0; does = d.1 }
