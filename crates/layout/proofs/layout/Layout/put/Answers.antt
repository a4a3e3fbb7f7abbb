use Rattle.std.proofs.Common.{Err, ap, ◌∙◌}
use Rattle.std.proofs.lemmas.Result.{err_from_is_err_and}
use Rattle.layout.proofs.Steps.{put-done, put_refused}
use Rattle.layout.proofs.layout.Layout.put.Goals as goal

pub returns-in_err-len : goal.returns-in_err-len
returns-in_err-len g c =
    let t = c.args in
    let z = err_from_is_err_and c.from_residual.result c.from_residual.ensures.1 in
    record {
      sorts = c.requires;
      does = put_refused g.met.K.Key.lawful t.keys.now t.values.now t.lengths.now t.self.window t.self.partitions c.requires c.args.place.now c.args.offset c.in_err-len.field-0.0 c.args.value
          c.from_residual.result (z.1 ∙ ap Err z.2) c.in_err-len.ensures;
    }

pub returns : goal.returns
returns g c =
    let t = c.args in
    let h = c.in_ok-len.ensures in
    let d =
    put-done g.met.K.Key.lawful t.keys.now t.values.now t.lengths.now t.self.window t.self.partitions c.requires c.args.place.now c.args.offset
    c.in_ok-len.len c.in_ok-len.at h.0 c.args.value h.1 c.insert.new.cells c.insert-2.new.cells c.insert.ensures c.insert-2.ensures in
    record { sorts = d.0; does = d.1 }
