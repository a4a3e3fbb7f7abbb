use Rattle.std.proofs.Common.{take, ap, ◌∙◌}
use Rattle.keys.specs.Order.{before}
use Rattle.keys.specs.Orders.{place_order}
use Rattle.contents.specs.Entries.{entries, run}
use Rattle.side.proofs.Steps.{sorted_front, same_front}
use Rattle.side.proofs.SideTable.run.Goals as goal

pub new-requires : goal.new-requires
new-requires g c = record {
  sorted = sorted_front g.met.K.Key.lawful c.args.self.now;
  alongside = same_front g.met.K.Key.lawful c.args.self.now;
}

pub returns : goal.returns
returns g c =
    let t = c.args.self.now in
    let lt = before (place_order g.K.Ord.cmp) in
    c.values.ensures
    ∙ ap (λ ks. run lt (entries ks c.new.result.values.now) c.args.place.now) c.new.ensures.keys
    ∙ ap (λ vs. run lt (entries (take t.len t.keys.now) vs) c.args.place.now) c.new.ensures.values
