use Rattle.std.proofs.Common.{◌-◌, sym, ap, ◌∙◌, arith}
use Rattle.contents.specs.Entries.{places}
use Rattle.side.specs.Table.{place_at}
use Rattle.side.specs.Tables.{table_meaning}
use Rattle.side.proofs.Finds.{before-at}
use Rattle.side.proofs.SideTable.place_before.Goals as goal

pub returns : goal.returns
returns g c =
    let q = c.args.partition in
    let ps = places (table_meaning c.args.self.now).contents in
    let is = c.in_ok-checked_sub.ensures in
    c.place_in.ensures ∙ ap (λ i. place_at q i ps) is.1 ∙ sym (before-at q (c.args.idx - 1) c.args.idx ps (omega arith))
