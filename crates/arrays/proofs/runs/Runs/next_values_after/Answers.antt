use Rattle.std.proofs.Common.{◌∙◌}
use Rattle.keys.specs.Order.{before}
use Rattle.keys.proofs.Tests.{total}
use Rattle.contents.proofs.Order.{chain}
use Rattle.contents.proofs.Bounds.{upto-parts}
use Rattle.arrays.proofs.Handing.{first-handed}
use Rattle.arrays.proofs.runs.Runs.next_values_after.Goals as goal

pub returns : goal.returns
returns g c =
    let s = c.args.self.now in
    let ks = s.keys.keys.now in
    let key = c.args.key.now in
    let o = total g.met.K.Key.lawful in
    c.run_from.ensures
    ∙ first-handed o ks s.values.now s.keys.sorted s.alongside (λ x. before g.K.Ord.cmp key x) _ c.upper_bound.result c.upper_bound.ensures
    (upto-parts o ks key s.keys.sorted) (λ x y. chain o x key y)
