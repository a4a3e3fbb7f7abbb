use Rattle.std.proofs.Common.{◌∙◌, arith}
use Rattle.keys.specs.Order.{before}
use Rattle.keys.proofs.Tests.{total}
use Rattle.contents.proofs.Order.{chain_on}
use Rattle.contents.proofs.Bounds.{below_parts}
use Rattle.arrays.proofs.Handing.{last-handed}
use Rattle.arrays.proofs.runs.Runs.prev_values_before.Goals as goal

pub run_before-requires : goal.run_before-requires
run_before-requires g c =
    let s = c.args.self.now.keys in
    let all = (below_parts (total g.met.K.Key.lawful) s.keys.now c.args.key.now s.sorted).within in
    omega arith

pub returns : goal.returns
returns g c =
    let s = c.args.self.now in
    let ks = s.keys.keys.now in
    let key = c.args.key.now in
    let o = total g.met.K.Key.lawful in
    c.run_before.ensures
    ∙ last-handed o ks s.values.now s.keys.sorted s.alongside (λ x. before g.K.Ord.cmp x key) _ c.lower_bound.result c.lower_bound.ensures
    (below_parts o ks key s.keys.sorted) (λ x y. chain_on o x key y)
