use Rattle.std.proofs.Common.{◌++◌, drop, replicate, ap, ◌∙◌, rules, arith}
use Rattle.std.proofs.lemmas.List.{places, get_or_past}
use Rattle.translate.specs.Padding.{padded-from, zeros}
use Rattle.translate.proofs.padded.padded_to.Goals as goal

pub returns : goal.returns
returns g c =
    let n = g.row.N in
    ap (λ xs. xs ++ drop c.min-n.result (replicate n 0)) c.copy_from_slice.ensures.after
    ∙ padded-from n c.args.bytes.now _ (search (rules, places)) (λ k l. grind (arith, places, zeros, get_or_past))
