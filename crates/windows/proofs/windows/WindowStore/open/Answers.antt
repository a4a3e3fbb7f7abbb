use Rattle.std.proofs.Common.{◌≡◌, true, false, length, get_or, replicate, ap, ◌∙◌, rules, arith}
use Rattle.std.proofs.lemmas.List.{get_or-replicate}
use Rattle.layout.specs.Windows.{fitting}
use Rattle.layout.proofs.Opens.{opens, opens_void}
use Rattle.windows.proofs.windows.WindowStore.open.Goals as goal

pub returns-then-not-fitting-clause-meaning : goal.returns-then-not-fitting-clause-meaning
returns-then-not-fitting-clause-meaning g c =
    let unfit : fitting (length c.args.keys.now) (length c.args.values.now) (length c.args.lengths.now) c.args.window ≡ false = search rules in
    (opens_void g.K.Ord.cmp c.args.keys.now c.args.values.now c.args.lengths.now c.args.window unfit).1

pub returns-clause-meaning : goal.returns-clause-meaning
returns-clause-meaning g c =
    let ns = c.args.lengths.now in
    let ms = c.fill.new.self in
    let zero : ms ≡ replicate (length ns) 0 = c.fill.ensures.after (λ y e. e) in
    let fit : fitting (length c.args.keys.now) (length c.args.values.now) (length ns) c.args.window ≡ true = search rules in
    (opens g.K.Ord.cmp c.args.keys.now c.args.values.now ns c.args.window ms c.fill.ensures.len (omega arith)
    (λ q l. ap (λ xs. get_or xs q 0) zero ∙ get_or-replicate (length ns) q 0 0 l) fit).1
