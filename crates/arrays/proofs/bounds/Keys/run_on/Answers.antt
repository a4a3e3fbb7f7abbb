use Rattle.std.proofs.Common.{◌≡◌, ◌+◌, Bool, not, length, drop, ap, ◌∙◌, refl, rules, arith}
use Rattle.std.specs.List.{prefix_len}
use Rattle.std.proofs.lemmas.Iterator.{YieldsList-from_slice}
use Rattle.std.proofs.lemmas.Iterator.Consumers.{YieldsList-at, count_from_yields_List}
use Rattle.std.proofs.lemmas.Iterator.Search.{YieldsList-from_take_while}
use Rattle.std.proofs.lemmas.Slice.{between_to_end}
use Rattle.std.proofs.lemmas.List.Folds.{length-prefix_len}
use Rattle.keys.specs.Order.{before}
use Rattle.keys.proofs.Tests.{total}
use Rattle.contents.specs.Sorted.{upto}
use Rattle.contents.proofs.Bounds.{upto-parts}
use Rattle.arrays.proofs.Searches.{scanned}
use Rattle.arrays.proofs.bounds.Keys.run_on.Goals as goal

pub offset_bounds-self-from : goal.offset_bounds-self-from
offset_bounds-self-from g c =
    let all = (upto-parts (total g.met.K.Key.lawful) c.args.self.now.keys.now c.args.key.now c.args.self.now.sorted).within in
    omega arith

pub slice_bounds-iter-count : goal.slice_bounds-iter-count
slice_bounds-iter-count g c = offset_bounds-self-from g c

pub slice_bounds-iter-start : goal.slice_bounds-iter-start
slice_bounds-iter-start g c = offset_bounds-self-from g c

pub returns : goal.returns
returns g c =
    let s = c.args.self.now in
    let key = c.args.key.now in
    let test : g.row.K.Denot → Bool = λ x. not (before g.K.Ord.cmp key x) in
    let rest = drop c.args.from s.keys.now in
    let ps = upto-parts (total g.met.K.Key.lawful) s.keys.now key s.sorted in
    let all = ps.within in
    let n : c.count.result ≡ prefix_len test rest =
    count_from_yields_List _ c.count.result c.count.ensures.ran
    (YieldsList-from_take_while _ test (YieldsList-at c.take_while.ensures.source (YieldsList-from_slice rest (c.iter-rest.ensures.rest ∙ between_to_end s.keys.now c.args.from (length s.keys.now) (omega arith)))) c.take_while.ensures.closure c.take_while.ensures.done (λ x b q k. search rules))
    ∙ length-prefix_len test rest in
    let end : c.args.from + c.count.result ≡ upto (before g.K.Ord.cmp) s.keys.now key = ap (λ m. c.args.from + m) n ∙ scanned test s.keys.now _ ps c.args.from key c.requires in
    record { start = refl; end = end; ordered = omega arith; within = omega arith }
