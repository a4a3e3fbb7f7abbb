use Rattle.std.proofs.Common.{◌≡◌, ◌-◌, Bool, not, get_or, take, ap, ◌∙◌, rules, arith}
use Rattle.std.specs.List.{suffix_len}
use Rattle.std.proofs.lemmas.Iterator.Adapters.{YieldsList-from_rev_slice}
use Rattle.std.proofs.lemmas.Iterator.Consumers.{YieldsList-at, count_from_yields_List}
use Rattle.std.proofs.lemmas.Iterator.Search.{YieldsList-from_take_while}
use Rattle.std.proofs.lemmas.List.{get_or_default}
use Rattle.std.proofs.lemmas.List.Folds.{length-prefix_len}
use Rattle.keys.specs.Order.{before}
use Rattle.keys.proofs.Tests.{total}
use Rattle.contents.specs.Sorted.{below}
use Rattle.contents.proofs.Bounds.{below_parts}
use Rattle.arrays.proofs.Searches.{scanned_back, between_bounds}
use Rattle.arrays.proofs.bounds.Keys.run_ending_at.Goals as goal

pub returns-clause-start : goal.returns-clause-start
returns-clause-start g c =
    let s = c.args.self.now in
    let o = total g.met.K.Key.lawful in
    let key = get_or s.keys.now c.args.idx c.index-self-idx.result in
    let test : g.row.K.Denot → Bool = λ x. not (before g.K.Ord.cmp x key) in
    let earlier = take c.args.idx s.keys.now in
    let own = (between_bounds o s.keys.now s.sorted c.args.idx c.index-self-idx.result c.requires).0 in
    let n : c.count.result ≡ suffix_len test earlier =
    count_from_yields_List _ c.count.result c.count.ensures.ran
    (YieldsList-from_take_while _ test (YieldsList-at c.take_while.ensures.source (YieldsList-from_rev_slice earlier cc)) c.take_while.ensures.closure c.take_while.ensures.done (λ x b q k. search rules))
    ∙ length-prefix_len test _ in
    λ d.
    ap (λ m. c.args.idx - m) n
    ∙ scanned_back (λ x. before g.K.Ord.cmp x key) s.keys.now _ (below_parts o s.keys.now key s.sorted) c.args.idx key own (omega arith)
    ∙ ap (below (before g.K.Ord.cmp) s.keys.now) (get_or_default s.keys.now c.args.idx c.index-self-idx.result d c.requires)
