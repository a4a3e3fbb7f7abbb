use Rattle.std.proofs.Common.{sym, ap, ◌∙◌, ◌+◌, arith}
use Rattle.keys.specs.Order.{before}
use Rattle.keys.specs.Orders.{place_order}
use Rattle.contents.proofs.Laws.{keys-few}
use Rattle.book.proofs.Append.{more_items, keys_first, keys_later}
use Rattle.book.proofs.book.Book.insert.Goals as goal

pub overflow_add-self-then-end-eq0 : goal.overflow_add-self-then-end-eq0
overflow_add-self-then-end-eq0 g c =
    let b = c.args.self.now in
    let opened = c.in_ok-place.ensures.0 in
    omega (arith, b.keys_counted opened, b.items_counted opened, keys-few (before (place_order g.S.Key.Ord.cmp)) (g.S.Store.meaning b.store).contents)

pub invariant_of-self-then-end-eq0 : goal.invariant_of-self-then-end-eq0
invariant_of-self-then-end-eq0 g c =
    let b = c.args.self.now in
    let s = c.put.new.self in
    let d = c.in_ok-put.ensures in
    let sound = g.met.S.Store.sound in
    let p = c.in_ok-place.place in
    let i = c.run_len-end.result in
    let v = c.args.value in
    record {
      partitions = λ h. d.same_partitions ∙ b.partitions h;
      keys_counted = λ h. ap (λ k. k + 1) (b.keys_counted h) ∙ sym (keys_first g.met.S.Key.Key.lawful (g.S.Store.meaning b.store) (g.S.Store.meaning s) (sound b.store) (sound s) p i v d (omega (arith, c.run_len-end.ensures, c.if-end-eq0.true)));
      items_counted = λ h. ap (λ k. k + 1) (b.items_counted h) ∙ sym (more_items g.met.S.Key.Key.lawful (g.S.Store.meaning b.store) (g.S.Store.meaning s) (sound b.store) (sound s) p i v d);
    }

pub invariant_of-self-else-end-eq0 : goal.invariant_of-self-else-end-eq0
invariant_of-self-else-end-eq0 g c =
    let b = c.args.self.now in
    let s = c.put.new.self in
    let d = c.in_ok-put.ensures in
    let sound = g.met.S.Store.sound in
    let p = c.in_ok-place.place in
    let i = c.run_len-end.result in
    let v = c.args.value in
    record {
      partitions = λ h. d.same_partitions ∙ b.partitions h;
      keys_counted = λ h. b.keys_counted h ∙ sym (keys_later g.met.S.Key.Key.lawful (g.S.Store.meaning b.store) (g.S.Store.meaning s) (sound b.store) (sound s) p i v d (λ z. c.if-end-eq0.false (c.run_len-end.ensures ∙ z)));
      items_counted = λ h. ap (λ k. k + 1) (b.items_counted h) ∙ sym (more_items g.met.S.Key.Key.lawful (g.S.Store.meaning b.store) (g.S.Store.meaning s) (sound b.store) (sound s) p i v d);
    }
