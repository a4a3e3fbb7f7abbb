use Rattle.std.proofs.Common.{◌≡◌, ℕ, ◌+◌, ◌-◌, ◌≤◌, min, List, ◌++◌, length, take, drop, replicate, ap, ◌∙◌, arith, rules}
use borrow.Rule.Slice.PartMut.{put_mid}
use Rattle.std.proofs.lemmas.List.{places, same_lists, get_or_past, length-append, length-take}
use Rattle.translate.specs.Meanings.{padded, number}
use Rattle.translate.specs.Numbers.{four, in_front, padded-below}
use Rattle.translate.specs.Padding.{length-padded, bytes-known, padded-from, zeros}
use Rattle.translate.proofs.prefix.Prefix.split.Goals as goal

-- the buffer, once the first m bytes are copied to p before its end
filled : (p m : ℕ) (bs ys : List ℕ) → p ≤ 4 → m ≡ min (length bs) p → ys ≡ take (m - 0) bs → put_mid (4 - p) ((4 - p + m) - (4 - p)) (replicate 4 0) ys ≡ take (4 - p) (replicate 4 0) ++ padded p bs
filled p m bs ys h e c =
    ap (λ xs. take (4 - p) (replicate 4 0) ++ xs) (padded-from p bs _ (search (rules, places)) (λ k l. grind (arith, places, zeros, get_or_past)))

rest : (p m : ℕ) (bs : List ℕ) → m ≡ min (length bs) p → take (length bs - m) (drop m bs) ≡ drop p bs
rest p m bs e = same_lists _ _ (search (rules, places)) (λ k d h. grind (arith, places))

pub returns : goal.returns
returns c =
    let p = c.args.self.now.bytes in
    let m = c.min-n.result in
    let bs = c.args.key.now in
    let f = filled p m bs c.copy_from_slice.new.self (omega arith) c.min-n.ensures c.copy_from_slice.ensures.after in
    let n = four _ (ap length f ∙ simp (length-append, length-take, length-padded) (omega arith)) ∙ ap number f ∙ in_front (4 - p) 4 (padded p bs) in
    let e : c.from.result ≡ number (padded p bs) = c.from.ensures ∙ c.from_be_bytes.ensures ∙ n in
    let r = rest p m bs c.min-n.ensures in
    let b = padded-below p bs (bytes-known bs c.type_inv.key) in
    record { parts = λ i. (e i, r i); below = omega arith }
