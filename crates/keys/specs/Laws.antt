-- The orders of numbers, labels and places are lawful. Assumes nothing.
use Rattle.std.specs.Prelude.{◌≡◌, ℕ, ◌<◌, List, [], ◌∷◌, refl}
use Rattle.std.specs.declared.cmp.Ordering.TheVariants.{Less, Equal, Greater}
use Rattle.std.specs.declared.cmp.Ordering.{Ordering}
use Rattle.std.proofs.Common.{sym, ap, ◌∙◌, true≢false}
use Rattle.std.specs.Ordering.{ordering_reverse, ordering_then, is_lt, is_gt, nat_cmp}
use Rattle.std.specs.Cmp.{nat_cmp_total, ranks, below_irrefl, below_chain, means}
use Rattle.std.specs.Cmp.Lexicographic.{nat_list_cmp_total}
use Rattle.keys.specs.Order.{Lawful}
use Rattle.keys.specs.Orders.{bytes_order, label_order, place_order}

-- ---- numbers

rank_same : (x y : ℕ) → nat_cmp x y ≡ Equal → x ≡ y
rank_same x y e = means (λ (a b : ℕ). a < b) below_irrefl below_chain nat_cmp ranks x y Equal e

pub numbers_lawful : Lawful nat_cmp
numbers_lawful = record { turned = nat_cmp_total.antisymm; same = rank_same; carries = nat_cmp_total.trans }

-- ---- labels

both_equal : (a b : Ordering) → ordering_then a b ≡ Equal → (a ≡ Equal) × (b ≡ Equal)
both_equal Less b e = absurd (true≢false (ap is_lt e))
both_equal Equal b e = (refl, e)
both_equal Greater b e = absurd (true≢false (ap is_gt e))

bytes_same : (xs ys : List ℕ) → bytes_order xs ys ≡ Equal → xs ≡ ys
bytes_same [] [] e = refl
bytes_same [] (y ∷ ys) e = absurd (true≢false (ap is_lt e))
bytes_same (x ∷ xs) [] e = absurd (true≢false (ap is_gt e))
bytes_same (x ∷ xs) (y ∷ ys) e =
    let b = both_equal (nat_cmp x y) (bytes_order xs ys) e in
    λ i. rank_same x y b.0 i ∷ bytes_same xs ys b.1 i

pub labels_lawful : Lawful label_order
labels_lawful = record {
  turned = λ x y. nat_list_cmp_total.antisymm x.bytes y.bytes;
  same = λ x y e. let b = bytes_same x.bytes y.bytes e in λ i. record { bytes = b i };
  carries = λ x y z. nat_list_cmp_total.trans x.bytes y.bytes z.bytes;
}

-- ---- places

then-turned : (a b : Ordering) → ordering_then (ordering_reverse a) (ordering_reverse b) ≡ ordering_reverse (ordering_then a b)
then-turned Less b = refl
then-turned Equal b = refl
then-turned Greater b = refl

-- of partitions p, q, s and answers a, b, c at their keys; k and m are the answers at the partitions
then-carries : (p q s : ℕ) (a b c k m : Ordering) → (a ≡ Less → b ≡ Less → c ≡ Less) → nat_cmp p q ≡ k → nat_cmp q s ≡ m → ordering_then k a ≡ Less → ordering_then m b ≡ Less → ordering_then (nat_cmp p s) c ≡ Less
then-carries p q s a b c Less Less f e g h j = ap (λ k. ordering_then k c) (nat_cmp_total.trans p q s e g)
then-carries p q s a b c Less Equal f e g h j = ap (λ k. ordering_then k c) (ap (nat_cmp p) (sym (rank_same q s g)) ∙ e)
then-carries p q s a b c Less Greater f e g h j = absurd (true≢false (ap is_gt j))
then-carries p q s a b c Equal Less f e g h j = ap (λ k. ordering_then k c) (nat_cmp_total.congr p q s e ∙ g)
then-carries p q s a b c Equal Equal f e g h j = ap (λ k. ordering_then k c) (nat_cmp_total.congr p q s e ∙ g) ∙ f h j
then-carries p q s a b c Equal Greater f e g h j = absurd (true≢false (ap is_gt j))
then-carries p q s a b c Greater m f e g h j = absurd (true≢false (ap is_gt h))

pub places_lawful : {K : Type 0} (cmp : K → K → Ordering) → Lawful cmp → Lawful (place_order cmp)
places_lawful cmp l = record {
  turned = λ x y.
      (λ i. ordering_then (nat_cmp_total.antisymm x.partition y.partition i) (l.turned x.key y.key i))
      ∙ then-turned (nat_cmp y.partition x.partition) (cmp y.key x.key);
  same = λ x y e.
      let b = both_equal (nat_cmp x.partition y.partition) (cmp x.key y.key) e in
      λ i. record { partition = rank_same x.partition y.partition b.0 i; key = l.same x.key y.key b.1 i };
  carries = λ x y z.
      then-carries x.partition y.partition z.partition (cmp x.key y.key) (cmp y.key z.key) (cmp x.key z.key)
      (nat_cmp x.partition y.partition) (nat_cmp y.partition z.partition) (l.carries x.key y.key z.key) refl refl;
}
