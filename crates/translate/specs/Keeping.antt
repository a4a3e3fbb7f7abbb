-- The cap, the label and the place of a key keep the order of bytes. Assumes nothing.
use Rattle.std.specs.Prelude.{◌≡◌, ℕ, zero, suc, ◌<◌, List, [], ◌∷◌, drop, ◌≢◌, refl}
use Rattle.std.specs.declared.cmp.Ordering.TheVariants.{Less, Equal, Greater}
use Rattle.std.specs.declared.cmp.Ordering.{Ordering}
use Rattle.std.proofs.Common.{sym, ap, subst, ◌∙◌, true≢false, arith}
use Rattle.std.specs.Ordering.{is_eq, is_lt, ordering_then, ordering_reverse, MatchOrdering, nat_cmp}
use Rattle.std.specs.Cmp.{ranks}
use Rattle.std.specs.Cmp.Lexicographic.{nat_list_cmp_total}
use Rattle.std.proofs.ByRecursion.{All-drop}
use Rattle.keys.specs.Orders.{bytes_order, label_order, place_order}
use Rattle.translate.specs.Bytes.{NotAfter, Keeps}
use Rattle.translate.specs.Meanings.{padded, cap_of, label_of}
use Rattle.translate.specs.Split.{place_of}
use Rattle.translate.specs.Numbers.{padded-order}

-- ---- the first n bytes, padded, and then the rest

not_after_nil : (bs : List ℕ) → NotAfter [] bs
not_after_nil [] e = true≢false (ap is_eq e)
not_after_nil (b ∷ bs) e = true≢false (ap is_lt e)

not_above_zero : (y : ℕ) → nat_cmp 0 y ≢ Greater
not_above_zero y e = let h : y < 0 = subst (λ r. MatchOrdering r (0 < y) (0 ≡ y) (y < 0)) e (ranks 0 y) in omega arith

-- r at the first bytes, s at the others of the first n, t at the rest
step : (r s t : Ordering) → (r ≢ Greater) → (r ≡ Equal → ordering_then s t ≢ Greater) → ordering_then (ordering_then r s) t ≢ Greater
step Less s t u v e = true≢false (ap is_lt e)
step Equal s t u v e = v refl e
step Greater s t u v e = u refl

drop-nil : (n : ℕ) → drop {A = ℕ} n [] ≡ []
drop-nil zero = refl
drop-nil (suc n) = refl

-- of keys in order the padded parts are in order, and where those are equal the rests are
parts-keep : (n : ℕ) (a b : List ℕ) → NotAfter a b → ordering_then (bytes_order (padded n a) (padded n b)) (bytes_order (drop n a) (drop n b)) ≢ Greater
parts-keep zero a b u = u
parts-keep (suc n) [] [] u = rw (drop-nil n) at (parts-keep n [] [] u)
parts-keep (suc n) [] (y ∷ ys) u =
    step (nat_cmp 0 y) (bytes_order (padded n []) (padded n ys)) (bytes_order [] (drop n ys)) (not_above_zero y)
    (λ _. rw (drop-nil n) at (parts-keep n [] ys (not_after_nil ys)))
parts-keep (suc n) (x ∷ xs) [] u = absurd (u refl)
parts-keep (suc n) (x ∷ xs) (y ∷ ys) u =
    step (nat_cmp x y) (bytes_order (padded n xs) (padded n ys)) (bytes_order (drop n xs) (drop n ys)) (λ e. u (ap (λ r. ordering_then r (bytes_order xs ys)) e))
    (λ e. parts-keep n xs ys (λ g. u (ap (λ r. ordering_then r (bytes_order xs ys)) e ∙ g)))

-- ---- labels, caps and places

padded-keep : (n : ℕ) (a b : List ℕ) → NotAfter a b → bytes_order (padded n b) (padded n a) ≢ Less
padded-keep n a b u e =
    parts-keep n a b u (ap (λ r. ordering_then r (bytes_order (drop n a) (drop n b))) (nat_list_cmp_total.antisymm (padded n a) (padded n b) ∙ ap ordering_reverse e))

pub label_keeps : Keeps label_order label_of
label_keeps a b p q u = padded-keep 8 a b u

pub cap_keeps : Keeps nat_cmp cap_of
cap_keeps a b p q u e = padded-keep 4 a b u (sym (padded-order 4 b a q p) ∙ e)

-- r at the partitions, s at the sub-keys, t at the sub-keys translated, the other way round
lasts : (r s t : Ordering) → (ordering_then r s ≢ Greater) → ((s ≢ Greater) → t ≢ Less) → ordering_then (ordering_reverse r) t ≢ Less
lasts Less s t u v e = true≢false (sym (ap is_lt e))
lasts Equal s t u v e = v u e
lasts Greater s t u v e = u refl

pub place_keeps : {K : Type 0} (cmp : K → K → Ordering) (n : ℕ) (m : List ℕ → K) → Keeps cmp m → Keeps (place_order cmp) (place_of n m)
place_keeps cmp n m k a b p q u e =
    lasts (bytes_order (padded n a) (padded n b)) (bytes_order (drop n a) (drop n b)) (cmp (m (drop n b)) (m (drop n a))) (parts-keep n a b u)
    (k (drop n a) (drop n b) (All-drop (λ x. x < 256) n a p) (All-drop (λ x. x < 256) n b q))
    (ap (λ r. ordering_then r (cmp (m (drop n b)) (m (drop n a)))) (sym (padded-order n b a q p ∙ nat_list_cmp_total.antisymm (padded n b) (padded n a))) ∙ e)
