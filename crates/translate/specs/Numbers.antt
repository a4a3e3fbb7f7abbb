-- Bytes as one number: its size, and its order. Assumes nothing.
use Rattle.std.specs.Prelude.{◌≡◌, ℕ, zero, suc, ◌+◌, ◌*◌, ◌^◌, ◌<◌, List, [], ◌∷◌, ◌++◌, length, take, replicate, fold, slice_index, refl}
use Rattle.std.specs.declared.cmp.Ordering.TheVariants.{Less, Equal, Greater}
use Rattle.std.specs.declared.cmp.Ordering.{Ordering}
use Rattle.std.proofs.Common.{sym, ap, ◌∙◌, mul_assoc, mul-one, one-mul, arith}
use Rattle.std.proofs.Math.Nat.{pow-succ'}
use Rattle.std.specs.Ordering.{ordering_then, MatchOrdering, nat_cmp}
use Rattle.std.specs.Cmp.{ranks, nat_cmp_is}
use Rattle.keys.specs.Orders.{bytes_order}
use Rattle.translate.specs.Bytes.{Bytes}
use Rattle.translate.specs.Meanings.{padded, number}
use Rattle.translate.specs.Padding.{length-padded, bytes-padded}

abbrev digit : ℕ → ℕ → ℕ
digit n b = n * 256 + b

-- four bytes as `from_be_bytes` reads them
abbrev word : List ℕ → ℕ
word xs = slice_index xs 0 * 16777216 + slice_index xs 1 * 65536 + slice_index xs 2 * 256 + slice_index xs 3

pub four : (xs : List ℕ) → length xs ≡ 4 → word xs ≡ number xs
four [] e = absurd (omega arith)
four (a ∷ []) e = absurd (omega arith)
four (a ∷ b ∷ []) e = absurd (omega arith)
four (a ∷ b ∷ c ∷ []) e = absurd (omega arith)
four (a ∷ b ∷ c ∷ d ∷ []) e = omega arith
four (a ∷ b ∷ c ∷ d ∷ x ∷ xs) e = absurd (omega arith)

-- zeros in front count nothing
pub in_front : (n k : ℕ) (xs : List ℕ) → number (take n (replicate k 0) ++ xs) ≡ number xs
in_front zero k xs = refl
in_front (suc n) zero xs = refl
in_front (suc n) (suc k) xs = in_front n k xs

-- ---- its size

below-from : (w n : ℕ) (xs : List ℕ) → n < w → Bytes xs → fold digit n xs < w * 256 ^ length xs
below-from w n [] h b = rw mul-one h
below-from w n (x ∷ xs) h b =
    rw (pow-succ', ← mul_assoc) (below-from (w * 256) (n * 256 + x) xs (omega (arith, b.0)) b.1)

pub padded-below : (n : ℕ) (bs : List ℕ) → Bytes bs → number (padded n bs) < 256 ^ n
padded-below n bs b = rw (one-mul, length-padded n bs) at (below-from 1 0 (padded n bs) (omega arith) (bytes-padded n bs b))

-- ---- its order

then_equal : (r : Ordering) → r ≡ ordering_then r Equal
then_equal Less = refl
then_equal Equal = refl
then_equal Greater = refl

then-assoc : (r s t : Ordering) → ordering_then (ordering_then r s) t ≡ ordering_then r (ordering_then s t)
then-assoc Less s t = refl
then-assoc Equal s t = refl
then-assoc Greater s t = refl

digit-ranked : (m n x y : ℕ) (r s : Ordering) → x < 256 → y < 256 → MatchOrdering r (m < n) (m ≡ n) (n < m) → MatchOrdering s (x < y) (x ≡ y) (y < x) → MatchOrdering (ordering_then r s) (digit m x < digit n y) (digit m x ≡ digit n y) (digit n y < digit m x)
digit-ranked m n x y Less s p q h k = omega arith
digit-ranked m n x y Equal Less p q h k = omega arith
digit-ranked m n x y Equal Equal p q h k = omega arith
digit-ranked m n x y Equal Greater p q h k = omega arith
digit-ranked m n x y Greater s p q h k = omega arith

order_from : (m n : ℕ) (xs ys : List ℕ) → length xs ≡ length ys → Bytes xs → Bytes ys → nat_cmp (fold digit m xs) (fold digit n ys) ≡ ordering_then (nat_cmp m n) (bytes_order xs ys)
order_from m n [] [] e p q = then_equal (nat_cmp m n)
order_from m n [] (y ∷ ys) e p q = absurd (omega arith)
order_from m n (x ∷ xs) [] e p q = absurd (omega arith)
order_from m n (x ∷ xs) (y ∷ ys) e p q =
    order_from (digit m x) (digit n y) xs ys (omega arith) p.1 q.1
    ∙ ap (λ r. ordering_then r (bytes_order xs ys)) (sym (nat_cmp_is (digit m x) (digit n y) (ordering_then (nat_cmp m n) (nat_cmp x y)) (digit-ranked m n x y (nat_cmp m n) (nat_cmp x y) p.0 q.0 (ranks m n) (ranks x y))))
    ∙ then-assoc (nat_cmp m n) (nat_cmp x y) (bytes_order xs ys)

-- padded to one length, bytes compare as their numbers do
pub padded-order : (n : ℕ) (a b : List ℕ) → Bytes a → Bytes b → nat_cmp (number (padded n a)) (number (padded n b)) ≡ bytes_order (padded n a) (padded n b)
padded-order n a b p q =
    order_from 0 0 (padded n a) (padded n b) (length-padded n a ∙ sym (length-padded n b)) (bytes-padded n a p) (bytes-padded n b q)
