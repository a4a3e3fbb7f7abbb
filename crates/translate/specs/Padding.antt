-- Padded bytes: their length and their elements. Assumes nothing.
use Rattle.std.specs.Prelude.{◌≡◌, ℕ, zero, suc, ◌<◌, List, [], ◌∷◌, length, replicate, slice_index, slice_index_or, refl}
use Rattle.std.proofs.Common.{ap, arith, lit<, Fits}
use Rattle.std.specs.Int.{w8}
use Rattle.std.proofs.ByRecursion.{All-from_get_or}
use Rattle.translate.specs.Bytes.{Bytes}
use Rattle.translate.specs.Meanings.{padded}

pub length-padded : (n : ℕ) (bs : List ℕ) → length (padded n bs) ≡ n
length-padded zero bs = refl
length-padded (suc n) [] = ap suc (length-padded n [])
length-padded (suc n) (b ∷ bs) = ap suc (length-padded n bs)

-- a list of n numbers that reads as bs does, with 0 past its end, is bs padded
pub padded-from : (n : ℕ) (bs xs : List ℕ) → length xs ≡ n → ((k : ℕ) → k < n → slice_index xs k ≡ slice_index bs k) → xs ≡ padded n bs
padded-from zero bs [] l h = refl
padded-from zero bs (x ∷ xs) l h = absurd (omega arith)
padded-from (suc n) bs [] l h = absurd (omega arith)
padded-from (suc n) [] (x ∷ xs) l h =
    λ i. h 0 (omega arith) i ∷ padded-from n [] xs (omega arith) (λ k b. h (suc k) (omega arith)) i
padded-from (suc n) (b ∷ bs) (x ∷ xs) l h =
    λ i. h 0 (omega arith) i ∷ padded-from n bs xs (omega arith) (λ k b. h (suc k) (omega arith)) i

-- the elements of a slice of bytes, as the checker knows them
pub bytes-known : (bs : List ℕ) → ((k : ℕ) → Fits w8 (slice_index bs k)) → Bytes bs
bytes-known bs h = All-from_get_or (λ b. b < 256) bs 0 (λ k _. omega (arith, h k))

pub bytes-padded : (n : ℕ) (bs : List ℕ) → Bytes bs → Bytes (padded n bs)
bytes-padded zero bs h = tt
bytes-padded (suc n) [] h = (lit< tt, bytes-padded n [] tt)
bytes-padded (suc n) (b ∷ bs) h = (h.0, bytes-padded n bs h.1)

pub zeros : (n k : ℕ) → slice_index_or {A = ℕ} (replicate n 0) k 0 ≡ 0
zeros zero k = refl
zeros (suc n) zero = refl
zeros (suc n) (suc k) = zeros n k
