-- Sorted lists of keys, by the test `lt` that one key comes before another. Assumes nothing.
use Rattle.std.specs.Prelude.{◌≡◌, ℕ, ◌+◌, ◌<◌, ◌≤◌, Bool, false, cond, not, List, [], ◌∷◌, length, slice_index_or}

-- no later key is before an earlier one; equal keys are adjacent
abbrev pub Sorted : {K : Type 0} → (K → K → Bool) → List K → Type 0
Sorted {K} lt ks = (i j : ℕ) (d : K) → i ≤ j → j < length ks → lt (slice_index_or ks j d) (slice_index_or ks i d) ≡ false

-- how many pass a test
abbrev pub count : {K : Type 0} → (K → Bool) → List K → ℕ
count t [] = 0
count t (k ∷ ks) = cond (t k) 1 0 + count t ks

-- how many keys are before k: in a sorted list, the index of the first that is not less
abbrev pub below : {K : Type 0} → (K → K → Bool) → List K → K → ℕ
below lt ks k = count (λ x. lt x k) ks

-- how many keys are not after k: in a sorted list, the index of the first that is greater
abbrev pub upto : {K : Type 0} → (K → K → Bool) → List K → K → ℕ
upto lt ks k = count (λ x. not (lt k x)) ks
