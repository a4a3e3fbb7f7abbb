-- What the three translators mean. Assumes nothing.
use Rattle.std.specs.Prelude.{ℕ, zero, suc, ◌+◌, ◌*◌, ◌%◌, ◌^◌, List, [], ◌∷◌, fold, bit_xor}
use Rattle.keys.specs.declared.label.Label.{Label}

-- the first n bytes, with zeros on the right where there are fewer
abbrev pub padded : ℕ → List ℕ → List ℕ
padded zero bs = []
padded (suc n) [] = 0 ∷ padded n []
padded (suc n) (b ∷ bs) = b ∷ padded n bs

-- bytes as one number, the first the highest
abbrev pub number : List ℕ → ℕ
number bs = fold (λ n b. n * 256 + b) 0 bs

-- four bytes as a number
abbrev pub cap_of : List ℕ → ℕ
cap_of bs = number (padded 4 bs)

-- eight bytes as they are
abbrev pub label_of : List ℕ → Label
label_of bs = record { bytes = padded 8 bs }

-- one step of the hash: xor, then multiply
abbrev pub stir : ℕ → ℕ → ℕ
stir h b = (bit_xor h b * 16777619) % (2 ^ 32)

-- the 32-bit FNV-1a hash
abbrev pub fold_of : List ℕ → ℕ
fold_of bs = fold stir 2166136261 bs
