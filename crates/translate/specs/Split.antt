-- How a key is split, and its place. Assumes nothing.
use Rattle.std.specs.Prelude.{ℕ, List, drop}
use Rattle.keys.specs.declared.place.Place.{Place}
use Rattle.translate.specs.Meanings.{padded, number}

-- the partition, which is the first p bytes as a number, and the sub-key, which is the rest
abbrev pub split_of : ℕ → List ℕ → ℕ × List ℕ
split_of p bs = (number (padded p bs), drop p bs)

-- the partition, and the sub-key as m translates it
abbrev pub place_of : {K : Type 0} → ℕ → (List ℕ → K) → List ℕ → Place K
place_of p m bs = record { partition = (split_of p bs).0; key = m (split_of p bs).1 }
