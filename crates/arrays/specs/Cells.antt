-- What a change leaves in all cells, of which the first len are in use. Assumes nothing.
use Rattle.std.specs.Prelude.{ℕ, ◌+◌, ◌-◌, List, ◌++◌, take, drop}
use Rattle.std.specs.List.{insert, between}

-- x put in at i of the cells in use, which become one more
abbrev pub put_at : {X : Type 0} → List X → ℕ → ℕ → X → List X
put_at xs len i x = insert (take len xs) i x ++ drop (len + 1) xs

-- the cells from s to e taken out of those in use; from the new length on each cell keeps what it held
abbrev pub cut : {X : Type 0} → List X → ℕ → ℕ → ℕ → List X
cut xs len s e = (take s xs ++ between e len xs) ++ drop (len - (e - s)) xs
