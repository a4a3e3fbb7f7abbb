-- The lines that are left of a script. Assumes nothing.
use Rattle.std.specs.Prelude.{◌≡◌, ℕ, ◌≤◌, List, length, drop}

-- ys are the last of xs
abbrev pub Behind : {X : Type 0} → List X → List X → Type 0
Behind xs ys = (k : ℕ) × (k ≤ length xs) × (ys ≡ drop k xs)
