-- Bytes, their order, and what it is to keep it. Assumes nothing.
use Rattle.std.specs.Prelude.{◌≡◌, ℕ, ◌<◌, List, ◌≢◌}
use Rattle.std.specs.declared.cmp.Ordering.TheVariants.{Less, Greater}
use Rattle.std.specs.declared.cmp.Ordering.{Ordering}
use Rattle.std.specs.List.{AllByRecursion}
use Rattle.keys.specs.Orders.{bytes_order}

-- each element is a byte
abbrev pub Bytes : List ℕ → Type 0
Bytes bs = AllByRecursion (λ b. b < 256) bs

-- a is not after b in byte order, where bytes that begin others are the earlier
abbrev pub NotAfter : List ℕ → List ℕ → Type 0
NotAfter a b = bytes_order a b ≡ Greater → ⊥

-- the order of bytes never comes out reversed
abbrev pub Keeps : {K : Type 0} → (K → K → Ordering) → (List ℕ → K) → Type 0
Keeps cmp m = (a b : List ℕ) → Bytes a → Bytes b → NotAfter a b → cmp (m b) (m a) ≢ Less
