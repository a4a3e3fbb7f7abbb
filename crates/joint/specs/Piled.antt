-- What a pile means, from what its windows m and its side n mean. Assumes nothing.
use Rattle.std.specs.Prelude.{◌≡◌, ℕ, ◌+◌, ◌-◌, ◌%◌, ◌^◌, ◌<◌, max, Bool, true, false, cond, ◌&&◌, ◌==◌, nat_le}
use Rattle.std.specs.declared.cmp.Ordering.{Ordering}
use Rattle.keys.specs.Order.{before}
use Rattle.keys.specs.Orders.{place_order}
use Rattle.contents.specs.Entries.{merged, none}
use Rattle.store.specs.Meaning.{Meaning, Sound, Windows, values_in, void}

-- a partition is in the side while the side has a value there, and else in the windows
abbrev pub joint : {K V : Type 0} → (K → K → Ordering) → Meaning K V → Meaning K V → Meaning K V
joint cmp m n = record {
  contents = merged (before (place_order cmp)) m.contents n.contents;
  partitions = n.partitions;
  space = λ q. cond (values_in n q == 0) (max (m.space q) (n.space q - values_in m q)) (n.space q);
  assured = n.assured;
}

-- a pile that is not live is void
abbrev pub live_or_void : {K V : Type 0} → (K → K → Ordering) → Bool → Meaning K V → Meaning K V → Meaning K V
live_or_void cmp true m n = joint cmp m n
live_or_void cmp false m n = void

-- both have the same partitions, and each partition is in one of the two at most
pub record Apiece {K V : Type 0} (m n : Meaning K V) : Type 0 where
  pub same : n.partitions ≡ m.partitions
  pub apart : (q : ℕ) → 0 < values_in n q → values_in m q ≡ 0

-- what is known of the windows m and the side n
pub record Known {K V : Type 0} (cmp : K → K → Ordering) (m n : Meaning K V) : Type 0 where
  pub windows : Sound cmp m
  pub side : Sound cmp n
  pub full : Windows m

-- a pile is live where it was opened over two empty stores with equally many partitions
abbrev pub opened : {K V : Type 0} → Meaning K V → Meaning K V → Bool
opened m n = none m.contents && (none n.contents && m.partitions == n.partitions)

-- whether a put that is done at partition q moves it: it fills the window, and the side has space for all; or the window was full
abbrev pub spilled : {K V : Type 0} → Meaning K V → Meaning K V → ℕ → Bool
spilled m n q = values_in n q == 0 && cond (m.space q == 1) (nat_le m.assured (n.space q)) (m.space q == 0)

-- what a put that is done adds to the spills a, giving b; n1 is the side after it
pub record Counted {K V : Type 0} (m n n1 : Meaning K V) (q a b : ℕ) : Type 0 where
  pub counted : b ≡ cond (spilled m n q) ((a + 1) % 2 ^ 64) a
  pub moved : spilled m n q ≡ true → 0 < values_in n1 q
  pub stays : spilled m n q ≡ false → values_in n q ≡ 0 → n1 ≡ n
