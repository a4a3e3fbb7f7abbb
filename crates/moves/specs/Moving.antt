-- What moving a partition from one store to another does. Assumes nothing.
use Rattle.std.specs.Prelude.{◌≡◌, ℕ, ◌+◌, ◌≤◌, List, [], ◌++◌, length, ◌≢◌}
use Rattle.std.specs.declared.cmp.Ordering.{Ordering}
use Rattle.keys.specs.declared.place.Place.{Place}
use Rattle.store.specs.Meaning.{Meaning, run_at, values_in}

module _ {K V : Type 0} (cmp : K → K → Ordering) where
  -- the values xs were put at the end of the run at p
  pub record Appended (m n : Meaning K V) (p : Place K) (xs : List V) : Type 0 where
    pub here : run_at cmp n p ≡ run_at cmp m p ++ xs
    pub there : (x : Place K) → (x ≢ p) → run_at cmp n x ≡ run_at cmp m x
    pub falls : m.space p.partition ≤ n.space p.partition + length xs
    pub values : values_in n p.partition ≡ values_in m p.partition + length xs
    pub same_partitions : n.partitions ≡ m.partitions
    pub same_assured : n.assured ≡ m.assured

  -- what a store keeps while partition q alone changes
  pub record Apart (m n : Meaning K V) (q : ℕ) : Type 0 where
    pub runs : (x : Place K) → (x.partition ≢ q) → run_at cmp n x ≡ run_at cmp m x
    pub same_partitions : n.partitions ≡ m.partitions
    pub same_assured : n.assured ≡ m.assured

  -- from windows m and a side n to windows m1 and a side n1: all runs of partition q have moved
  pub record Moved (m n m1 n1 : Meaning K V) (q : ℕ) : Type 0 where
    pub here : (x : Place K) → x.partition ≡ q → run_at cmp n1 x ≡ run_at cmp m x
    pub gone : (x : Place K) → x.partition ≡ q → run_at cmp m1 x ≡ []
    pub falls : n.space q ≤ n1.space q + values_in m q
    pub windows_apart : Apart m m1 q
    pub side_apart : Apart n n1 q
