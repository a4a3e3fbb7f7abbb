-- What the side-table means: places and values alongside, the first n of both. Assumes nothing.
use Rattle.std.specs.Prelude.{◌≡◌, ℕ, ◌-◌, ◌≤◌, cond, ◌&&◌, List, [], length, take, drop, Option, ◌==◌, nat_le, nat_lt}
use Rattle.std.specs.declared.cmp.Ordering.{Ordering}
use Rattle.keys.specs.Order.{before}
use Rattle.keys.specs.Orders.{place_order}
use Rattle.keys.specs.declared.place.Place.{Place}
use Rattle.contents.specs.Entries.{Entry, entries, Rising, run, first_that}
use Rattle.store.specs.Meaning.{Meaning, in_part, void}

-- the entries in use
abbrev pub live : {P V : Type 0} → List P → List V → ℕ → List (Entry P V)
live ks vs n = entries (take n ks) (take n vs)

-- the same space for every partition: the cells that hold no value
abbrev pub side_meaning : {K V : Type 0} → List (Place K) → List V → ℕ → ℕ → ℕ → Meaning K V
side_meaning ks vs cells n parts = record {
  contents = live ks vs n;
  partitions = parts;
  space = λ q. cond (nat_lt q parts) (cells - n) 0;
  assured = cells;
}

-- over c key cells and d value cells, nothing held: as many of each and at most 65,536, else void
abbrev pub opened : {K V : Type 0} → ℕ → ℕ → ℕ → Meaning K V
opened c d parts =
    cond (c == d && nat_le c 65536) (record { contents = []; partitions = parts; space = λ q. cond (nat_lt q parts) c 0; assured = c }) void

-- what holds of the table between calls
pub record Sorts {K V : Type 0} (cmp : K → K → Ordering) (ks : List (Place K)) (vs : List V) (cells n parts : ℕ) : Type 0 where
  pub few : n ≤ cells
  pub keys_fit : cells ≤ length ks
  pub values_fit : cells ≤ length vs
  pub bound : cells ≤ 65536
  pub rising : Rising (before (place_order cmp)) (live ks vs n)
  pub inside : (p : Place K) → parts ≤ p.partition → length (run (before (place_order cmp)) (live ks vs n) p) ≡ 0

-- the place at i, if it is in partition q
abbrev pub place_at : {K : Type 0} → ℕ → ℕ → List (Place K) → Option (Place K)
place_at q i ps = first_that (in_part q) (take 1 (drop i ps))
