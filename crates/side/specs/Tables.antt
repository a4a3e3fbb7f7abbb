-- A table as a value: what it means, and that it is sound. Assumes nothing.
use Rattle.std.specs.Prelude.{◌≡◌, ℕ, ◌+◌, ◌-◌, ◌<◌, ◌≤◌, length, Ok, Err, Result}
use Rattle.std.specs.declared.cmp.Ord as Ord
use Rattle.std.specs.declared.cmp.PartialEq as PartialEq
use Rattle.std.specs.declared.cmp.PartialOrd as PartialOrd
use Rattle.std.specs.declared.cmp.Ordering.{Ordering}
use Rattle.keys.specs.Order.{before}
use Rattle.keys.specs.Orders.{place_order}
use Rattle.keys.specs.declared.place.Place.{Place}
use Rattle.contents.specs.Sorted.{below, upto}
use Rattle.contents.specs.Entries.{places, run}
use Rattle.store.specs.declared.refusal.Refusal.{Refusal}
use Rattle.store.specs.Meaning.{Meaning, Sound, WhyPut, WhyTake, run_at}
use Rattle.side.specs.Table.{side_meaning}
use Rattle.side.specs.Known.{sound}
use Rattle.side.specs.declared.SideTable.{SideTable}

module _ {K V : Type 0} {o : Ord.Ghosts K} {e : PartialEq.Ghosts K} {q : PartialOrd.Ghosts K} where
  abbrev pub table_meaning : SideTable K V o e q → Meaning K V
  table_meaning t = side_meaning t.keys.now t.values.now t.cells t.len t.partitions

  pub table_sound : (t : SideTable K V o e q) → Sound o.cmp (table_meaning t)
  table_sound t = sound t.keys.now t.values.now t.cells t.len t.partitions t.sorts

  -- the run at p begins at s and ends at z
  pub record Ranges (cmp : K → K → Ordering) (t : SideTable K V o e q) (p : Place K) (s z : ℕ) : Type 0 where
    pub start : s ≡ below (before (place_order cmp)) (places (table_meaning t).contents) p
    pub end : z ≡ upto (before (place_order cmp)) (places (table_meaning t).contents) p
    pub ordered : s ≤ z
    pub within : z ≤ t.len
    pub count : length (run (before (place_order cmp)) (table_meaning t).contents p) ≡ z - s

  module _ (cmp : K → K → Ordering) (t : SideTable K V o e q) (p : Place K) (i : ℕ) where
    -- a value put at i of the run at p goes to the cell at
    pub record TakesPut (at : ℕ) : Type 0 where
      pub place : at ≡ below (before (place_order cmp)) (places (table_meaning t).contents) p + i
      pub within : i ≤ length (run_at cmp (table_meaning t) p)
      pub known : p.partition < t.partitions
      pub room : t.len < t.cells
      pub reach : at ≤ t.len

    -- the value at i of the run at p is in the cell at
    pub record Holds (at : ℕ) : Type 0 where
      pub place : at ≡ below (before (place_order cmp)) (places (table_meaning t).contents) p + i
      pub within : i < length (run_at cmp (table_meaning t) p)
      pub reach : at < t.len

    -- that cell, or why there is none
    abbrev pub PutSlot : Result ℕ Refusal → Type 0
    PutSlot (Ok at) = TakesPut at
    PutSlot (Err x) = WhyPut cmp (table_meaning t) p i x

    abbrev pub HeldSlot : Result ℕ Refusal → Type 0
    HeldSlot (Ok at) = Holds at
    HeldSlot (Err x) = WhyTake cmp (table_meaning t) p i x
