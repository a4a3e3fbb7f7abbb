-- What windows of cells mean: keys and values alongside, w cells for each partition, of which the first few are in use. Assumes nothing.
use Rattle.std.specs.Prelude.{◌≡◌, ℕ, zero, suc, ◌+◌, ◌-◌, ◌*◌, ◌^◌, ◌<◌, ◌≤◌, Bool, cond, ◌&&◌, List, [], ◌++◌, map, length, take, drop, None, Ok, Err, Option, Result, ◌==◌, nat_le, nat_lt, slice_index}
use Rattle.std.specs.declared.cmp.Ordering.{Ordering}
use Rattle.std.specs.List.{slice_get}
use Rattle.keys.specs.Order.{before}
use Rattle.keys.specs.declared.place.Place.{Place}
use Rattle.contents.specs.Sorted.{Sorted, below, upto}
use Rattle.contents.specs.Entries.{Entry, entry, entries}
use Rattle.store.specs.declared.refusal.Refusal.{Refusal}
use Rattle.store.specs.declared.refusal.Refusal.TheVariants.{Unsound, NoSpace, FewSlots, PastEnd}
use Rattle.store.specs.Meaning.{Meaning, void}

-- a key in partition q
abbrev pub spot : {K : Type 0} → ℕ → K → Place K
spot q k = record { partition = q; key = k }

-- the entries of a window, in partition q
abbrev pub within : {K V : Type 0} → ℕ → List (Entry K V) → List (Entry (Place K) V)
within q es = map (λ e. entry (spot q e.place) e.value) es

-- n windows one after the other, from partition q on
unfoldable pub stacked : {K V : Type 0} → (ℕ → List (Entry K V)) → ℕ → ℕ → List (Entry (Place K) V)
stacked f q zero = []
stacked f q (suc n) = within q (f q) ++ stacked f (suc q) n

-- the cells in use of partition q, by the length that stands for it; none where there is no such partition
abbrev pub used : {X : Type 0} → List X → List ℕ → ℕ → ℕ → ℕ → List X
used xs ns w n q = cond (nat_lt q n) (take (slice_index ns q) (drop (q * w) xs)) []

-- all cells of partition q
abbrev pub cells_of : {X : Type 0} → List X → ℕ → ℕ → List X
cells_of xs w q = take w (drop (q * w) xs)

-- xs with ys for the cells of partition q
abbrev pub with_window : {X : Type 0} → List X → ℕ → ℕ → List X → List X
with_window xs w q ys = take (q * w) xs ++ (ys ++ drop w (drop (q * w) xs))

-- the entries of partition q
abbrev pub window : {K V : Type 0} → List K → List V → List ℕ → ℕ → ℕ → ℕ → List (Entry K V)
window ks vs ns w n q = entries (used ks ns w n q) (used vs ns w n q)

-- the cells of a partition that are not in use
abbrev pub spare : List ℕ → ℕ → ℕ → ℕ → ℕ
spare ns w n q = cond (nat_lt q n) (w - slice_index ns q) 0

-- n windows of w cells
abbrev pub cells_meaning : {K V : Type 0} → List K → List V → List ℕ → ℕ → ℕ → Meaning K V
cells_meaning ks vs ns w n = record {
  contents = stacked (window ks vs ns w n) 0 n;
  partitions = n;
  space = spare ns w n;
  assured = w;
}

-- n windows with nothing in them
abbrev pub bare : {K V : Type 0} → ℕ → ℕ → Meaning K V
bare w n = record { contents = []; partitions = n; space = λ q. cond (nat_lt q n) w 0; assured = w }

-- over c key cells, d value cells and n lengths: each window has 1 to 512 cells, and all cells are used up
abbrev pub fitting : ℕ → ℕ → ℕ → ℕ → Bool
fitting c d n w = (nat_le 1 w && nat_le w 512) && (c == n * w && d == n * w)

abbrev pub opened : {K V : Type 0} → ℕ → ℕ → ℕ → ℕ → Meaning K V
opened c d n w = cond (fitting c d n w) (bare w n) void

-- there are n lengths, and none is past its window
pub record Counts (ns : List ℕ) (w n : ℕ) : Type 0 where
  pub enough : n ≤ length ns
  pub full : (q : ℕ) → q < n → slice_index ns q ≤ w

-- the key cells hold n windows of w, and those in use of each are sorted
pub record Keyed {K : Type 0} (cmp : K → K → Ordering) (ks : List K) (ns : List ℕ) (w n : ℕ) : Type 0 where
  pub lengths : Counts ns w n
  pub fit : n * w ≤ length ks
  pub sorted : (q : ℕ) → Sorted (before cmp) (used ks ns w n q)

-- what holds of the cells between calls
pub record Sorts {K V : Type 0} (cmp : K → K → Ordering) (ks : List K) (vs : List V) (ns : List ℕ) (w n : ℕ) : Type 0 where
  pub keys : Keyed cmp ks ns w n
  pub values_fit : n * w ≤ length vs
  pub narrow : w ≤ 512
  pub few : n < 2 ^ 64

-- what stands before i, if there is something
abbrev pub ahead : {X : Type 0} → List X → ℕ → Option X
ahead xs i = cond (i == 0) None (slice_get xs (i - 1))

-- the run at p is the cells from s to e of those in use of its partition
pub record Ranged {K : Type 0} (cmp : K → K → Ordering) (ks : List K) (ns : List ℕ) (w n : ℕ) (p : Place K) (s e : ℕ) : Type 0 where
  pub start : s ≡ below (before cmp) (used ks ns w n p.partition) p.key
  pub end : e ≡ upto (before cmp) (used ks ns w n p.partition) p.key
  pub ordered : s ≤ e
  pub within : e ≤ length (used ks ns w n p.partition)

module _ {K : Type 0} (cmp : K → K → Ordering) (ks : List K) (ns : List ℕ) (w n : ℕ) (p : Place K) (i : ℕ) where
  -- how many values the run at p has
  abbrev pub run_count : ℕ
  run_count = upto (before cmp) (used ks ns w n p.partition) p.key - below (before cmp) (used ks ns w n p.partition) p.key

  -- len cells of the partition are in use, and i of the run at p is the cell at
  pub record Slot (len at : ℕ) : Type 0 where
    pub inside : p.partition < n
    pub counts : len ≡ slice_index ns p.partition
    pub full : len ≤ w
    pub place : at ≡ below (before cmp) (used ks ns w n p.partition) p.key + i
    pub within : i ≤ run_count
    pub reach : at ≤ len

  -- where a put goes
  abbrev pub PutSlot : Result (ℕ × ℕ) Refusal → Type 0
  PutSlot (Ok r) = Slot r.0 r.1 × (r.0 < w)
  PutSlot (Err Unsound) = ⊥
  PutSlot (Err NoSpace) = spare ns w n p.partition ≡ 0
  PutSlot (Err FewSlots) = ⊥
  PutSlot (Err PastEnd) = (0 < spare ns w n p.partition) × (run_count < i)

  -- where a value is held
  abbrev pub HeldSlot : Result (ℕ × ℕ) Refusal → Type 0
  HeldSlot (Ok r) = Slot r.0 r.1 × (i < run_count) × (r.1 < r.0)
  HeldSlot (Err Unsound) = ⊥
  HeldSlot (Err NoSpace) = ⊥
  HeldSlot (Err FewSlots) = ⊥
  HeldSlot (Err PastEnd) = run_count ≤ i
