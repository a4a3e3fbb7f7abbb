-- What a store means, and what each call does to it. Assumes nothing.
use Rattle.std.specs.Prelude.{◌≡◌, ℕ, ◌+◌, ◌^◌, ◌<◌, ◌≤◌, Bool, ◌&&◌, List, [], length, Ok, Err, Option, Result, ◌==◌}
use Rattle.std.specs.declared.cmp.Ordering.{Ordering}
use Rattle.keys.specs.Order.{before}
use Rattle.keys.specs.Orders.{place_order}
use Rattle.keys.specs.declared.place.Place.{Place}
use Rattle.contents.specs.Entries.{Entry, places, Rising, run, items, amount, first_that, last_that}
use Rattle.contents.specs.Changes.{Gains, Sets, Clears}
use Rattle.store.specs.declared.refusal.Refusal.{Refusal}
use Rattle.store.specs.declared.refusal.Refusal.TheVariants.{Unsound, NoSpace, FewSlots, PastEnd}

pub record Meaning (K V : Type 0) : Type 0 where
  pub contents : List (Entry (Place K) V)
  pub partitions : ℕ
  pub space : ℕ → ℕ  -- of each partition
  pub assured : ℕ

-- the test that a place is in partition q
abbrev pub in_part : {K : Type 0} → ℕ → Place K → Bool
in_part q p = p.partition == q

-- how many values partition q holds
abbrev pub values_in : {K V : Type 0} → Meaning K V → ℕ → ℕ
values_in m q = amount (in_part q) m.contents

module _ {K V : Type 0} (cmp : K → K → Ordering) where
  -- the run at a place
  abbrev pub run_at : Meaning K V → Place K → List V
  run_at m p = run (before (place_order cmp)) m.contents p

  -- what holds of every store between calls
  pub record Sound (m : Meaning K V) : Type 0 where
    pub rising : Rising (before (place_order cmp)) m.contents
    pub inside : (p : Place K) → m.partitions ≤ p.partition → run_at m p ≡ []  -- a partition that does not exist has no values,
    pub outside : (q : ℕ) → m.partitions ≤ q → m.space q ≡ 0  -- and no space
    pub kept : (q : ℕ) → q < m.partitions → m.assured ≤ m.space q + items m.contents
    pub space_fits : (q : ℕ) → m.space q < 2 ^ 64
    pub assured_fits : m.assured < 2 ^ 64

  -- ---- what a call that is accepted does

  -- v is put in at i of the run at p
  pub record PutDone (m n : Meaning K V) (p : Place K) (i : ℕ) (v : V) : Type 0 where
    pub had_space : 0 < m.space p.partition
    pub gains : Gains (before (place_order cmp)) m.contents n.contents p i v
    pub falls : m.space p.partition ≤ n.space p.partition + 1
    pub same_partitions : n.partitions ≡ m.partitions
    pub same_assured : n.assured ≡ m.assured

  -- v is taken out at i of the run at p
  pub record TakeDone (m n : Meaning K V) (p : Place K) (i : ℕ) (v : V) : Type 0 where
    pub gains : Gains (before (place_order cmp)) n.contents m.contents p i v
    pub rises : m.space p.partition + 1 ≤ n.space p.partition
    pub same_partitions : n.partitions ≡ m.partitions
    pub same_assured : n.assured ≡ m.assured

  -- v stands for the value at i of the run at p
  pub record SetDone (m n : Meaning K V) (p : Place K) (i : ℕ) (v : V) : Type 0 where
    pub sets : Sets (before (place_order cmp)) m.contents n.contents p i v
    pub same_space : (q : ℕ) → n.space q ≡ m.space q
    pub same_partitions : n.partitions ≡ m.partitions
    pub same_assured : n.assured ≡ m.assured

  -- the run at p is removed, as by taking each of its values; where there is none, nothing changes
  pub record Removed (m n : Meaning K V) (p : Place K) : Type 0 where
    pub clears : Clears (before (place_order cmp)) m.contents n.contents p
    pub rises : m.space p.partition + length (run_at m p) ≤ n.space p.partition
    pub same_partitions : n.partitions ≡ m.partitions
    pub same_assured : n.assured ≡ m.assured
    pub idle : run_at m p ≡ [] → n ≡ m

  -- ---- what each refusal means

  -- of a put: no space comes first
  abbrev pub WhyPut : Meaning K V → Place K → ℕ → Refusal → Type 0
  WhyPut m p i Unsound = ⊥
  WhyPut m p i NoSpace = m.space p.partition ≡ 0
  WhyPut m p i FewSlots = ⊥
  WhyPut m p i PastEnd = (0 < m.space p.partition) × (length (run_at m p) < i)

  -- of a take, and of a set
  abbrev pub WhyTake : Meaning K V → Place K → ℕ → Refusal → Type 0
  WhyTake m p i Unsound = ⊥
  WhyTake m p i NoSpace = ⊥
  WhyTake m p i FewSlots = ⊥
  WhyTake m p i PastEnd = length (run_at m p) ≤ i

  -- ---- the calls, by the cases of their answers; a refused call leaves the store as it was

  abbrev pub Put : Meaning K V → Meaning K V → Place K → ℕ → V → Result Unit Refusal → Type 0
  Put m n p i v (Ok _) = PutDone m n p i v
  Put m n p i v (Err e) = (n ≡ m) × WhyPut m p i e

  abbrev pub Take : Meaning K V → Meaning K V → Place K → ℕ → Result V Refusal → Type 0
  Take m n p i (Ok v) = TakeDone m n p i v
  Take m n p i (Err e) = (n ≡ m) × WhyTake m p i e

  abbrev pub Set : Meaning K V → Meaning K V → Place K → ℕ → V → Result Unit Refusal → Type 0
  Set m n p i v (Ok _) = SetDone m n p i v
  Set m n p i v (Err e) = (n ≡ m) × WhyTake m p i e

  -- ---- the places of one partition

  abbrev pub first_in : Meaning K V → ℕ → Option (Place K)
  first_in m q = first_that (in_part q) (places m.contents)

  abbrev pub last_in : Meaning K V → ℕ → Option (Place K)
  last_in m q = last_that (in_part q) (places m.contents)

  abbrev pub next_in : Meaning K V → Place K → Option (Place K)
  next_in m p = first_that (λ x. in_part p.partition x && before (place_order cmp) p x) (places m.contents)

  abbrev pub previous_in : Meaning K V → Place K → Option (Place K)
  previous_in m p = last_that (λ x. in_part p.partition x && before (place_order cmp) x p) (places m.contents)

-- what a windowed store promises besides: each existing partition's space and values make its assured number
abbrev pub Windows : {K V : Type 0} → Meaning K V → Type 0
Windows m = (q : ℕ) → q < m.partitions → m.space q + values_in m q ≡ m.assured

-- no partitions, and nothing held
abbrev pub void : {K V : Type 0} → Meaning K V
void = record { contents = []; partitions = 0; space = λ q. 0; assured = 0 }
