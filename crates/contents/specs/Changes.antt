-- What a change does to the runs; the order of the places then fixes all entries. Assumes nothing.
use Rattle.std.specs.Prelude.{◌≡◌, ℕ, ◌<◌, ◌≤◌, Bool, List, [], length, ◌≢◌, slice_set}
use Rattle.std.specs.List.{insert}
use Rattle.contents.specs.Entries.{Entry, run}

-- fs is es with v put in at i of the run at p; es is fs with it taken out
pub record Gains {P V : Type 0} (lt : P → P → Bool) (es fs : List (Entry P V)) (p : P) (i : ℕ) (v : V) : Type 0 where
  pub within : i ≤ length (run lt es p)
  pub here : run lt fs p ≡ insert (run lt es p) i v
  pub there : (q : P) → (q ≢ p) → run lt fs q ≡ run lt es q

-- fs is es with v for the value at i of the run at p
pub record Sets {P V : Type 0} (lt : P → P → Bool) (es fs : List (Entry P V)) (p : P) (i : ℕ) (v : V) : Type 0 where
  pub within : i < length (run lt es p)
  pub here : run lt fs p ≡ slice_set (run lt es p) i v
  pub there : (q : P) → (q ≢ p) → run lt fs q ≡ run lt es q

-- fs is es without the run at p
pub record Clears {P V : Type 0} (lt : P → P → Bool) (es fs : List (Entry P V)) (p : P) : Type 0 where
  pub here : run lt fs p ≡ []
  pub there : (q : P) → (q ≢ p) → run lt fs q ≡ run lt es q
