-- Entries: places with a value each, in rising order. Assumes nothing.
-- The places in rising order, each with its run of at least one value, are `held` and `run`.
use Rattle.std.specs.Prelude.{ℕ, Bool, true, false, cond, not, List, [], ◌∷◌, map, reverse, length, Some, None, Option}
use Rattle.std.specs.List.{insert}
use Rattle.contents.specs.Sorted.{Sorted, count, below}

pub record Entry (P V : Type 0) : Type 0 where
  pub place : P
  pub value : V

abbrev pub entry : {P V : Type 0} → P → V → Entry P V
entry p v = record { place = p; value = v }

-- two lists alongside, as far as both go
abbrev pub entries : {P V : Type 0} → List P → List V → List (Entry P V)
entries [] vs = []
entries (p ∷ ps) [] = []
entries (p ∷ ps) (v ∷ vs) = entry p v ∷ entries ps vs

abbrev pub places : {P V : Type 0} → List (Entry P V) → List P
places es = map (λ e. e.place) es

abbrev pub Rising : {P V : Type 0} → (P → P → Bool) → List (Entry P V) → Type 0
Rising lt es = Sorted lt (places es)

-- neither place is before the other
abbrev pub same : {P : Type 0} → (P → P → Bool) → P → P → Bool
same lt x y = cond (lt x y) false (not (lt y x))

-- the run at p: the values of the entries there, in their order
abbrev pub run : {P V : Type 0} → (P → P → Bool) → List (Entry P V) → P → List V
run lt [] p = []
run lt (e ∷ es) p = cond (same lt e.place p) (e.value ∷ run lt es p) (run lt es p)

abbrev pub none : {X : Type 0} → List X → Bool
none [] = true
none (x ∷ xs) = false

-- each place that has a run, once
abbrev pub held : {P V : Type 0} → (P → P → Bool) → List (Entry P V) → List P
held lt [] = []
held lt (e ∷ es) = cond (none (run lt es e.place)) (e.place ∷ held lt es) (held lt es)

abbrev pub keys : {P V : Type 0} → (P → P → Bool) → List (Entry P V) → ℕ
keys lt es = length (held lt es)

-- how many values stand at places that pass a test
abbrev pub amount : {P V : Type 0} → (P → Bool) → List (Entry P V) → ℕ
amount t es = count t (places es)

abbrev pub items : {P V : Type 0} → List (Entry P V) → ℕ
items es = length es

-- the first, and the last, of the places that pass a test
abbrev pub first_that : {P : Type 0} → (P → Bool) → List P → Option P
first_that t [] = None
first_that t (p ∷ ps) = cond (t p) (Some p) (first_that t ps)

abbrev pub last_that : {P : Type 0} → (P → Bool) → List P → Option P
last_that t ps = first_that t (reverse ps)

-- e put in before all entries that are not before it
abbrev pub placed : {P V : Type 0} → (P → P → Bool) → Entry P V → List (Entry P V) → List (Entry P V)
placed lt e es = insert es (below lt (places es) e.place) e

-- the entries of both, in the order of their places
abbrev pub merged : {P V : Type 0} → (P → P → Bool) → List (Entry P V) → List (Entry P V) → List (Entry P V)
merged lt [] fs = fs
merged lt (e ∷ es) fs = placed lt e (merged lt es fs)
