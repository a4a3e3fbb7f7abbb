-- What an order of keys is. Assumes nothing.
use Rattle.std.specs.Prelude.{◌≡◌, Bool, true, false}
use Rattle.std.specs.declared.cmp.Ordering.TheVariants.{Less, Equal}
use Rattle.std.specs.declared.cmp.Ordering.{Ordering}
use Rattle.std.specs.Ordering.{ordering_reverse, is_lt}

-- The comparison is a function, so two keys compare in just one way.
pub record Lawful {K : Type 0} (cmp : K → K → Ordering) : Type 0 where
  pub turned : (x y : K) → cmp x y ≡ ordering_reverse (cmp y x)  -- exchanging the keys reverses the answer
  pub same : (x y : K) → cmp x y ≡ Equal → x ≡ y  -- equal means the same key
  pub carries : (x y z : K) → cmp x y ≡ Less → cmp y z ≡ Less → cmp x z ≡ Less  -- less carries over

-- the test that x comes before y
abbrev pub before : {K : Type 0} → (K → K → Ordering) → K → K → Bool
before cmp x y = is_lt (cmp x y)

-- The same order by its test alone, as sorted arrays use it: neither before the other makes them one key.
pub record Total {K : Type 0} (lt : K → K → Bool) : Type 0 where
  pub irrefl : (x : K) → lt x x ≡ false
  pub trans : (x y z : K) → lt x y ≡ true → lt y z ≡ true → lt x z ≡ true
  pub total : (x y : K) → lt x y ≡ false → lt y x ≡ false → x ≡ y
