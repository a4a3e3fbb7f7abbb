-- Where the calls at a partition go, and what is known there. Assumes nothing.
use Rattle.std.specs.Prelude.{◌≡◌, ℕ, ◌<◌, Bool, true, false}
use Rattle.std.specs.declared.cmp.Ordering.{Ordering}
use Rattle.store.specs.Meaning.{Meaning, values_in}
use Rattle.joint.specs.Piled.{Apiece, Known}
use Rattle.pile.specs.declared.Home.{Home}
use Rattle.pile.specs.declared.Home.TheVariants.{Void, Window, Side}

-- what is known of the windows m and the side n of a live pile
pub record Lives {K V : Type 0} (cmp : K → K → Ordering) (live : Bool) (m n : Meaning K V) : Type 0 where
  pub is_live : live ≡ true
  pub known : Known cmp m n
  pub apiece : Apiece m n

-- what each answer means for partition q
abbrev pub At : {K V : Type 0} → (K → K → Ordering) → Bool → Meaning K V → Meaning K V → ℕ → Home → Type 0
At cmp live m n q Void = live ≡ false
At cmp live m n q Window = Lives cmp live m n × (values_in n q ≡ 0)
At cmp live m n q Side = Lives cmp live m n × (0 < values_in n q)
