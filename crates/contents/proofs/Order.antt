-- What follows from a total order, by its test. Assumes nothing.
use Rattle.std.proofs.Common.{◌≡◌, Bool, true, false, ap, ◌∙◌, ⊎_elim}
use Rattle.std.proofs.lemmas.Bool.{cases_Bool, both_ways}
use Rattle.keys.specs.Order.{Total}

module _ {K : Type 0} {lt : K → K → Bool} (o : Total lt) where
  -- x is not after y, and y is before z
  pub chain : (x y z : K) → lt y x ≡ false → lt y z ≡ true → lt x z ≡ true
  chain x y z nyx yz =
      ⊎_elim (λ xy. o.trans x y z xy yz) (λ nxy. ap (λ u. lt u z) (o.total x y nxy nyx) ∙ yz) (cases_Bool (lt x y))

  -- x is before y, and z is not before y
  pub chain_on : (x y z : K) → lt x y ≡ true → lt z y ≡ false → lt x z ≡ true
  chain_on x y z xy nzy =
      ⊎_elim (λ yz. o.trans x y z xy yz) (λ nyz. ap (lt x) (o.total z y nzy nyz) ∙ xy) (cases_Bool (lt y z))

  pub chain_not : (x y z : K) → lt x y ≡ false → lt y z ≡ false → lt x z ≡ false
  chain_not x y z nxy nyz =
      ⊎_elim (λ xz. absurd (both_ways (lt y z) nyz (chain y x z nxy xz))) (λ e. e) (cases_Bool (lt x z))

  -- a key that is before is not after
  pub before-not_after : (x y : K) → lt x y ≡ true → lt y x ≡ false
  before-not_after x y t =
      ⊎_elim (λ u. absurd (both_ways (lt x x) (o.irrefl x) (o.trans x y x t u))) (λ e. e) (cases_Bool (lt y x))
