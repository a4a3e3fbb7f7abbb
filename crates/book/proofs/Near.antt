-- The least and the greatest place of a store, by those of its partitions. Assumes nothing.
use Rattle.std.proofs.Common.{◌≡◌, ℕ, ◌+◌, ◌<◌, ◌≤◌, Bool, true, false, cond, ◌&&◌, eqb, leb, List, [], length, Some, None, Option, Ordering, Less, Equal, Greater, sym, refl, ap, ◌∙◌, subst, ⊎_elim, zero-le, arith}
use Rattle.std.specs.Ordering.{is_lt, ordering_then}
use Rattle.std.proofs.lemmas.Bool.{cases_order, cases_lt, both_ways, lt-ltb, le-ltb, le-leb, leb-true, eq-eqb, ne_eqb, eqb-true, and_parts, and_from}
use Rattle.keys.specs.Order.{Lawful, Total, before}
use Rattle.keys.specs.Orders.{place_order}
use Rattle.keys.specs.declared.place.Place.{Place}
use Rattle.keys.specs.Laws.{places_lawful}
use Rattle.keys.proofs.Tests.{total}
use Rattle.contents.specs.Entries.{Entry, places, run, first_that, last_that}
use Rattle.contents.proofs.Near.{Least, Greatest, least, least-is, greatest, greatest-is}
use Rattle.store.specs.Meaning.{Meaning, Sound, run_at, in_part, first_in, last_in, next_in}

-- ---- places of different partitions

module _ {K : Type 0} (cmp : K → K → Ordering) where
  lower : (x y : Place K) → x.partition < y.partition → before (place_order cmp) x y ≡ true
  lower x y h = ap (λ b. is_lt (ordering_then (cond b Less (cond (eqb x.partition y.partition) Equal Greater)) (cmp x.key y.key))) (lt-ltb x.partition y.partition h)

  higher : (x y : Place K) → y.partition < x.partition → before (place_order cmp) x y ≡ false
  higher x y h =
      ap (λ b. is_lt (ordering_then (cond b Less (cond (eqb x.partition y.partition) Equal Greater)) (cmp x.key y.key))) (le-ltb x.partition y.partition (omega arith))
      ∙ ap (λ b. is_lt (ordering_then (cond b Equal Greater) (cmp x.key y.key))) (ne_eqb x.partition y.partition (λ e. omega arith))

  not_lower : (x y : Place K) → before (place_order cmp) x y ≡ true → x.partition ≤ y.partition
  not_lower x y t = ⊎_elim (λ h. absurd (both_ways (before (place_order cmp) x y) (higher x y h) t)) (λ h. h) (cases_lt y.partition x.partition)

-- every partition is one from 0 on
pub first-all : {K V : Type 0} (m : Meaning K V) (r : Option (Place K)) → r ≡ first_that (λ p. leb 0 p.partition) (places m.contents) → r ≡ first_that (λ _. true) (places m.contents)
first-all m r e = e ∙ ap (λ t. first_that t (places m.contents)) (λ i p. le-leb 0 p.partition zero-le i)

-- no place of the partitions from a on and before b is held
abbrev pub Bare : {K V : Type 0} → (K → K → Ordering) → Meaning K V → ℕ → ℕ → Type 0
Bare {K} cmp m a b = (p : Place K) → a ≤ p.partition → p.partition < b → run_at cmp m p ≡ []

module _ {K V : Type 0} {cmp : K → K → Ordering} (l : Lawful cmp) (m : Meaning K V) (sound : Sound cmp m) where
  abbrev lt : Place K → Place K → Bool
  lt = before (place_order cmp)

  abbrev es : List (Entry (Place K) V)
  es = m.contents

  o : Total lt
  o = total (places_lawful cmp l)

  held-not : (p : Place K) → run lt es p ≡ [] → 0 < length (run lt es p) → ⊥
  held-not p e h = let n = ap length e in omega arith

  first_of : (q : ℕ) (r : Option (Place K)) → r ≡ first_in cmp m q → Least lt (in_part q) es r
  first_of q r e = subst (Least lt (in_part q) es) (sym e) (least o (in_part q) es sound.rising)

  last_of : (q : ℕ) (r : Option (Place K)) → r ≡ last_in cmp m q → Greatest lt (in_part q) es r
  last_of q r e = subst (Greatest lt (in_part q) es) (sym e) (greatest o (in_part q) es sound.rising)

  pub bare-none : (a : ℕ) → Bare cmp m a a
  bare-none a p x y = absurd (omega arith)

  bare-one : (q : ℕ) → ((p : Place K) → in_part q p ≡ true → run lt es p ≡ []) → Bare cmp m q (q + 1)
  bare-one q f p x y = f p (eq-eqb p.partition q (omega arith))

  bare-join : (a b c : ℕ) → Bare cmp m a b → Bare cmp m b c → Bare cmp m a c
  bare-join a b c f g p x y = ⊎_elim (λ h. f p x h) (λ h. g p h y) (cases_lt p.partition b)

  pub bare-up : (a q : ℕ) → Bare cmp m a q → None ≡ first_in cmp m q → Bare cmp m a (q + 1)
  bare-up a q f e = bare-join a q (q + 1) f (bare-one q (first_of q None e))

  pub bare-down : (q n : ℕ) → Bare cmp m (q + 1) n → None ≡ last_in cmp m q → Bare cmp m q n
  bare-down q n f e = bare-join q (q + 1) n (bare-one q (last_of q None e)) f

  -- ---- the first of the partitions from a number on

  abbrev pub since : ℕ → Place K → Bool
  since from p = leb from p.partition

  pub first_some : (from q : ℕ) (p : Place K) → from ≤ q → Bare cmp m from q → Some p ≡ first_in cmp m q → Some p ≡ first_that (since from) (places es)
  first_some from q p le f e =
      let h = first_of q (Some p) e in
      let at : p.partition ≡ q = eqb-true p.partition q h.0 in
      least-is o (since from) es sound.rising (Some p) (
        le-leb from p.partition (omega arith),
        h.1,
        λ x tx lx.
            let a = leb-true from x.partition tx in
            ⊎_elim
            (λ c. h.2 x (eq-eqb x.partition q c) lx)
            (⊎_elim (λ c. absurd (held-not x (f x a c) lx)) (λ c. higher cmp x p (omega arith)))
            (cases_order x.partition q),
      )

  pub first-none : (from : ℕ) → Bare cmp m from m.partitions → None ≡ first_that (since from) (places es)
  first-none from f =
      least-is o (since from) es sound.rising None
      (λ x tx. ⊎_elim (λ h. f x (leb-true from x.partition tx) h) (λ h. sound.inside x h) (cases_lt x.partition m.partitions))

  -- ---- the last

  pub last_some : (q : ℕ) (p : Place K) → Bare cmp m (q + 1) m.partitions → Some p ≡ last_in cmp m q → Some p ≡ last_that (λ _. true) (places es)
  last_some q p f e =
      let h = last_of q (Some p) e in
      let at : p.partition ≡ q = eqb-true p.partition q h.0 in
      greatest-is o (λ _. true) es sound.rising (Some p) (
        refl,
        h.1,
        λ x tx lx.
            ⊎_elim
            (λ c. h.2 x (eq-eqb x.partition q c) lx)
            (⊎_elim
            (λ c. higher cmp p x (omega arith))
            (λ c. absurd (held-not x (⊎_elim (λ b. f x (omega arith) b) (λ b. sound.inside x b) (cases_lt x.partition m.partitions)) lx)))
            (cases_order x.partition q),
      )

  pub last_none : Bare cmp m 0 m.partitions → None ≡ last_that (λ _. true) (places es)
  last_none f =
      greatest-is o (λ _. true) es sound.rising None
      (λ x tx. ⊎_elim (λ h. f x zero-le h) (λ h. sound.inside x h) (cases_lt x.partition m.partitions))

  -- ---- the next after a place

  module _ (p : Place K) where
    abbrev beside : Place K → Bool
    beside x = in_part p.partition x && lt p x

    next_of : (r : Option (Place K)) → r ≡ next_in cmp m p → Least lt beside es r
    next_of r e = subst (Least lt beside es) (sym e) (least o beside es sound.rising)

    pub next-some : (y : Place K) → Some y ≡ next_in cmp m p → Some y ≡ first_that (lt p) (places es)
    next-some y e =
        let h = next_of (Some y) e in
        let b = and_parts (in_part p.partition y) (lt p y) h.0 in
        let at : y.partition ≡ p.partition = eqb-true y.partition p.partition b.0 in
        least-is o (lt p) es sound.rising (Some y) (
          b.1,
          h.1,
          λ x tx lx.
              let a = not_lower cmp p x tx in
              ⊎_elim
              (λ c. h.2 x (and_from (in_part p.partition x) (lt p x) (eq-eqb x.partition p.partition c) tx) lx)
              (⊎_elim (λ c. absurd (omega arith)) (λ c. higher cmp x y (omega arith)))
              (cases_order x.partition p.partition),
        )

    -- none in its own partition
    module _ (none : None ≡ next_in cmp m p) where
      not_beside : (x : Place K) → lt p x ≡ true → x.partition ≡ p.partition → run lt es x ≡ []
      not_beside x t e = next_of None none x (and_from (in_part p.partition x) (lt p x) (eq-eqb x.partition p.partition e) t)

      pub next-none : m.partitions ≤ p.partition → None ≡ first_that (lt p) (places es)
      next-none le = least-is o (lt p) es sound.rising None (λ x tx. let a = not_lower cmp p x tx in sound.inside x (omega arith))

      further : (r : Option (Place K)) → Least lt (since (p.partition + 1)) es r → Least lt (lt p) es r
      further None h = λ x tx.
          let a = not_lower cmp p x tx in
          ⊎_elim
          (λ c. not_beside x tx c)
          (⊎_elim (λ c. absurd (omega arith)) (λ c. h x (le-leb (p.partition + 1) x.partition (omega arith))))
          (cases_order x.partition p.partition)
      further (Some y) h =
          let b = leb-true (p.partition + 1) y.partition h.0 in (
            lower cmp p y (omega arith),
            h.1,
            λ x tx lx.
                let a = not_lower cmp p x tx in
                ⊎_elim
                (λ c. absurd (held-not x (not_beside x tx c) lx))
                (⊎_elim (λ c. absurd (omega arith)) (λ c. h.2 x (le-leb (p.partition + 1) x.partition (omega arith)) lx))
                (cases_order x.partition p.partition),
          )

      pub next-further : (r : Option (Place K)) → r ≡ first_that (since (p.partition + 1)) (places es) → r ≡ first_that (lt p) (places es)
      next-further r e =
          least-is o (lt p) es sound.rising r
          (further r (subst (Least lt (since (p.partition + 1)) es) (sym e) (least o (since (p.partition + 1)) es sound.rising)))
