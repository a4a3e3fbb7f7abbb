-- Where the keys that pass a test end, and the part of the values that is a run. Assumes nothing.
use Rattle.std.proofs.Common.{◌≡◌, ℕ, zero, suc, ◌+◌, ◌-◌, ◌<◌, ◌≤◌, Bool, true, false, cond, not, List, [], ◌∷◌, length, get_or, take, drop, sym, refl, ap, ◌∙◌, subst, ⊎_elim, zero-le, arith}
use Rattle.std.specs.List.{between}
use Rattle.std.proofs.lemmas.List.{length-take, length-drop, nil_from_length}
use Rattle.std.proofs.lemmas.Bool.{cases_Bool, not-true, not-false}
use Rattle.keys.specs.Order.{Total}
use Rattle.contents.specs.Sorted.{Sorted, count, below, upto}
use Rattle.contents.specs.Entries.{entries, run}
use Rattle.contents.proofs.Order.{chain_on, chain_not, before-not_after}

-- n parts the keys that pass from the others
pub record Parts {K : Type 0} (t : K → Bool) (ks : List K) (n : ℕ) : Type 0 where
  pub within : n ≤ length ks
  pub before : (k : ℕ) (d : K) → k < n → t (get_or ks k d) ≡ true
  pub after : (k : ℕ) (d : K) → n ≤ k → k < length ks → t (get_or ks k d) ≡ false

module _ {K : Type 0} (t : K → Bool) (x : K) (ks : List K) where
  pub tail_zero : Parts t (x ∷ ks) 0 → Parts t ks 0
  tail_zero h = record {
    within = omega arith;
    before = λ k d l. absurd (omega arith);
    after = λ k d l m. h.after (suc k) d (omega arith) (omega arith);
  }

  pub tail_suc : (n : ℕ) → Parts t (x ∷ ks) (suc n) → Parts t ks n
  tail_suc n h = record {
    within = (let w = h.within in omega arith);
    before = λ k d l. h.before (suc k) d (omega arith);
    after = λ k d l m. h.after (suc k) d (omega arith) (omega arith);
  }

  more_hit : (n : ℕ) → t x ≡ true → Parts t ks n → Parts t (x ∷ ks) (suc n)
  more_hit n e h = record {
    within = (let w = h.within in omega arith);
    before = λ k d l. hits k d l;
    after = λ k d l m. misses k d l m;
  }
    where
      hits : (k : ℕ) (d : K) → k < suc n → t (get_or (x ∷ ks) k d) ≡ true
      hits zero d l = e
      hits (suc k) d l = h.before k d (omega arith)

      misses : (k : ℕ) (d : K) → suc n ≤ k → k < length (x ∷ ks) → t (get_or (x ∷ ks) k d) ≡ false
      misses zero d l m = absurd (omega arith)
      misses (suc k) d l m = h.after k d (omega arith) (omega arith)

-- that index is how many pass
pub parted : {K : Type 0} (t : K → Bool) (ks : List K) (n : ℕ) → Parts t ks n → n ≡ count t ks
parted t [] n h = let w = h.within in omega arith
parted t (x ∷ ks) zero h =
    let first : t x ≡ false = h.after 0 x (omega arith) (omega arith) in
    let rest : 0 ≡ count t ks = parted t ks 0 (tail_zero t x ks h) in
    rw first (omega arith)
parted t (x ∷ ks) (suc n) h =
    let first : t x ≡ true = h.before 0 x (omega arith) in
    let rest : n ≡ count t ks = parted t ks n (tail_suc t x ks n h) in
    rw first (omega arith)

-- where no key passes after one that does not, the count parts them
pub parts : {K : Type 0} (t : K → Bool) (ks : List K) → ((i j : ℕ) (d : K) → i ≤ j → j < length ks → t (get_or ks i d) ≡ false → t (get_or ks j d) ≡ false) → Parts t ks (count t ks)
parts t [] f = record { within = omega arith; before = λ k d l. absurd (omega arith); after = λ k d l m. absurd (omega arith) }
parts {K} t (x ∷ ks) f =
    ⊎_elim
    (λ e.
    let ih : Parts t ks (count t ks) = parts t ks (λ i j d a b. f (suc i) (suc j) d (omega arith) (omega arith)) in
    let n : suc (count t ks) ≡ count t (x ∷ ks) = omega arith ∙ sym (ap (λ b. cond b 1 0 + count t ks) e) in
    subst (Parts t (x ∷ ks)) n (more_hit t x ks (count t ks) e ih))
    (λ e.
    let h : Parts t (x ∷ ks) 0 = record { within = omega arith; before = λ k d l. absurd (omega arith); after = λ k d l m. f 0 k d (omega arith) m e } in
    subst (Parts t (x ∷ ks)) (parted t (x ∷ ks) 0 h) h)
    (cases_Bool (t x))

module _ {K : Type 0} {lt : K → K → Bool} (o : Total lt) (ks : List K) (key : K) (up : Sorted lt ks) where
  pub below_parts : Parts (λ x. lt x key) ks (below lt ks key)
  below_parts = parts (λ x. lt x key) ks (λ i j d le l e. chain_not o (get_or ks j d) (get_or ks i d) key (up i j d le l) e)

  pub upto-parts : Parts (λ x. not (lt key x)) ks (upto lt ks key)
  upto-parts = parts (λ x. not (lt key x)) ks (λ i j d le l e. ap not (chain_on o key (get_or ks i d) (get_or ks j d) (not-false (lt key (get_or ks i d)) e) (up i j d le l)))

module _ {K V : Type 0} (lt : K → K → Bool) (key : K) where
  -- the values between the two bounds are the run
  pub run-between : (ks : List K) (vs : List V) (s e : ℕ) → length ks ≡ length vs → s ≤ e → Parts (λ x. lt x key) ks s → Parts (λ x. not (lt key x)) ks e → between s e vs ≡ run lt (entries ks vs) key
  run-between [] vs s e n le lo hi = nil_from_length (between s e vs) (simp (length-take, length-drop) (omega arith))
  run-between (x ∷ ks) [] s e n le lo hi = absurd (omega arith)
  run-between (x ∷ ks) (v ∷ vs) zero zero n le lo hi =
      let a : lt x key ≡ false = lo.after 0 x (omega arith) (omega arith) in
      let b : lt key x ≡ true = not-false (lt key x) (hi.after 0 x (omega arith) (omega arith)) in
      let ih : [] ≡ run lt (entries ks vs) key = run-between ks vs 0 0 (omega arith) (omega arith) (tail_zero (λ y. lt y key) x ks lo) (tail_zero (λ y. not (lt key y)) x ks hi) in
      rw (a, b) ih
  run-between (x ∷ ks) (v ∷ vs) zero (suc e) n le lo hi =
      let a : lt x key ≡ false = lo.after 0 x (omega arith) (omega arith) in
      let b : lt key x ≡ false = not-true (lt key x) (hi.before 0 x (omega arith)) in
      let z : suc e - 0 ≡ suc e = omega arith in
      let z' : e - 0 ≡ e = omega arith in
      let ih : take (e - 0) vs ≡ run lt (entries ks vs) key = run-between ks vs 0 e (omega arith) (omega arith) (tail_zero (λ y. lt y key) x ks lo) (tail_suc (λ y. not (lt key y)) x ks e hi) in
      rw (a, b) (ap (λ m. take m (v ∷ vs)) z ∙ ap (λ m. v ∷ take m vs) (sym z') ∙ ap (λ ws. v ∷ ws) ih)
  run-between (x ∷ ks) (v ∷ vs) (suc s) zero n le lo hi = absurd (omega arith)
  run-between (x ∷ ks) (v ∷ vs) (suc s) (suc e) n le lo hi =
      let a : lt x key ≡ true = lo.before 0 x (omega arith) in
      let z : suc e - suc s ≡ e - s = omega arith in
      let ih : take (e - s) (drop s vs) ≡ run lt (entries ks vs) key = run-between ks vs s e (omega arith) (omega arith) (tail_suc (λ y. lt y key) x ks s lo) (tail_suc (λ y. not (lt key y)) x ks e hi) in
      rw a (ap (λ m. take m (drop s vs)) z ∙ ih)

one : (a b : Bool) → (a ≡ true → b ≡ false) → cond a 1 0 ≤ cond (not b) 1 0
one true b f = rw (f refl) (omega arith)
one false b f = zero-le

pub below-upto : {K : Type 0} {lt : K → K → Bool} → Total lt → (ks : List K) (key : K) → below lt ks key ≤ upto lt ks key
below-upto o [] key = omega arith
below-upto {lt = lt} o (k ∷ ks) key = omega (arith, below-upto o ks key, one (lt k key) (lt key k) (before-not_after o k key))

-- the run, by the two bounds
pub run_is : {K V : Type 0} {lt : K → K → Bool} → Total lt → (ks : List K) (vs : List V) (key : K) → Sorted lt ks → length ks ≡ length vs → between (below lt ks key) (upto lt ks key) vs ≡ run lt (entries ks vs) key
run_is {lt = lt} o ks vs key up n =
    run-between lt key ks vs (below lt ks key) (upto lt ks key) n (below-upto o ks key) (below_parts o ks key up) (upto-parts o ks key up)
