-- The first and the last place of a partition, in a sorted list of places. Assumes nothing.
use Rattle.std.proofs.Common.{◌≡◌, ℕ, ◌+◌, ◌-◌, ◌<◌, ◌≤◌, Bool, true, false, cond, ◌&&◌, ltb, leb, List, length, get_or, take, drop, Some, None, Ordering, Less, Equal, Greater, sym, refl, ap, ◌∙◌, ⊎_elim, true≢false, arith}
use Rattle.std.specs.Cmp.{ranks}
use Rattle.std.specs.Ordering.{ordering_then, is_lt, MatchOrdering, nat_cmp}
use Rattle.std.proofs.lemmas.List.{drop_more, drop_all, take-take, get_or_default}
use Rattle.std.proofs.lemmas.Slice.{between_is}
use Rattle.std.proofs.Math.Bool.{and-true}
use Rattle.std.proofs.lemmas.Bool.{cases_Bool, cases_lt, not-true, not-false, and_right, ltb-true, ltb-false, leb-true, leb-false, le-ltb, lt-leb, eqb-false, ne_eqb}
use Rattle.keys.specs.Order.{Total, before}
use Rattle.keys.specs.Orders.{place_order}
use Rattle.keys.specs.declared.place.Place.{Place}
use Rattle.contents.specs.Sorted.{Sorted, count, below, upto}
use Rattle.contents.specs.Entries.{first_that, last_that}
use Rattle.contents.proofs.Bounds.{Parts, parts, below_parts, upto-parts}
use Rattle.arrays.proofs.Chosen.{some, first-none, first-at, last_none, last-at}
use Rattle.store.specs.Meaning.{in_part}
use Rattle.side.specs.Table.{place_at}

-- ---- what the order says of the partitions

not_after : (a b : ℕ) (r s : Ordering) → MatchOrdering r (a < b) (a ≡ b) (b < a) → is_lt (ordering_then r s) ≡ true → a ≤ b
not_after a b Less s h e = omega arith
not_after a b Equal s h e = omega arith
not_after a b Greater s h e = absurd (true≢false (sym e))

not_below : (a b : ℕ) (r s : Ordering) → MatchOrdering r (a < b) (a ≡ b) (b < a) → is_lt (ordering_then r s) ≡ false → b ≤ a
not_below a b Less s h e = absurd (true≢false e)
not_below a b Equal s h e = omega arith
not_below a b Greater s h e = omega arith

module _ {K : Type 0} (cmp : K → K → Ordering) (x y : Place K) where
  before-le : before (place_order cmp) x y ≡ true → x.partition ≤ y.partition
  before-le = not_after x.partition y.partition (nat_cmp x.partition y.partition) (cmp x.key y.key) (ranks x.partition y.partition)

  not_before_le : before (place_order cmp) x y ≡ false → y.partition ≤ x.partition
  not_before_le = not_below x.partition y.partition (nat_cmp x.partition y.partition) (cmp x.key y.key) (ranks x.partition y.partition)

-- ---- one place looked at

lead_at : {P : Type 0} (t : P → Bool) (ps : List P) (i : ℕ) (d : P) (b : Bool) → i < length ps → t (get_or ps i d) ≡ b → first_that t (take 1 (drop i ps)) ≡ cond b (Some (get_or ps i d)) None
lead_at t ps i d b l e = ap (λ xs. first_that t (take 1 xs)) (drop_more ps i d l) ∙ ap (λ c. cond c (Some (get_or ps i d)) None) e

lead_none : {P : Type 0} (t : P → Bool) (ps : List P) (i : ℕ) → length ps ≤ i → first_that t (take 1 (drop i ps)) ≡ None
lead_none t ps i l = ap (λ xs. first_that t (take 1 xs)) (drop_all i ps l)

-- the place at i of those up to there
pub before-at : {K : Type 0} (q i n : ℕ) (ps : List (Place K)) → i + 1 ≡ n → place_at q i (take n ps) ≡ place_at q i ps
before-at q i n ps e =
    let one : n - i ≡ 1 = omega arith in
    ap (λ xs. first_that (in_part q) (take 1 xs)) (sym (between_is ps i n) ∙ ap (λ k. take k (drop i ps)) one)
    ∙ ap (first_that (in_part q)) (take-take 1 1 (drop i ps) (omega arith))

-- ---- what a sorted list of places says of their partitions

and_one : (a b : Bool) → b ≡ true → (a && b) ≡ a
and_one a b e = ap (λ c. a && c) e ∙ and-true a

module _ {K : Type 0} (cmp : K → K → Ordering) (ps : List (Place K)) (up : Sorted (before (place_order cmp)) ps) where
  rises : (i j : ℕ) (d : Place K) → i ≤ j → j < length ps → (get_or ps i d).partition ≤ (get_or ps j d).partition
  rises i j d le l = not_before_le cmp (get_or ps j d) (get_or ps i d) (up i j d le l)

  -- ---- where a partition starts and ends

  parted : (t : ℕ → Bool) → ((a b : ℕ) → a ≤ b → t a ≡ false → t b ≡ false) → Parts (λ x. t x.partition) ps (count (λ x. t x.partition) ps)
  parted t on = parts (λ x. t x.partition) ps (λ i j d le l e. on (get_or ps i d).partition (get_or ps j d).partition (rises i j d le l) e)

  pub start-parts : (q : ℕ) → Parts (λ x. ltb x.partition q) ps (count (λ x. ltb x.partition q) ps)
  start-parts q = parted (λ a. ltb a q) (λ a b le e. let h = ltb-false a q e in le-ltb b q (omega arith))

  pub end-parts : (q : ℕ) → Parts (λ x. leb x.partition q) ps (count (λ x. leb x.partition q) ps)
  end-parts q = parted (λ a. leb a q) (λ a b le e. let h = leb-false a q e in lt-leb b q (omega arith))

  -- ---- the first that passes, where from n on those that pass are those of partition q

  module _ (t : Place K → Bool) (q n : ℕ)
      (low : (k : ℕ) (d : Place K) → k < n → t (get_or ps k d) ≡ false)
      (same : (k : ℕ) (d : Place K) → n ≤ k → k < length ps → t (get_or ps k d) ≡ in_part q (get_or ps k d))
      (from : (k : ℕ) (d : Place K) → n ≤ k → k < length ps → q ≤ (get_or ps k d).partition) where
    first_found : (d : Place K) → n < length ps → first_that t ps ≡ place_at q n ps
    first_found d l =
        let x : Place K = get_or ps n d in
        ⊎_elim
        (λ e. first-at t ps n d l low (same n d (omega arith) l ∙ e) ∙ sym (lead_at (in_part q) ps n d true l e))
        (λ e.
        let ne = eqb-false x.partition q e in
        first-none t ps
        (λ k d' m. ⊎_elim
        (λ b. low k d' b)
        (λ b.
        let at = ap (λ y. y.partition) (get_or_default ps n d d' l) in
        let f = from n d (omega arith) l in
        let r = rises n k d' b m in
        same k d' b m ∙ ne_eqb (get_or ps k d').partition q (λ z. ne (omega arith)))
        (cases_lt k n))
        ∙ sym (lead_at (in_part q) ps n d false l e))
        (cases_Bool (in_part q x))

    first_past : length ps ≤ n → first_that t ps ≡ place_at q n ps
    first_past l = first-none t ps (λ k d m. low k d (omega arith)) ∙ sym (lead_none (in_part q) ps n l)

    first-is : first_that t ps ≡ place_at q n ps
    first-is = ⊎_elim (λ l. first_found (some ps (omega arith)) l) first_past (cases_lt n (length ps))

  -- ---- the last that passes, where up to n those that pass are those of partition q

  module _ (t : Place K → Bool) (q n : ℕ) (within : n ≤ length ps)
      (high : (k : ℕ) (d : Place K) → n ≤ k → k < length ps → t (get_or ps k d) ≡ false)
      (same : (k : ℕ) (d : Place K) → k < n → t (get_or ps k d) ≡ in_part q (get_or ps k d))
      (to : (k : ℕ) (d : Place K) → k < n → (get_or ps k d).partition ≤ q) where
    last_found : (d : Place K) (i : ℕ) → i + 1 ≡ n → last_that t ps ≡ place_at q i ps
    last_found d i is =
        let l : i < length ps = omega arith in
        let x : Place K = get_or ps i d in
        ⊎_elim
        (λ e. last-at t ps i d l (λ k d' a b. high k d' (omega arith) b) (same i d (omega arith) ∙ e) ∙ sym (lead_at (in_part q) ps i d true l e))
        (λ e.
        let ne = eqb-false x.partition q e in
        last_none t ps
        (λ k d' m. ⊎_elim
        (λ b.
        let at = ap (λ y. y.partition) (get_or_default ps i d d' l) in
        let f = to i d (omega arith) in
        let r = rises k i d' (omega arith) l in
        same k d' b ∙ ne_eqb (get_or ps k d').partition q (λ z. ne (omega arith)))
        (λ b. high k d' b m)
        (cases_lt k n))
        ∙ sym (lead_at (in_part q) ps i d false l e))
        (cases_Bool (in_part q x))

    last-past : n ≡ 0 → last_that t ps ≡ None
    last-past z = last_none t ps (λ k d m. high k d (omega arith) m)

    last-is : (i : ℕ) → i ≡ n → place_at q (i - 1) (take i ps) ≡ last_that t ps
    last-is i is =
        ap (λ m. place_at q (m - 1) (take m ps)) is
        ∙ ⊎_elim
        (λ l. let e : n - 1 + 1 ≡ n = omega arith in before-at q (n - 1) n ps e ∙ sym (last_found (some ps (omega arith)) (n - 1) e))
        (λ l. let z : n ≡ 0 = omega arith in ap (λ m. place_at q (m - 1) (take m ps)) z ∙ sym (last-past z))
        (cases_lt 0 n)

  -- ---- the first and the last of a partition, and the next and the previous of a place: they stand at i, or nowhere

  module _ (q : ℕ) where
    pub first_of : (i : ℕ) → i ≡ count (λ x. ltb x.partition q) ps → place_at q i ps ≡ first_that (in_part q) ps
    first_of i e =
        let h = start-parts q in
        ap (λ j. place_at q j ps) e
        ∙ sym
        (first-is (in_part q) q (count (λ x. ltb x.partition q) ps)
        (λ k d l. let a = ltb-true (get_or ps k d).partition q (h.before k d l) in ne_eqb (get_or ps k d).partition q (λ z. omega arith))
        (λ k d a l. refl)
        (λ k d a l. ltb-false (get_or ps k d).partition q (h.after k d a l)))

    out : (k : ℕ) (d : Place K) → count (λ x. leb x.partition q) ps ≤ k → k < length ps → in_part q (get_or ps k d) ≡ false
    out k d a l = let b = leb-false (get_or ps k d).partition q ((end-parts q).after k d a l) in ne_eqb (get_or ps k d).partition q (λ z. omega arith)

    up_to : (k : ℕ) (d : Place K) → k < count (λ x. leb x.partition q) ps → (get_or ps k d).partition ≤ q
    up_to k d l = leb-true (get_or ps k d).partition q ((end-parts q).before k d l)

    pub last_of : (i : ℕ) → i ≡ count (λ x. leb x.partition q) ps → place_at q (i - 1) (take i ps) ≡ last_that (in_part q) ps
    last_of = last-is (in_part q) q (count (λ x. leb x.partition q) ps) (end-parts q).within out (λ k d l. refl) up_to

  module _ (o : Total (before (place_order cmp))) (p : Place K) where
    abbrev lt : Place K → Place K → Bool
    lt = before (place_order cmp)

    abbrev after : Place K → Bool
    after x = in_part p.partition x && lt p x

    abbrev earlier : Place K → Bool
    earlier x = in_part p.partition x && lt x p

    pub next_of : (i : ℕ) → i ≡ upto lt ps p → place_at p.partition i ps ≡ first_that after ps
    next_of i e =
        let h = upto-parts o ps p up in
        let past : (k : ℕ) (d : Place K) → upto lt ps p ≤ k → k < length ps → lt p (get_or ps k d) ≡ true = λ k d a l. not-false (lt p (get_or ps k d)) (h.after k d a l) in
        ap (λ j. place_at p.partition j ps) e
        ∙ sym
        (first-is after p.partition (upto lt ps p)
        (λ k d l. and_right (in_part p.partition (get_or ps k d)) (lt p (get_or ps k d)) (not-true (lt p (get_or ps k d)) (h.before k d l)))
        (λ k d a l. and_one (in_part p.partition (get_or ps k d)) (lt p (get_or ps k d)) (past k d a l))
        (λ k d a l. before-le cmp p (get_or ps k d) (past k d a l)))

    not_earlier : (k : ℕ) (d : Place K) → below lt ps p ≤ k → k < length ps → earlier (get_or ps k d) ≡ false
    not_earlier k d a l = and_right (in_part p.partition (get_or ps k d)) (lt (get_or ps k d) p) ((below_parts o ps p up).after k d a l)

    in_same : (k : ℕ) (d : Place K) → k < below lt ps p → earlier (get_or ps k d) ≡ in_part p.partition (get_or ps k d)
    in_same k d l = and_one (in_part p.partition (get_or ps k d)) (lt (get_or ps k d) p) ((below_parts o ps p up).before k d l)

    no_later : (k : ℕ) (d : Place K) → k < below lt ps p → (get_or ps k d).partition ≤ p.partition
    no_later k d l = before-le cmp (get_or ps k d) p ((below_parts o ps p up).before k d l)

    pub previous-of : (i : ℕ) → i ≡ below lt ps p → place_at p.partition (i - 1) (take i ps) ≡ last_that earlier ps
    previous-of = last-is earlier p.partition (below lt ps p) (below_parts o ps p up).within not_earlier in_same no_later
