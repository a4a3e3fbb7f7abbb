-- Windows one after the other: what stands at a place stands in the window of its partition. Assumes nothing.
use Rattle.std.proofs.Common.{◌≡◌, ℕ, zero, suc, ◌+◌, ◌<◌, ◌≤◌, Bool, true, false, cond, not, eqb, List, [], ◌∷◌, ◌++◌, map, reverse, length, set, Some, Option, Ordering, Less, Equal, Greater, sym, refl, ap, ◌∙◌, subst, ⊎_elim, arith}
use Rattle.std.specs.List.{insert}
use Rattle.std.specs.Option.{option_map}
use Rattle.std.specs.Ordering.{ordering_then, is_lt, nat_cmp}
use Rattle.std.proofs.lemmas.List.{append-nil, nil_from_length, reverse-append, map-append}
use Rattle.std.proofs.lemmas.Bool.{cases_eq, cases_lt, eq-eqb, ne_eqb, le-ltb}
use Rattle.keys.specs.Order.{Lawful, Total, before}
use Rattle.keys.specs.Orders.{place_order}
use Rattle.keys.specs.declared.place.Place.{Place}
use Rattle.keys.specs.Laws.{places_lawful}
use Rattle.keys.proofs.Tests.{total}
use Rattle.contents.specs.Entries.{Entry, places, Rising, same, run, none, amount, first_that, last_that}
use Rattle.contents.specs.Changes.{Gains, Sets, Clears}
use Rattle.contents.proofs.Laws.{From, Up, sorted-up, up_sorted, same_not, run-append}
use Rattle.contents.proofs.Amounts.{first-same, last-same}
use Rattle.store.specs.Meaning.{in_part}
use Rattle.layout.specs.Windows.{spot, within, stacked}

pushed : {X Y : Type 0} (b : Bool) (g : X → Y) (x : X) (o : Option X) → cond b (Some (g x)) (option_map g o) ≡ option_map g (cond b (Some x) o)
pushed true g x o = refl
pushed false g x o = refl

reverse-mapped : {X Y : Type 0} (g : X → Y) (xs : List X) → reverse (map g xs) ≡ map g (reverse xs)
reverse-mapped g [] = refl
reverse-mapped g (x ∷ xs) =
    reverse-append (g x ∷ []) (map g xs) ∙ ap (λ ys. ys ++ g x ∷ []) (reverse-mapped g xs)
    ∙ sym (map-append g (reverse xs) (x ∷ [])) ∙ ap (map g) (sym (reverse-append (x ∷ []) xs))

-- ---- the order of places, by their partitions

rank-self : (q : ℕ) → nat_cmp q q ≡ Equal
rank-self q = ap (λ b. cond b Less (cond (eqb q q) Equal Greater)) (le-ltb q q (omega arith)) ∙ ap (λ b. cond b Equal Greater) (eq-eqb q q refl)

rank-after : (q r : ℕ) → r < q → nat_cmp q r ≡ Greater
rank-after q r h = ap (λ b. cond b Less (cond (eqb q r) Equal Greater)) (le-ltb q r (omega arith)) ∙ ap (λ b. cond b Equal Greater) (ne_eqb q r (λ e. omega arith))

module _ {K : Type 0} (cmp : K → K → Ordering) where
  abbrev pub Lt : Place K → Place K → Bool
  Lt = before (place_order cmp)

  abbrev pub lt : K → K → Bool
  lt = before cmp

  -- in one partition the keys decide
  pub same-part : (q : ℕ) (x y : K) → Lt (spot q x) (spot q y) ≡ lt x y
  same-part q x y = ap (λ r. is_lt (ordering_then r (cmp x y))) (rank-self q)

  later_part : (x y : Place K) → y.partition < x.partition → Lt x y ≡ false
  later_part x y h = ap (λ r. is_lt (ordering_then r (cmp x.key y.key))) (rank-after x.partition y.partition h)

  same_keys : (q : ℕ) (x y : K) → same Lt (spot q x) (spot q y) ≡ same lt x y
  same_keys q x y =
      ap (λ b. cond b false (not (Lt (spot q y) (spot q x)))) (same-part q x y) ∙ ap (λ b. cond (lt x y) false (not b)) (same-part q y x)

pub first-mapped : {K : Type 0} (t : Place K → Bool) (q : ℕ) (ks : List K) → first_that t (map (spot q) ks) ≡ option_map (spot q) (first_that (λ k. t (spot q k)) ks)
first-mapped t q [] = refl
first-mapped t q (k ∷ ks) =
    ap (λ o. cond (t (spot q k)) (Some (spot q k)) o) (first-mapped t q ks) ∙ pushed (t (spot q k)) (spot q) k (first_that (λ x. t (spot q x)) ks)

module _ {K V : Type 0} where
  -- windows with nothing in them
  pub stacked-nil : (f : ℕ → List (Entry K V)) → ((r : ℕ) → f r ≡ []) → (q n : ℕ) → stacked f q n ≡ []
  unfolding stacked
  stacked-nil f h q zero = refl
  stacked-nil f h q (suc n) = ap (λ es. within q es ++ stacked f (suc q) n) (h q) ∙ stacked-nil f h (suc q) n

  -- ---- what one window holds

  pub places-within : (q : ℕ) (es : List (Entry K V)) → places (within q es) ≡ map (spot q) (places es)
  places-within q [] = refl
  places-within q (e ∷ es) = ap (λ ps. spot q e.place ∷ ps) (places-within q es)

  amount-hit : (q : ℕ) (es : List (Entry K V)) (fs : List (Entry (Place K) V)) → amount (in_part q) (within q es ++ fs) ≡ length es + amount (in_part q) fs
  amount-hit q [] fs = omega arith
  amount-hit q (e ∷ es) fs =
      let h = ap (λ b. cond b 1 0 + amount (in_part q) (within q es ++ fs)) (eq-eqb q q refl) in
      omega (arith, amount-hit q es fs)

  amount-miss : (q r : ℕ) (es : List (Entry K V)) (fs : List (Entry (Place K) V)) → (q ≡ r → ⊥) → amount (in_part r) (within q es ++ fs) ≡ amount (in_part r) fs
  amount-miss q r [] fs ne = refl
  amount-miss q r (e ∷ es) fs ne =
      let h = ap (λ b. cond b 1 0 + amount (in_part r) (within q es ++ fs)) (ne_eqb q r ne) in
      omega (arith, amount-miss q r es fs ne)

pub by_place : {K : Type 0} {cmp : K → K → Ordering} → Lawful cmp → Total (Lt cmp)
by_place {K} {cmp} l = total (places_lawful cmp l)

module _ {K V : Type 0} {cmp : K → K → Ordering} (l : Lawful cmp) where
  run-within : (q : ℕ) (es : List (Entry K V)) (k : K) → run (Lt cmp) (within q es) (spot q k) ≡ run (lt cmp) es k
  run-within q [] k = refl
  run-within q (e ∷ es) k =
      ap (λ b. cond b (e.value ∷ run (Lt cmp) (within q es) (spot q k)) (run (Lt cmp) (within q es) (spot q k))) (same_keys cmp q e.place k)
      ∙ ap (λ vs. cond (same (lt cmp) e.place k) (e.value ∷ vs) vs) (run-within q es k)

  run-apart : (q : ℕ) (es : List (Entry K V)) (p : Place K) → (p.partition ≡ q → ⊥) → run (Lt cmp) (within q es) p ≡ []
  run-apart q [] p ne = refl
  run-apart q (e ∷ es) p ne =
      ap (λ b. cond b (e.value ∷ run (Lt cmp) (within q es) p) (run (Lt cmp) (within q es) p)) (same_not (by_place l) (spot q e.place) p (λ z. ne (sym (ap (λ x. x.partition) z))))
      ∙ run-apart q es p ne

  up_within : (q : ℕ) (es : List (Entry K V)) → Up (lt cmp) (places es) → Up (Lt cmp) (places (within q es))
  up_within q [] u = tt
  up_within q (e ∷ es) u = (after e.place es u.0, up_within q es u.1)
    where
      after : (x : K) (fs : List (Entry K V)) → From (lt cmp) x (places fs) → From (Lt cmp) (spot q x) (places (within q fs))
      after x [] g = tt
      after x (y ∷ fs) g = (same-part cmp q y.place x ∙ g.0, after x fs g.1)

  module _ (f : ℕ → List (Entry K V)) where
    -- ---- runs

    run_out : (q n : ℕ) (p : Place K) → p.partition < q → run (Lt cmp) (stacked f q n) p ≡ []
    unfolding stacked
    run_out q zero p h = refl
    run_out q (suc n) p h =
        run-append (by_place l) (within q (f q)) (stacked f (suc q) n) p
        ∙ ap (λ vs. vs ++ run (Lt cmp) (stacked f (suc q) n) p) (run-apart q (f q) p (λ z. omega arith))
        ∙ run_out (suc q) n p (omega arith)

    run_past : (q n : ℕ) (p : Place K) → q + n ≤ p.partition → run (Lt cmp) (stacked f q n) p ≡ []
    unfolding stacked
    run_past q zero p h = refl
    run_past q (suc n) p h =
        run-append (by_place l) (within q (f q)) (stacked f (suc q) n) p
        ∙ ap (λ vs. vs ++ run (Lt cmp) (stacked f (suc q) n) p) (run-apart q (f q) p (λ z. omega arith))
        ∙ run_past (suc q) n p (omega arith)

    run_in : (q n r : ℕ) (k : K) → q ≤ r → r < q + n → run (Lt cmp) (stacked f q n) (spot r k) ≡ run (lt cmp) (f r) k
    unfolding stacked
    run_in q zero r k a b = absurd (omega arith)
    run_in q (suc n) r k a b =
        run-append (by_place l) (within q (f q)) (stacked f (suc q) n) (spot r k)
        ∙ ⊎_elim
        (λ z.
        ap (λ vs. vs ++ run (Lt cmp) (stacked f (suc q) n) (spot r k)) (subst (λ s. run (Lt cmp) (within q (f q)) (spot s k) ≡ run (lt cmp) (f s) k) z (run-within q (f q) k))
        ∙ ap (λ vs. run (lt cmp) (f r) k ++ vs) (run_out (suc q) n (spot r k) (omega arith))
        ∙ append-nil (run (lt cmp) (f r) k))
        (λ ne.
        ap (λ vs. vs ++ run (Lt cmp) (stacked f (suc q) n) (spot r k)) (run-apart q (f q) (spot r k) (λ z. ne (sym z)))
        ∙ run_in (suc q) n r k (omega arith) (omega arith))
        (cases_eq q r)

    -- ---- the order

    from_stacked : (p : Place K) (q n : ℕ) → p.partition < q → From (Lt cmp) p (places (stacked f q n))
    unfolding stacked
    from_stacked p q zero h = tt
    from_stacked p q (suc n) h = front (f q) (from_stacked p (suc q) n (omega arith))
      where
        front : (es : List (Entry K V)) → From (Lt cmp) p (places (stacked f (suc q) n)) → From (Lt cmp) p (places (within q es ++ stacked f (suc q) n))
        front [] g = g
        front (e ∷ es) g = (later_part cmp (spot q e.place) p h, front es g)

    module _ (up : (q : ℕ) → Rising (lt cmp) (f q)) where
      up_stacked : (q n : ℕ) → Up (Lt cmp) (places (stacked f q n))
      unfolding stacked
      up_stacked q zero = tt
      up_stacked q (suc n) = joins (f q) (sorted-up (lt cmp) (places (f q)) (up q)) (up_stacked (suc q) n)
        where
          after : (x : K) (es : List (Entry K V)) → From (lt cmp) x (places es) → From (Lt cmp) (spot q x) (places (within q es ++ stacked f (suc q) n))
          after x [] g = from_stacked (spot q x) (suc q) n (omega arith)
          after x (e ∷ es) g = (same-part cmp q e.place x ∙ g.0, after x es g.1)

          joins : (es : List (Entry K V)) → Up (lt cmp) (places es) → Up (Lt cmp) (places (stacked f (suc q) n)) → Up (Lt cmp) (places (within q es ++ stacked f (suc q) n))
          joins [] u g = g
          joins (e ∷ es) u g = (after e.place es u.0, joins es u.1 g)

      pub rising-stacked : (q n : ℕ) → Rising (Lt cmp) (stacked f q n)
      rising-stacked q n = up_sorted (by_place l) (places (stacked f q n)) (up_stacked q n)

    -- ---- how many values a partition has

    amount-out : (r q n : ℕ) → r < q → amount (in_part r) (stacked f q n) ≡ 0
    unfolding stacked
    amount-out r q zero h = refl
    amount-out r q (suc n) h = amount-miss q r (f q) (stacked f (suc q) n) (λ z. omega arith) ∙ amount-out r (suc q) n (omega arith)

    amount-at : (r q n : ℕ) → q ≤ r → r < q + n → amount (in_part r) (stacked f q n) ≡ length (f r)
    unfolding stacked
    amount-at r q zero a b = absurd (omega arith)
    amount-at r q (suc n) a b =
        ⊎_elim
        (λ z. subst (λ s. amount (in_part s) (stacked f q (suc n)) ≡ length (f s)) z (amount-hit q (f q) (stacked f (suc q) n) ∙ omega (arith, amount-out q (suc q) n (omega arith))))
        (λ ne. amount-miss q r (f q) (stacked f (suc q) n) ne ∙ amount-at r (suc q) n (omega arith) (omega arith))
        (cases_eq q r)

    -- ---- whether anything is held

    none-empty : (q n : ℕ) → ((r : ℕ) → q ≤ r → r < q + n → length (f r) ≡ 0) → none (stacked f q n) ≡ true
    unfolding stacked
    none-empty q zero h = refl
    none-empty q (suc n) h =
        ap (λ es. none (within q es ++ stacked f (suc q) n)) (nil_from_length (f q) (h q (omega arith) (omega arith)))
        ∙ none-empty (suc q) n (λ r a b. h r (omega arith) (omega arith))

    none-held : (q n r : ℕ) → q ≤ r → r < q + n → 0 < length (f r) → none (stacked f q n) ≡ false
    unfolding stacked
    none-held q zero r a b h = absurd (omega arith)
    none-held q (suc n) r a b h =
        ⊎_elim
        (λ z. front (f q) (subst (λ s. 0 < length (f s)) (sym z) h))
        (λ ne. behind (f q) (none-held (suc q) n r (omega arith) (omega arith) h))
        (cases_eq q r)
      where
        front : (es : List (Entry K V)) → 0 < length es → none (within q es ++ stacked f (suc q) n) ≡ false
        front [] g = absurd (omega arith)
        front (e ∷ es) g = refl

        behind : (es : List (Entry K V)) → none (stacked f (suc q) n) ≡ false → none (within q es ++ stacked f (suc q) n) ≡ false
        behind [] g = g
        behind (e ∷ es) g = refl

    -- ---- n windows in all: at each place the run of its own window

    module _ (n : ℕ) (past : (r : ℕ) → n ≤ r → f r ≡ []) where
      pub run-stacked : (p : Place K) → run (Lt cmp) (stacked f 0 n) p ≡ run (lt cmp) (f p.partition) p.key
      run-stacked p =
          ⊎_elim
          (λ h. run_in 0 n p.partition p.key (omega arith) (omega arith))
          (λ h. run_past 0 n p (omega arith) ∙ sym (ap (λ es. run (lt cmp) es p.key) (past p.partition h)))
          (cases_lt p.partition n)

      pub amount-stacked : (r : ℕ) → r < n → amount (in_part r) (stacked f 0 n) ≡ length (f r)
      amount-stacked r h = amount-at r 0 n (omega arith) (omega arith)

      pub none-all : ((r : ℕ) → r < n → length (f r) ≡ 0) → none (stacked f 0 n) ≡ true
      none-all h = none-empty 0 n (λ r a b. h r (omega arith))

      pub none-some : (r : ℕ) → r < n → 0 < length (f r) → none (stacked f 0 n) ≡ false
      none-some r a h = none-held 0 n r (omega arith) (omega arith) h

      -- the places of one partition
      module _ (up : (q : ℕ) → Rising (lt cmp) (f q)) (t : Place K → Bool) (q : ℕ) (only : (p : Place K) → t p ≡ true → p.partition ≡ q) where
        run-one : (p : Place K) → t p ≡ true → run (Lt cmp) (stacked f 0 n) p ≡ run (Lt cmp) (within q (f q)) p
        run-one p h =
            run-stacked p
            ∙ sym (run-within p.partition (f p.partition) p.key)
            ∙ ap (λ r. run (Lt cmp) (within r (f r)) p) (only p h)

        rising-one : Rising (Lt cmp) (within q (f q))
        rising-one = up_sorted (by_place l) (places (within q (f q))) (up_within q (f q) (sorted-up (lt cmp) (places (f q)) (up q)))

        pub first-stacked : first_that t (places (stacked f 0 n)) ≡ option_map (spot q) (first_that (λ k. t (spot q k)) (places (f q)))
        first-stacked =
            first-same (by_place l) t (stacked f 0 n) (within q (f q)) (rising-stacked up 0 n) rising-one run-one
            ∙ ap (first_that t) (places-within q (f q)) ∙ first-mapped t q (places (f q))

        pub last-stacked : last_that t (places (stacked f 0 n)) ≡ option_map (spot q) (last_that (λ k. t (spot q k)) (places (f q)))
        last-stacked =
            last-same (by_place l) t (stacked f 0 n) (within q (f q)) (rising-stacked up 0 n) rising-one run-one
            ∙ ap (λ ps. first_that t (reverse ps)) (places-within q (f q))
            ∙ ap (first_that t) (reverse-mapped (spot q) (places (f q))) ∙ first-mapped t q (reverse (places (f q)))

  -- ---- one window changes

  module _ (f g : ℕ → List (Entry K V)) (n : ℕ) (past : (r : ℕ) → n ≤ r → f r ≡ []) (gone : (r : ℕ) → n ≤ r → g r ≡ []) (p : ℕ) (others : (r : ℕ) → (r ≡ p → ⊥) → g r ≡ f r) (k : K) where
    was : run (Lt cmp) (stacked f 0 n) (spot p k) ≡ run (lt cmp) (f p) k
    was = run-stacked f n past (spot p k)

    is : run (Lt cmp) (stacked g 0 n) (spot p k) ≡ run (lt cmp) (g p) k
    is = run-stacked g n gone (spot p k)

    elsewhere : ((y : K) → (y ≡ k → ⊥) → run (lt cmp) (g p) y ≡ run (lt cmp) (f p) y) → (x : Place K) → (x ≡ spot p k → ⊥) → run (Lt cmp) (stacked g 0 n) x ≡ run (Lt cmp) (stacked f 0 n) x
    elsewhere h x ne =
        run-stacked g n gone x
        ∙ ⊎_elim
        (λ z. subst (λ r. run (lt cmp) (g r) x.key ≡ run (lt cmp) (f r) x.key) (sym z) (h x.key (λ y. ne (λ i. spot (z i) (y i)))))
        (λ m. ap (λ es. run (lt cmp) es x.key) (others x.partition m))
        (cases_eq x.partition p)
        ∙ sym (run-stacked f n past x)

    pub gains-stacked : (i : ℕ) (v : V) → Gains (lt cmp) (f p) (g p) k i v → Gains (Lt cmp) (stacked f 0 n) (stacked g 0 n) (spot p k) i v
    gains-stacked i v d = record {
      within = (let a = ap length was in let b = d.within in omega arith);
      here = is ∙ d.here ∙ ap (λ xs. insert xs i v) (sym was);
      there = elsewhere d.there;
    }

    pub clears-stacked : Clears (lt cmp) (f p) (g p) k → Clears (Lt cmp) (stacked f 0 n) (stacked g 0 n) (spot p k)
    clears-stacked d = record { here = is ∙ d.here; there = elsewhere d.there }

    pub sets-stacked : (i : ℕ) (v : V) → Sets (lt cmp) (f p) (g p) k i v → Sets (Lt cmp) (stacked f 0 n) (stacked g 0 n) (spot p k) i v
    sets-stacked i v d = record {
      within = (let a = ap length was in let b = d.within in omega arith);
      here = is ∙ d.here ∙ ap (λ xs. set xs i v) (sym was);
      there = elsewhere d.there;
    }
