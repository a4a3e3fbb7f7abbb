-- What a call to one of the two stores does to a live pile. Assumes nothing.
use Rattle.std.proofs.Common.{◌≡◌, ℕ, ◌+◌, ◌-◌, ◌<◌, ◌≤◌, max, cond, eqb, ◌++◌, length, set, Ok, Err, Result, Ordering, sym, refl, ap, ◌∙◌, subst, ⊎_elim, arith}
use Rattle.std.specs.List.{insert}
use Rattle.std.proofs.lemmas.Bool.{cases_eq, ne_eqb}
use Rattle.keys.specs.Order.{Total, before}
use Rattle.keys.specs.Orders.{place_order}
use Rattle.keys.specs.declared.place.Place.{Place}
use Rattle.contents.specs.Changes.{Gains, Sets, Clears}
use Rattle.contents.proofs.Amounts.{amount-put, amount-set, amount-clear}
use Rattle.store.specs.declared.refusal.Refusal.{Refusal}
use Rattle.store.specs.declared.refusal.Refusal.TheVariants.{Unsound, NoSpace, FewSlots, PastEnd}
use Rattle.store.specs.Meaning.{Meaning, Sound, PutDone, Put, Take, Set, Removed, WhyPut, in_part, values_in, run_at}
use Rattle.moves.proofs.Steps.{gains-values, clears-values}
use Rattle.joint.specs.Piled.{joint, Apiece}
use Rattle.joint.proofs.Joint.{space-windows, space-side, space-least, joint-run, run-windows, run-side}

-- the two after calls that changed partition q alone
pub apiece-from : {K V : Type 0} (m n m1 n1 : Meaning K V) (q : ℕ) → Apiece m n → n1.partitions ≡ n.partitions → m1.partitions ≡ m.partitions → ((r : ℕ) → (r ≡ q → ⊥) → values_in m1 r ≡ values_in m r) → ((r : ℕ) → (r ≡ q → ⊥) → values_in n1 r ≡ values_in n r) → (0 < values_in n1 q → values_in m1 q ≡ 0) → Apiece m1 n1
apiece-from m n m1 n1 q a e f hm hn h = record {
  same = e ∙ a.same ∙ sym f;
  apart = λ r.
      ⊎_elim
      (λ z. subst (λ x. 0 < values_in n1 x → values_in m1 x ≡ 0) (sym z) h)
      (λ d g. hm r d ∙ a.apart r (omega (arith, hn r d)))
      (cases_eq r q);
}

-- a store that is as it was
pub apiece-windows : {K V : Type 0} (m n k : Meaning K V) → k ≡ m → Apiece m n → Apiece k n
apiece-windows m n k e a = subst (λ x. Apiece x n) (sym e) a

module _ {K V : Type 0} (cmp : K → K → Ordering) (o : Total (before (place_order cmp))) where
  -- ---- how many values the other partitions have after a change

  pub gains-there : (m n : Meaning K V) (p : Place K) (i : ℕ) (v : V) → Sound cmp m → Sound cmp n → Gains (before (place_order cmp)) m.contents n.contents p i v → (r : ℕ) → (r ≡ p.partition → ⊥) → values_in n r ≡ values_in m r
  gains-there m n p i v sm sn d r ne =
      amount-put o (in_part r) m.contents n.contents p i v sm.rising sn.rising d
      ∙ ap (λ b. values_in m r + cond b 1 0) (ne_eqb p.partition r (λ e. ne (sym e))) ∙ omega arith

  pub sets-values : (m n : Meaning K V) (p : Place K) (i : ℕ) (v : V) → Sound cmp m → Sound cmp n → Sets (before (place_order cmp)) m.contents n.contents p i v → (r : ℕ) → values_in n r ≡ values_in m r
  sets-values m n p i v sm sn d r = amount-set o (in_part r) m.contents n.contents p i v sm.rising sn.rising d

  -- ---- a change in the side, where the windows have none of the partition

  side-there : (m n k : Meaning K V) → Sound cmp n → Sound cmp k → (x : Place K) → run_at cmp k x ≡ run_at cmp n x → run_at cmp (joint cmp m k) x ≡ run_at cmp (joint cmp m n) x
  side-there m n k sn sk x e = joint-run cmp o m k sk x ∙ ap (λ ys. run_at cmp m x ++ ys) e ∙ sym (joint-run cmp o m n sn x)

  pub side-gains : (m n k : Meaning K V) (p : Place K) (i : ℕ) (v : V) → Sound cmp n → Sound cmp k → values_in m p.partition ≡ 0 → Gains (before (place_order cmp)) n.contents k.contents p i v → Gains (before (place_order cmp)) (joint cmp m n).contents (joint cmp m k).contents p i v
  side-gains m n k p i v sn sk z d =
      let a = run-side cmp o m n sn p.partition z p refl in
      let b = run-side cmp o m k sk p.partition z p refl in
      record {
        within = omega (arith, d.within, ap length a);
        here = b ∙ d.here ∙ ap (λ xs. insert xs i v) (sym a);
        there = λ x ne. side-there m n k sn sk x (d.there x ne);
      }

  pub side-sets : (m n k : Meaning K V) (p : Place K) (i : ℕ) (v : V) → Sound cmp n → Sound cmp k → values_in m p.partition ≡ 0 → Sets (before (place_order cmp)) n.contents k.contents p i v → Sets (before (place_order cmp)) (joint cmp m n).contents (joint cmp m k).contents p i v
  side-sets m n k p i v sn sk z d =
      let a = run-side cmp o m n sn p.partition z p refl in
      let b = run-side cmp o m k sk p.partition z p refl in
      record {
        within = omega (arith, d.within, ap length a);
        here = b ∙ d.here ∙ ap (λ xs. set xs i v) (sym a);
        there = λ x ne. side-there m n k sn sk x (d.there x ne);
      }

  -- ---- a change in the windows, where the side has none of the partition

  window-there : (m n k : Meaning K V) → Sound cmp n → (x : Place K) → run_at cmp k x ≡ run_at cmp m x → run_at cmp (joint cmp k n) x ≡ run_at cmp (joint cmp m n) x
  window-there m n k sn x e = joint-run cmp o k n sn x ∙ ap (λ ys. ys ++ run_at cmp n x) e ∙ sym (joint-run cmp o m n sn x)

  pub window-gains : (m n k : Meaning K V) (p : Place K) (i : ℕ) (v : V) → Sound cmp n → values_in n p.partition ≡ 0 → Gains (before (place_order cmp)) m.contents k.contents p i v → Gains (before (place_order cmp)) (joint cmp m n).contents (joint cmp k n).contents p i v
  window-gains m n k p i v sn z d =
      let a = run-windows cmp o m n sn p.partition z p refl in
      let b = run-windows cmp o k n sn p.partition z p refl in
      record {
        within = omega (arith, d.within, ap length a);
        here = b ∙ d.here ∙ ap (λ xs. insert xs i v) (sym a);
        there = λ x ne. window-there m n k sn x (d.there x ne);
      }

  pub window-sets : (m n k : Meaning K V) (p : Place K) (i : ℕ) (v : V) → Sound cmp n → values_in n p.partition ≡ 0 → Sets (before (place_order cmp)) m.contents k.contents p i v → Sets (before (place_order cmp)) (joint cmp m n).contents (joint cmp k n).contents p i v
  window-sets m n k p i v sn z d =
      let a = run-windows cmp o m n sn p.partition z p refl in
      let b = run-windows cmp o k n sn p.partition z p refl in
      record {
        within = omega (arith, d.within, ap length a);
        here = b ∙ d.here ∙ ap (λ xs. set xs i v) (sym a);
        there = λ x ne. window-there m n k sn x (d.there x ne);
      }

  -- ---- puts

  pub side-put : (m n k : Meaning K V) (p : Place K) (i : ℕ) (v : V) → Sound cmp n → Sound cmp k → values_in m p.partition ≡ 0 → (joint cmp m n).space p.partition ≤ n.space p.partition → PutDone cmp n k p i v → PutDone cmp (joint cmp m n) (joint cmp m k) p i v
  side-put m n k p i v sn sk z le d = record {
    had_space = omega (arith, d.had_space, space-least cmp m n p.partition z);
    gains = side-gains m n k p i v sn sk z d.gains;
    falls = omega (arith, le, d.falls, space-least cmp m k p.partition z);
    same_partitions = d.same_partitions;
    same_assured = d.same_assured;
  }

  pub window-put : (m n k : Meaning K V) (p : Place K) (i : ℕ) (v : V) → Sound cmp m → Sound cmp n → Sound cmp k → values_in n p.partition ≡ 0 → PutDone cmp m k p i v → PutDone cmp (joint cmp m n) (joint cmp k n) p i v
  window-put m n k p i v sm sn sk z d =
      let a = space-windows cmp m n p.partition z in
      let b = space-windows cmp k n p.partition z in
      record {
        had_space = omega (arith, d.had_space, a);
        gains = window-gains m n k p i v sn z d.gains;
        falls = omega (arith, d.falls, gains-values cmp o m k p i v sm sk d.gains, a, b);
        same_partitions = refl;
        same_assured = refl;
      }

  -- a put at a partition that is in the side
  pub put-side : (m n k : Meaning K V) (p : Place K) (i : ℕ) (v : V) (r : Result Unit Refusal) → Sound cmp n → Sound cmp k → Apiece m n → 0 < values_in n p.partition → Put cmp n k p i v r → Put cmp (joint cmp m n) (joint cmp m k) p i v r × Apiece m k
  put-side m n k p i v (Ok _) sn sk a h d =
      let z = a.apart p.partition h in (
        side-put m n k p i v sn sk z (omega (arith, space-side cmp m n p.partition h)) d,
        apiece-from m n m k p.partition a d.same_partitions refl (λ r ne. refl) (gains-there n k p i v sn sk d.gains) (λ g. z),
      )
  put-side m n k p i v (Err Unsound) sn sk a h d = absurd d.1
  put-side m n k p i v (Err NoSpace) sn sk a h d =
      ((ap (joint cmp m) d.0, space-side cmp m n p.partition h ∙ d.1), subst (Apiece m) (sym d.0) a)
  put-side m n k p i v (Err FewSlots) sn sk a h d = absurd d.1
  put-side m n k p i v (Err PastEnd) sn sk a h d =
      let e = run-side cmp o m n sn p.partition (a.apart p.partition h) p refl in
      ((ap (joint cmp m) d.0, (omega (arith, space-side cmp m n p.partition h, d.1.0), omega (arith, ap length e, d.1.1))), subst (Apiece m) (sym d.0) a)

  pub window-apiece : (m n k : Meaning K V) (p : Place K) (i : ℕ) (v : V) → Sound cmp m → Sound cmp k → Apiece m n → values_in n p.partition ≡ 0 → PutDone cmp m k p i v → Apiece k n
  window-apiece m n k p i v sm sk a z d =
      apiece-from m n k n p.partition a refl d.same_partitions (gains-there m k p i v sm sk d.gains) (λ r ne. refl) (λ g. absurd (omega arith))

  -- a refused put at a window that has space
  -- whatever a put in the windows answers
  pub window-apart : (m n k : Meaning K V) (p : Place K) (i : ℕ) (v : V) (r : Result Unit Refusal) → Sound cmp m → Sound cmp k → Apiece m n → values_in n p.partition ≡ 0 → Put cmp m k p i v r → Apiece k n
  window-apart m n k p i v (Ok _) sm sk a z d = window-apiece m n k p i v sm sk a z d
  window-apart m n k p i v (Err e) sm sk a z d = apiece-windows m n k d.0 a

  pub window-refused : (m n k : Meaning K V) (p : Place K) (i : ℕ) (e : Refusal) → Sound cmp n → values_in n p.partition ≡ 0 → 0 < m.space p.partition → (k ≡ m) × WhyPut cmp m p i e → (joint cmp k n ≡ joint cmp m n) × WhyPut cmp (joint cmp m n) p i e
  window-refused m n k p i Unsound sn z h d = absurd d.1
  window-refused m n k p i NoSpace sn z h d = absurd (omega (arith, d.1))
  window-refused m n k p i FewSlots sn z h d = absurd d.1
  window-refused m n k p i PastEnd sn z h d =
      let e = run-windows cmp o m n sn p.partition z p refl in
      (ap (λ x. joint cmp x n) d.0, (omega (arith, space-windows cmp m n p.partition z), omega (arith, ap length e, d.1.1)))

  -- ---- takes

  pub take-side : (m n k : Meaning K V) (p : Place K) (i : ℕ) (r : Result V Refusal) → Sound cmp n → Sound cmp k → Apiece m n → 0 < values_in n p.partition → Take cmp n k p i r → Take cmp (joint cmp m n) (joint cmp m k) p i r × Apiece m k
  take-side m n k p i (Ok v) sn sk a h d =
      let z = a.apart p.partition h in (
        record {
          gains = side-gains m k n p i v sk sn z d.gains;
          rises = omega (arith, space-side cmp m n p.partition h, d.rises, space-least cmp m k p.partition z);
          same_partitions = d.same_partitions;
          same_assured = d.same_assured;
        },
        apiece-from m n m k p.partition a d.same_partitions refl (λ r ne. refl) (λ r ne. sym (gains-there k n p i v sk sn d.gains r ne)) (λ g. z),
      )
  take-side m n k p i (Err Unsound) sn sk a h d = absurd d.1
  take-side m n k p i (Err NoSpace) sn sk a h d = absurd d.1
  take-side m n k p i (Err FewSlots) sn sk a h d = absurd d.1
  take-side m n k p i (Err PastEnd) sn sk a h d =
      let e = run-side cmp o m n sn p.partition (a.apart p.partition h) p refl in
      ((ap (joint cmp m) d.0, omega (arith, ap length e, d.1)), subst (Apiece m) (sym d.0) a)

  pub take-window : (m n k : Meaning K V) (p : Place K) (i : ℕ) (r : Result V Refusal) → Sound cmp m → Sound cmp n → Sound cmp k → Apiece m n → values_in n p.partition ≡ 0 → Take cmp m k p i r → Take cmp (joint cmp m n) (joint cmp k n) p i r × Apiece k n
  take-window m n k p i (Ok v) sm sn sk a z d =
      let x = space-windows cmp m n p.partition z in
      let y = space-windows cmp k n p.partition z in (
        record {
          gains = window-gains k n m p i v sn z d.gains;
          rises = omega (arith, d.rises, gains-values cmp o k m p i v sk sm d.gains, x, y);
          same_partitions = refl;
          same_assured = refl;
        },
        apiece-from m n k n p.partition a refl d.same_partitions (λ r ne. sym (gains-there k m p i v sk sm d.gains r ne)) (λ r ne. refl) (λ g. absurd (omega arith)),
      )
  take-window m n k p i (Err Unsound) sm sn sk a z d = absurd d.1
  take-window m n k p i (Err NoSpace) sm sn sk a z d = absurd d.1
  take-window m n k p i (Err FewSlots) sm sn sk a z d = absurd d.1
  take-window m n k p i (Err PastEnd) sm sn sk a z d =
      let e = run-windows cmp o m n sn p.partition z p refl in
      ((ap (λ x. joint cmp x n) d.0, omega (arith, ap length e, d.1)), apiece-windows m n k d.0 a)

  -- ---- sets

  -- the space of a pile, from what it is made of
  joint-space : (m n k l : Meaning K V) (q : ℕ) → k.space q ≡ m.space q → l.space q ≡ n.space q → values_in k q ≡ values_in m q → values_in l q ≡ values_in n q → (joint cmp k l).space q ≡ (joint cmp m n).space q
  joint-space m n k l q a b c d =
      ap (λ x. cond (eqb (values_in l q) 0) (max x (l.space q - values_in k q)) (l.space q)) a
      ∙ ap (λ x. cond (eqb (values_in l q) 0) (max (m.space q) (x - values_in k q)) x) b
      ∙ ap (λ x. cond (eqb (values_in l q) 0) (max (m.space q) (n.space q - x)) (n.space q)) c
      ∙ ap (λ x. cond (eqb x 0) (max (m.space q) (n.space q - values_in m q)) (n.space q)) d

  -- equal values everywhere leave each partition where it is
  apiece-same : (m n k l : Meaning K V) → Apiece m n → l.partitions ≡ n.partitions → k.partitions ≡ m.partitions → ((q : ℕ) → values_in k q ≡ values_in m q) → ((q : ℕ) → values_in l q ≡ values_in n q) → Apiece k l
  apiece-same m n k l a e f hm hn = record { same = e ∙ a.same ∙ sym f; apart = λ q h. hm q ∙ a.apart q (omega (arith, hn q)) }

  pub set-side : (m n k : Meaning K V) (p : Place K) (i : ℕ) (v : V) (r : Result Unit Refusal) → Sound cmp n → Sound cmp k → Apiece m n → 0 < values_in n p.partition → Set cmp n k p i v r → Set cmp (joint cmp m n) (joint cmp m k) p i v r × Apiece m k
  set-side m n k p i v (Ok _) sn sk a h d =
      let z = a.apart p.partition h in
      let e = sets-values n k p i v sn sk d.sets in (
        record {
          sets = side-sets m n k p i v sn sk z d.sets;
          same_space = λ q. joint-space m n m k q refl (d.same_space q) refl (e q);
          same_partitions = d.same_partitions;
          same_assured = d.same_assured;
        },
        apiece-same m n m k a d.same_partitions refl (λ q. refl) e,
      )
  set-side m n k p i v (Err Unsound) sn sk a h d = absurd d.1
  set-side m n k p i v (Err NoSpace) sn sk a h d = absurd d.1
  set-side m n k p i v (Err FewSlots) sn sk a h d = absurd d.1
  set-side m n k p i v (Err PastEnd) sn sk a h d =
      let e = run-side cmp o m n sn p.partition (a.apart p.partition h) p refl in
      ((ap (joint cmp m) d.0, omega (arith, ap length e, d.1)), subst (Apiece m) (sym d.0) a)

  pub set-window : (m n k : Meaning K V) (p : Place K) (i : ℕ) (v : V) (r : Result Unit Refusal) → Sound cmp m → Sound cmp n → Sound cmp k → Apiece m n → values_in n p.partition ≡ 0 → Set cmp m k p i v r → Set cmp (joint cmp m n) (joint cmp k n) p i v r × Apiece k n
  set-window m n k p i v (Ok _) sm sn sk a z d =
      let e = sets-values m k p i v sm sk d.sets in (
        record {
          sets = window-sets m n k p i v sn z d.sets;
          same_space = λ q. joint-space m n k n q (d.same_space q) refl (e q) refl;
          same_partitions = refl;
          same_assured = refl;
        },
        apiece-same m n k n a refl d.same_partitions e (λ q. refl),
      )
  set-window m n k p i v (Err Unsound) sm sn sk a z d = absurd d.1
  set-window m n k p i v (Err NoSpace) sm sn sk a z d = absurd d.1
  set-window m n k p i v (Err FewSlots) sm sn sk a z d = absurd d.1
  set-window m n k p i v (Err PastEnd) sm sn sk a z d =
      let e = run-windows cmp o m n sn p.partition z p refl in
      ((ap (λ x. joint cmp x n) d.0, omega (arith, ap length e, d.1)), apiece-windows m n k d.0 a)

  -- ---- runs removed

  clears-there : (m n : Meaning K V) (p : Place K) → Sound cmp m → Sound cmp n → Clears (before (place_order cmp)) m.contents n.contents p → (r : ℕ) → (r ≡ p.partition → ⊥) → values_in n r ≡ values_in m r
  clears-there m n p sm sn d r ne =
      let e =
      amount-clear o (in_part r) m.contents n.contents p sm.rising sn.rising d
      ∙ ap (λ b. values_in n r + cond b (length (run_at cmp m p)) 0) (ne_eqb p.partition r (λ e. ne (sym e))) in
      omega (arith, e)

  pub remove-side : (m n k : Meaning K V) (p : Place K) → Sound cmp n → Sound cmp k → Apiece m n → 0 < values_in n p.partition → Removed cmp n k p → Removed cmp (joint cmp m n) (joint cmp m k) p × Apiece m k
  remove-side m n k p sn sk a h d =
      let z = a.apart p.partition h in
      let e = run-side cmp o m n sn p.partition z p refl in (
        record {
          clears = record { here = run-side cmp o m k sk p.partition z p refl ∙ d.clears.here; there = λ x ne. side-there m n k sn sk x (d.clears.there x ne) };
          rises = omega (arith, space-side cmp m n p.partition h, d.rises, ap length e, space-least cmp m k p.partition z);
          same_partitions = d.same_partitions;
          same_assured = d.same_assured;
          idle = λ none. ap (joint cmp m) (d.idle (sym e ∙ none));
        },
        apiece-from m n m k p.partition a d.same_partitions refl (λ r ne. refl) (clears-there n k p sn sk d.clears) (λ g. z),
      )

  pub remove-window : (m n k : Meaning K V) (p : Place K) → Sound cmp m → Sound cmp n → Sound cmp k → Apiece m n → values_in n p.partition ≡ 0 → Removed cmp m k p → Removed cmp (joint cmp m n) (joint cmp k n) p × Apiece k n
  remove-window m n k p sm sn sk a z d =
      let e = run-windows cmp o m n sn p.partition z p refl in
      let x = space-windows cmp m n p.partition z in
      let y = space-windows cmp k n p.partition z in (
        record {
          clears = record { here = run-windows cmp o k n sn p.partition z p refl ∙ d.clears.here; there = λ x ne. window-there m n k sn x (d.clears.there x ne) };
          rises = omega (arith, d.rises, clears-values cmp o m k p sm sk d.clears, ap length e, x, y);
          same_partitions = refl;
          same_assured = refl;
          idle = λ none. ap (λ x. joint cmp x n) (d.idle (sym e ∙ none));
        },
        apiece-from m n k n p.partition a refl d.same_partitions (clears-there m k p sm sk d.clears) (λ r ne. refl) (λ g. absurd (omega arith)),
      )
