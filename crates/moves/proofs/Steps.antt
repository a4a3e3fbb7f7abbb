-- One step of a copy and of a move. Assumes nothing.
use Rattle.std.proofs.Common.{◌≡◌, ℕ, zero, suc, ◌+◌, ◌<◌, ◌≤◌, Bool, cond, ◌⊎◌, List, [], ◌∷◌, ◌++◌, length, take, Some, None, Ordering, sym, refl, ap, ◌∙◌, subst, inl, inr, ⊎_elim, append_assoc, append-nil, add-one, arith, length-append}
use lib.Seq.{take-length, drop-length}
use Rattle.std.specs.List.{slice_get, insert}
use Rattle.std.proofs.lemmas.Bool.{cases_Bool, both_ways, eqb-true, eq-eqb}
use Rattle.keys.specs.Order.{Total, before}
use Rattle.keys.specs.Orders.{place_order}
use Rattle.keys.specs.declared.place.Place.{Place}
use Rattle.contents.specs.Entries.{same}
use Rattle.contents.specs.Changes.{Gains, Clears}
use Rattle.contents.proofs.Laws.{same-is, same_self}
use Rattle.contents.proofs.Amounts.{amount-put, amount-clear, run-amount, no_run, no_first, first-held}
use Rattle.store.specs.Meaning.{Meaning, Sound, PutDone, Removed, in_part, values_in, run_at, first_in}
use Rattle.moves.specs.Moving.{Appended, Apart, Moved}

take-suc_nth : {X : Type 0} (xs : List X) (i : ℕ) (x : X) → Some x ≡ slice_get xs i → take (suc i) xs ≡ take i xs ++ (x ∷ [])
take-suc_nth [] i x e = let z : ◌≡◌ {A = ℕ} 0 1 = cc in absurd (omega arith)
take-suc_nth (y ∷ ys) zero x e = let h : y ≡ x = cc in ap (λ z. z ∷ []) h
take-suc_nth (y ∷ ys) (suc i) x e = ap (λ zs. y ∷ zs) (take-suc_nth ys i x e)

pub take_nth : {X : Type 0} (xs : List X) (i : ℕ) (x : X) → Some x ≡ slice_get xs i → take (i + 1) xs ≡ take i xs ++ (x ∷ [])
take_nth xs i x e = rw add-one (take-suc_nth xs i x e)

insert-end : {X : Type 0} (xs : List X) (x : X) → insert xs (length xs) x ≡ xs ++ (x ∷ [])
insert-end xs x = rw (take-length, drop-length)

-- two places are the same or not
pub decide : {P : Type 0} {lt : P → P → Bool} → Total lt → (x y : P) → (x ≡ y) ⊎ (x ≡ y → ⊥)
decide {P} {lt} o x y =
    ⊎_elim (λ t. inl (same-is o x y t)) (λ f. inr (λ z. both_ways (same lt x y) f (ap (same lt x) (sym z) ∙ same_self o x))) (cases_Bool (same lt x y))

module _ {K V : Type 0} (cmp : K → K → Ordering) where
  module _ (o : Total (before (place_order cmp))) where
    -- what a value put in adds to its partition
    pub gains-values : (m n : Meaning K V) (p : Place K) (i : ℕ) (v : V) → Sound cmp m → Sound cmp n → Gains (before (place_order cmp)) m.contents n.contents p i v → values_in n p.partition ≡ values_in m p.partition + 1
    gains-values m n p i v sm sn d =
        amount-put o (in_part p.partition) m.contents n.contents p i v sm.rising sn.rising d
        ∙ ap (λ b. values_in m p.partition + cond b 1 0) (eq-eqb p.partition p.partition refl)

    pub appended_more : (m n k : Meaning K V) (p : Place K) (i : ℕ) (xs : List V) (v : V) → Appended cmp m n p xs → Sound cmp n → Sound cmp k → PutDone cmp n k p i v → i ≡ length (run_at cmp n p) → Appended cmp m k p (xs ++ (v ∷ []))
    appended_more m n k p i xs v a sn sk d e =
        let len : length (xs ++ (v ∷ [])) ≡ length xs + 1 = length-append xs (v ∷ []) in
        record {
          here = d.gains.here ∙ ap (λ j. insert (run_at cmp n p) j v) e ∙ insert-end (run_at cmp n p) v ∙ ap (λ ys. ys ++ (v ∷ [])) a.here ∙ append_assoc (run_at cmp m p) xs (v ∷ []);
          there = λ x h. d.gains.there x h ∙ a.there x h;
          falls = omega (arith, a.falls, d.falls, len);
          values = omega (arith, a.values, gains-values n k p i v sn sk d.gains, len);
          same_partitions = d.same_partitions ∙ a.same_partitions;
          same_assured = d.same_assured ∙ a.same_assured;
        }

-- from windows m and a side n to windows m1 and a side n1: some runs of partition q have moved
pub record Moving {K V : Type 0} (cmp : K → K → Ordering) (m n m1 n1 : Meaning K V) (q : ℕ) : Type 0 where
  pub joined : (x : Place K) → x.partition ≡ q → run_at cmp n1 x ++ run_at cmp m1 x ≡ run_at cmp m x
  pub values : values_in n1 q + values_in m1 q ≡ values_in m q
  pub falls : n.space q ≤ n1.space q + values_in n1 q
  pub windows_apart : Apart cmp m m1 q
  pub side_apart : Apart cmp n n1 q

module _ {K V : Type 0} (cmp : K → K → Ordering) where
  apart_none : (m : Meaning K V) (q : ℕ) → Apart cmp m m q
  apart_none m q = record { runs = λ x d. refl; same_partitions = refl; same_assured = refl }

  module _ (o : Total (before (place_order cmp))) where
    -- a partition with no values has no runs
    pub bare : (m : Meaning K V) (q : ℕ) (x : Place K) → values_in m q ≡ 0 → x.partition ≡ q → run_at cmp m x ≡ []
    bare m q x z e = no_run o (in_part q) m.contents x z (eq-eqb x.partition q e)

    -- a run has no more values than its partition
    pub run-within : (m : Meaning K V) (q : ℕ) (x : Place K) → x.partition ≡ q → length (run_at cmp m x) ≤ values_in m q
    run-within m q x e = run-amount o (in_part q) m.contents x (eq-eqb x.partition q e)

    -- the first place of a partition is in it, and has a run
    pub first-place : (m : Meaning K V) (q : ℕ) (p : Place K) → Some p ≡ first_in cmp m q → (p.partition ≡ q) × (0 < length (run_at cmp m p))
    first-place m q p e = let h = first-held o (in_part q) m.contents p (sym e) in (eqb-true p.partition q h.0, h.1)

    -- where there is none, the partition has no values
    pub no_place : (m : Meaning K V) (q : ℕ) → None ≡ first_in cmp m q → values_in m q ≡ 0
    no_place m q e = no_first (in_part q) m.contents (sym e)

    pub moving_none : (m n : Meaning K V) (q : ℕ) → values_in n q ≡ 0 → Moving cmp m n m n q
    moving_none m n q z = record {
      joined = λ x e. ap (λ xs. xs ++ run_at cmp m x) (bare n q x z e);
      values = omega arith;
      falls = omega arith;
      windows_apart = apart_none m q;
      side_apart = apart_none n q;
    }

    -- what a run removed takes from its partition
    pub clears-values : (m n : Meaning K V) (p : Place K) → Sound cmp m → Sound cmp n → Clears (before (place_order cmp)) m.contents n.contents p → values_in m p.partition ≡ values_in n p.partition + length (run_at cmp m p)
    clears-values m n p sm sn d =
        amount-clear o (in_part p.partition) m.contents n.contents p sm.rising sn.rising d
        ∙ ap (λ b. values_in n p.partition + cond b (length (run_at cmp m p)) 0) (eq-eqb p.partition p.partition refl)

    pub moving_more : (m n m1 n1 m2 n2 : Meaning K V) (p : Place K) → Moving cmp m n m1 n1 p.partition → Sound cmp m1 → Sound cmp m2 → Appended cmp n1 n2 p (run_at cmp m1 p) → Removed cmp m1 m2 p → Moving cmp m n m2 n2 p.partition
    moving_more m n m1 n1 m2 n2 p v s1 s2 a r =
        let less = clears-values m1 m2 p s1 s2 r.clears in
        let off : (x : Place K) → (x.partition ≡ p.partition → ⊥) → x ≡ p → ⊥ = λ x d e. d (ap (λ y. y.partition) e) in
        record {
          joined = λ x e.
              ⊎_elim
              (λ z.
              subst (λ y. run_at cmp n2 y ++ run_at cmp m2 y ≡ run_at cmp m y) (sym z)
              (ap (λ ys. run_at cmp n2 p ++ ys) r.clears.here ∙ append-nil (run_at cmp n2 p) ∙ a.here ∙ v.joined p refl))
              (λ d. ap (λ ys. ys ++ run_at cmp m2 x) (a.there x d) ∙ ap (λ ys. run_at cmp n1 x ++ ys) (r.clears.there x d) ∙ v.joined x e)
              (decide o x p);
          values = omega (arith, v.values, a.values, less);
          falls = omega (arith, v.falls, a.falls, a.values);
          windows_apart = record {
            runs = λ x d. r.clears.there x (off x d) ∙ v.windows_apart.runs x d;
            same_partitions = r.same_partitions ∙ v.windows_apart.same_partitions;
            same_assured = r.same_assured ∙ v.windows_apart.same_assured;
          };
          side_apart = record {
            runs = λ x d. a.there x (off x d) ∙ v.side_apart.runs x d;
            same_partitions = a.same_partitions ∙ v.side_apart.same_partitions;
            same_assured = a.same_assured ∙ v.side_apart.same_assured;
          };
        }

    -- one turn of the loop
    pub moving_turn : (m n m1 n1 m2 n2 : Meaning K V) (p : Place K) (q : ℕ) → p.partition ≡ q → 0 < length (run_at cmp m1 p) → Moving cmp m n m1 n1 q → Sound cmp m1 → Sound cmp m2 → Appended cmp n1 n2 p (run_at cmp m1 p) → Removed cmp m1 m2 p → Moving cmp m n m2 n2 q × (values_in m2 q < values_in m1 q)
    moving_turn m n m1 n1 m2 n2 p q e pos v s1 s2 a r =
        subst (λ x. Moving cmp m n m1 n1 x → Moving cmp m n m2 n2 x × (values_in m2 x < values_in m1 x)) e
        (λ u. (moving_more m n m1 n1 m2 n2 p u s1 s2 a r, omega (arith, clears-values m1 m2 p s1 s2 r.clears))) v

    pub moving_all : (m n m1 n1 : Meaning K V) (q : ℕ) → Moving cmp m n m1 n1 q → values_in m1 q ≡ 0 → Moved cmp m n m1 n1 q
    moving_all m n m1 n1 q v z =
        let gone : (x : Place K) → x.partition ≡ q → run_at cmp m1 x ≡ [] = λ x e. bare m1 q x z e in
        record {
          here = λ x e. sym (append-nil (run_at cmp n1 x)) ∙ ap (λ ys. run_at cmp n1 x ++ ys) (sym (gone x e)) ∙ v.joined x e;
          gone = gone;
          falls = omega (arith, v.falls, v.values, z);
          windows_apart = v.windows_apart;
          side_apart = v.side_apart;
        }
