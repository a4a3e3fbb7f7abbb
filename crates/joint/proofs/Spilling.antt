-- What a move of a partition to the side leaves of a live pile. Assumes nothing.
use Rattle.std.proofs.Common.{◌≡◌, ℕ, ◌+◌, ◌%◌, ◌^◌, ◌<◌, ◌≤◌, Bool, true, false, cond, ◌&&◌, eqb, leb, [], ◌++◌, Ordering, sym, refl, ap, ◌∙◌, subst, ⊎_elim, arith}
use Rattle.std.proofs.lemmas.Bool.{cases_eq, cases_lt, eqb-true, eq-eqb, ne_eqb, le-leb, lt-leb, both_ways}
use Rattle.keys.specs.Order.{Total, before}
use Rattle.keys.specs.Orders.{place_order}
use Rattle.keys.specs.declared.place.Place.{Place}
use Rattle.contents.specs.Sorted.{Sorted}
use Rattle.contents.specs.Changes.{Gains}
use Rattle.contents.proofs.Laws.{extensional}
use Rattle.contents.proofs.Amounts.{amount-same}
use Rattle.contents.proofs.Merged.{rising-merged}
use Rattle.store.specs.Meaning.{Meaning, Sound, Windows, PutDone, in_part, values_in, run_at}
use Rattle.moves.specs.Moving.{Apart, Moved}
use Rattle.moves.proofs.Steps.{gains-values}
use Rattle.joint.specs.Piled.{joint, Apiece, spilled, Counted, Known}
use Rattle.joint.proofs.Joint.{either, space-windows, space-side, space-least, joint-run, run-windows, run-side}
use Rattle.joint.proofs.Changes.{apiece-from}

-- equal contents, and no less space at q
pub record Same {K V : Type 0} (a b : Meaning K V) (q : ℕ) : Type 0 where
  pub same_contents : b.contents ≡ a.contents
  pub same_partitions : b.partitions ≡ a.partitions
  pub same_assured : b.assured ≡ a.assured
  pub space_kept : a.space q ≤ b.space q

rising_none : {P : Type 0} (lt : P → P → Bool) → Sorted lt []
rising_none lt = λ i j d a b. absurd (omega arith)

module _ {K V : Type 0} (cmp : K → K → Ordering) where
  pub put_same : (a b c : Meaning K V) (p : Place K) (i : ℕ) (v : V) → PutDone cmp a b p i v → Same b c p.partition → PutDone cmp a c p i v
  put_same a b c p i v d s = record {
    had_space = d.had_space;
    gains = subst (λ es. Gains (before (place_order cmp)) a.contents es p i v) (sym s.same_contents) d.gains;
    falls = omega (arith, d.falls, s.space_kept);
    same_partitions = s.same_partitions ∙ d.same_partitions;
    same_assured = s.same_assured ∙ d.same_assured;
  }

  pub same-put : (a b c : Meaning K V) (p : Place K) (i : ℕ) (v : V) → 0 < a.space p.partition → Same a b p.partition → PutDone cmp b c p i v → PutDone cmp a c p i v
  same-put a b c p i v h s d = record {
    had_space = h;
    gains = subst (λ es. Gains (before (place_order cmp)) es c.contents p i v) s.same_contents d.gains;
    falls = omega (arith, d.falls, s.space_kept);
    same_partitions = d.same_partitions ∙ s.same_partitions;
    same_assured = d.same_assured ∙ s.same_assured;
  }

  module _ (o : Total (before (place_order cmp))) where
    -- what only partition q changes leaves as many values in the others
    apart-values : (m m1 : Meaning K V) (q : ℕ) → Sound cmp m → Sound cmp m1 → Apart cmp m m1 q → (r : ℕ) → (r ≡ q → ⊥) → values_in m1 r ≡ values_in m r
    apart-values m m1 q sm s1 a r ne =
        amount-same o (in_part r) m1.contents m.contents s1.rising sm.rising
        (λ x t. a.runs x (λ e. ne (sym (eqb-true x.partition r t) ∙ e)))

    module _ (m n m1 n1 : Meaning K V) (q : ℕ) (k : Known cmp m n) (k1 : Known cmp m1 n1) (v : Moved cmp m n m1 n1 q) where
      pub gone-values : values_in m1 q ≡ 0
      gone-values =
          amount-same o (in_part q) m1.contents [] k1.windows.rising (rising_none (before (place_order cmp)))
          (λ x t. v.gone x (eqb-true x.partition q t))

      pub here_values : values_in n1 q ≡ values_in m q
      here_values =
          amount-same o (in_part q) n1.contents m.contents k1.side.rising k.windows.rising
          (λ x t. v.here x (eqb-true x.partition q t))

      pub moved-apiece : Apiece m n → Apiece m1 n1
      moved-apiece a =
          apiece-from m n m1 n1 q a v.side_apart.same_partitions v.windows_apart.same_partitions
          (apart-values m m1 q k.windows k1.windows v.windows_apart) (apart-values n n1 q k.side k1.side v.side_apart) (λ h. gone-values)

      moved-runs : values_in n q ≡ 0 → (x : Place K) → run_at cmp (joint cmp m1 n1) x ≡ run_at cmp (joint cmp m n) x
      moved-runs z x =
          ⊎_elim
          (λ e. run-side cmp o m1 n1 k1.side q gone-values x e ∙ v.here x e ∙ sym (run-windows cmp o m n k.side q z x e))
          (λ d.
          joint-run cmp o m1 n1 k1.side x ∙ ap (λ ys. ys ++ run_at cmp n1 x) (v.windows_apart.runs x d)
          ∙ ap (λ ys. run_at cmp m x ++ ys) (v.side_apart.runs x d) ∙ sym (joint-run cmp o m n k.side x))
          (cases_eq x.partition q)

      -- a move of a partition whose window is full leaves the pile's contents
      pub moved_same : values_in n q ≡ 0 → m.space q ≡ 0 → Same (joint cmp m n) (joint cmp m1 n1) q
      moved_same z f = record {
        same_contents =
            extensional o (joint cmp m1 n1).contents (joint cmp m n).contents (rising-merged o m1.contents n1.contents k1.side.rising)
            (rising-merged o m.contents n.contents k.side.rising) (moved-runs z);
        same_partitions = v.side_apart.same_partitions;
        same_assured = v.side_apart.same_assured;
        space_kept = omega (arith, v.falls, space-windows cmp m n q z, space-least cmp m1 n1 q gone-values);
      }

      -- after it the space there is the side's
      pub moved-space : q < m.partitions → m.space q ≡ 0 → (joint cmp m1 n1).space q ≤ n1.space q
      moved-space h f =
          ⊎_elim
          (λ e.
          let a = k.full q h in
          let b = k1.full q (subst (λ x. q < x) (sym v.windows_apart.same_partitions) h) in
          omega (arith, space-windows cmp m1 n1 q e, here_values, gone-values, v.windows_apart.same_assured, a, b))
          (λ g. omega (arith, space-side cmp m1 n1 q g))
          (either (values_in n1 q))

    -- ---- which partitions exist, and their space

    -- a window's space after a put
    pub window-space : (m k : Meaning K V) (p : Place K) (i : ℕ) (v : V) → Sound cmp m → Windows m → Sound cmp k → Windows k → PutDone cmp m k p i v → m.space p.partition ≡ k.space p.partition + 1
    window-space m k p i v sm wm sk wk d =
        let q = p.partition in
        let l = d.had_space in
        let h : q < m.partitions = ⊎_elim (λ l. l) (λ e. absurd (omega (arith, sm.outside q e))) (cases_lt q m.partitions) in
        let j : q < k.partitions = subst (λ x. q < x) (sym d.same_partitions) h in
        omega (arith, wm q h, wk q j, d.same_assured, gains-values cmp o m k p i v sm sk d.gains)

    module _ (m n : Meaning K V) (q : ℕ) (k : Known cmp m n) (a : Apiece m n) where
      pub exists : 0 < n.space q → q < m.partitions
      exists h = ⊎_elim (λ l. subst (λ x. q < x) a.same l) (λ e. absurd (omega (arith, k.side.outside q e))) (cases_lt q n.partitions)

      -- where the side has more space than a window, a full window's partition has space
      pub full-space : values_in n q ≡ 0 → m.assured < n.space q → 0 < (joint cmp m n).space q
      full-space z h = omega (arith, k.full q (exists (omega arith)), space-windows cmp m n q z)

-- ---- when a put moves a partition

and_none : (b : Bool) → (b && false) ≡ false
and_none true = refl
and_none false = refl

module _ {K V : Type 0} (m n : Meaning K V) (q : ℕ) where
  spilled-at : (a b c d : Bool) → eqb (values_in n q) 0 ≡ a → eqb (m.space q) 1 ≡ b → leb m.assured (n.space q) ≡ c → eqb (m.space q) 0 ≡ d → spilled m n q ≡ (a && cond b c d)
  spilled-at a b c d e f g h =
      ap (λ x. x && cond (eqb (m.space q) 1) (leb m.assured (n.space q)) (eqb (m.space q) 0)) e
      ∙ ap (λ x. a && cond x (leb m.assured (n.space q)) (eqb (m.space q) 0)) f
      ∙ ap (λ x. a && cond b x (eqb (m.space q) 0)) g
      ∙ ap (λ x. a && cond b c x) h

  -- not where the window has more space
  pub no_spill_more : 1 < m.space q → spilled m n q ≡ false
  no_spill_more h = spilled-at (eqb (values_in n q) 0) false (leb m.assured (n.space q)) false refl (ne_eqb (m.space q) 1 (λ e. omega arith)) refl (ne_eqb (m.space q) 0 (λ e. omega arith)) ∙ and_none (eqb (values_in n q) 0)

  -- not where the side has too little
  pub no_spill_small : m.space q ≡ 1 → n.space q < m.assured → spilled m n q ≡ false
  no_spill_small e h = spilled-at (eqb (values_in n q) 0) true false (eqb (m.space q) 0) refl (eq-eqb (m.space q) 1 e) (lt-leb m.assured (n.space q) h) refl ∙ and_none (eqb (values_in n q) 0)

  pub spill_fills : values_in n q ≡ 0 → m.space q ≡ 1 → m.assured ≤ n.space q → spilled m n q ≡ true
  spill_fills z e h = spilled-at true true true (eqb (m.space q) 0) (eq-eqb (values_in n q) 0 z) (eq-eqb (m.space q) 1 e) (le-leb m.assured (n.space q) h) refl

  pub spill_full : values_in n q ≡ 0 → m.space q ≡ 0 → spilled m n q ≡ true
  spill_full z e = spilled-at true false (leb m.assured (n.space q)) true (eq-eqb (values_in n q) 0 z) (ne_eqb (m.space q) 1 (λ f. omega arith)) refl (eq-eqb (m.space q) 0 e)

  pub counted-moved : (n1 : Meaning K V) (a b : ℕ) → spilled m n q ≡ true → b ≡ (a + 1) % 2 ^ 64 → 0 < values_in n1 q → Counted m n n1 q a b
  counted-moved n1 a b t e h = record {
    counted = e ∙ sym (ap (λ x. cond x ((a + 1) % 2 ^ 64) a) t);
    moved = λ s. h;
    stays = λ f z. absurd (both_ways (spilled m n q) f t);
  }

  pub counted-stays : (n1 : Meaning K V) (a : ℕ) → spilled m n q ≡ false → (values_in n q ≡ 0 → n1 ≡ n) → Counted m n n1 q a a
  counted-stays n1 a f h = record {
    counted = sym (ap (λ x. cond x ((a + 1) % 2 ^ 64) a) f);
    moved = λ t. absurd (both_ways (spilled m n q) f t);
    stays = λ s z. h z;
  }
