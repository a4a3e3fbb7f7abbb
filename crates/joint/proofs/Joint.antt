-- What a live pile means, by where a partition is. Assumes nothing.
use Rattle.std.proofs.Common.{◌≡◌, ℕ, ◌-◌, ◌<◌, ◌≤◌, max, Bool, true, false, eqb, ◌⊎◌, [], ◌++◌, Ordering, refl, ap, ◌∙◌, subst, inl, inr, ⊎_elim, append-nil, arith}
use Rattle.std.proofs.lemmas.Bool.{cases_eq, eq-eqb, ne_eqb, cond-true, cond-false}
use Rattle.keys.specs.Order.{Total, before}
use Rattle.keys.specs.Orders.{place_order}
use Rattle.keys.specs.declared.place.Place.{Place}
use Rattle.contents.proofs.Amounts.{amount-fits}
use Rattle.contents.proofs.Merged.{rising-merged, run-merged, items-merged}
use Rattle.store.specs.Meaning.{Meaning, Sound, in_part, values_in, run_at}
use Rattle.moves.proofs.Steps.{bare}
use Rattle.joint.specs.Piled.{joint, live_or_void, Apiece, Known}

pub either : (n : ℕ) → (n ≡ 0) ⊎ (0 < n)
either n = ⊎_elim (λ e. inl e) (λ d. inr (omega arith)) (cases_eq n 0)

module _ {K V : Type 0} (cmp : K → K → Ordering) where
  pub space-windows : (m n : Meaning K V) (q : ℕ) → values_in n q ≡ 0 → (joint cmp m n).space q ≡ max (m.space q) (n.space q - values_in m q)
  space-windows m n q z = cond-true (eqb (values_in n q) 0) (max (m.space q) (n.space q - values_in m q)) (n.space q) (eq-eqb (values_in n q) 0 z)

  pub space-side : (m n : Meaning K V) (q : ℕ) → 0 < values_in n q → (joint cmp m n).space q ≡ n.space q
  space-side m n q h = cond-false (eqb (values_in n q) 0) (max (m.space q) (n.space q - values_in m q)) (n.space q) (ne_eqb (values_in n q) 0 (λ e. omega arith))

  -- where the windows have none of a partition, its space is at least the side's
  pub space-least : (m n : Meaning K V) (q : ℕ) → values_in m q ≡ 0 → n.space q ≤ (joint cmp m n).space q
  space-least m n q z =
      ⊎_elim (λ e. omega (arith, space-windows m n q e)) (λ h. omega (arith, space-side m n q h)) (either (values_in n q))

  module _ (o : Total (before (place_order cmp))) where
    pub joint-run : (m n : Meaning K V) → Sound cmp n → (x : Place K) → run_at cmp (joint cmp m n) x ≡ run_at cmp m x ++ run_at cmp n x
    joint-run m n sn x = run-merged o m.contents n.contents sn.rising x

    -- a run of a partition that is in the windows
    pub run-windows : (m n : Meaning K V) → Sound cmp n → (q : ℕ) → values_in n q ≡ 0 → (x : Place K) → x.partition ≡ q → run_at cmp (joint cmp m n) x ≡ run_at cmp m x
    run-windows m n sn q z x e =
        joint-run m n sn x ∙ ap (λ ys. run_at cmp m x ++ ys) (bare cmp o n q x z e) ∙ append-nil (run_at cmp m x)

    -- and of one that is not
    pub run-side : (m n : Meaning K V) → Sound cmp n → (q : ℕ) → values_in m q ≡ 0 → (x : Place K) → x.partition ≡ q → run_at cmp (joint cmp m n) x ≡ run_at cmp n x
    run-side m n sn q z x e = joint-run m n sn x ∙ ap (λ ys. ys ++ run_at cmp n x) (bare cmp o m q x z e)

    pub joint-sound : (m n : Meaning K V) → Known cmp m n → Apiece m n → Sound cmp (joint cmp m n)
    joint-sound m n k a =
        let sm = k.windows in
        let sn = k.side in
        record {
          rising = rising-merged o m.contents n.contents sn.rising;
          inside = λ p h.
              joint-run m n sn p ∙ ap (λ ys. run_at cmp m p ++ ys) (sn.inside p h)
              ∙ ap (λ ys. ys ++ []) (sm.inside p (subst (λ x. x ≤ p.partition) a.same h));
          outside = λ q h.
              let x = sn.outside q h in
              let y = sm.outside q (subst (λ x. x ≤ q) a.same h) in
              ⊎_elim (λ e. omega (arith, space-windows m n q e)) (λ e. omega (arith, space-side m n q e)) (either (values_in n q));
          kept = λ q h.
              let x = sn.kept q h in
              let y = items-merged o m.contents n.contents in
              let z = amount-fits (in_part q) m.contents in
              ⊎_elim (λ e. omega (arith, space-windows m n q e)) (λ e. omega (arith, space-side m n q e)) (either (values_in n q));
          space_fits = λ q.
              let x = sn.space_fits q in
              let y = sm.space_fits q in
              ⊎_elim (λ e. omega (arith, space-windows m n q e)) (λ e. omega (arith, space-side m n q e)) (either (values_in n q));
          assured_fits = sn.assured_fits;
        }

    -- a pile is sound, live or not
    pub pile_sound : (b : Bool) (m n : Meaning K V) → Known cmp m n → (b ≡ true → Apiece m n) → Sound cmp (live_or_void cmp b m n)
    pile_sound true m n k a = joint-sound m n k (a refl)
    pile_sound false m n k a = record {
      rising = λ i j d x y. absurd (omega arith);
      inside = λ p h. refl;
      outside = λ q h. refl;
      kept = λ q h. omega arith;
      space_fits = λ q. omega arith;
      assured_fits = omega arith;
    }
