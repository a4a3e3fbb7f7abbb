-- A pile's meaning by whether it is live, and its reads. Assumes nothing.
use Rattle.std.proofs.Common.{◌≡◌, ℕ, Bool, true, false, ◌&&◌, eqb, List, [], ◌∷◌, length, Ordering, sym, refl, ◌∙◌, true≢false, arith}
use Rattle.std.proofs.lemmas.Bool.{eqb-true, and_parts, ne_eqb}
use Rattle.keys.specs.Order.{Total, before}
use Rattle.keys.specs.Orders.{place_order}
use Rattle.keys.specs.declared.place.Place.{Place}
use Rattle.contents.specs.Entries.{Entry, merged, none}
use Rattle.contents.proofs.Amounts.{first-same, last-same}
use Rattle.contents.proofs.Merged.{rising-merged, items-merged}
use Rattle.store.specs.Meaning.{Meaning, Sound, in_part, run_at, first_in, last_in, next_in, previous_in, void}
use Rattle.joint.specs.Piled.{joint, live_or_void}

none-length : {X : Type 0} (xs : List X) → none xs ≡ eqb (length xs) 0
none-length [] = refl
none-length (x ∷ xs) = sym (ne_eqb (length (x ∷ xs)) 0 (λ e. omega arith))

module _ {K V : Type 0} (cmp : K → K → Ordering) where
  pub live-is : (b : Bool) (m n : Meaning K V) → b ≡ true → joint cmp m n ≡ live_or_void cmp b m n
  live-is true m n e = refl
  live-is false m n e = absurd (true≢false (sym e))

  pub void-is : (b : Bool) (m n : Meaning K V) → b ≡ false → void ≡ live_or_void cmp b m n
  void-is true m n e = absurd (true≢false e)
  void-is false m n e = refl

  -- what holds of the joint meanings holds of a live pile's
  pub lift : (P : Meaning K V → Meaning K V → Type 0) (a b : Bool) (m n m1 n1 : Meaning K V) → a ≡ true → b ≡ a → P (joint cmp m n) (joint cmp m1 n1) → P (live_or_void cmp a m n) (live_or_void cmp b m1 n1)
  lift P true true m n m1 n1 e f d = d
  lift P true false m n m1 n1 e f d = absurd (true≢false (sym f))
  lift P false b m n m1 n1 e f d = absurd (true≢false (sym e))

  pub lift_void : (P : Meaning K V → Meaning K V → Type 0) (a : Bool) (m n : Meaning K V) → a ≡ false → P void void → P (live_or_void cmp a m n) (live_or_void cmp a m n)
  lift_void P true m n e d = absurd (true≢false e)
  lift_void P false m n e d = d

  module _ (o : Total (before (place_order cmp))) where
    -- ---- the places of a partition k that has the runs of the pile

    module _ (m n k : Meaning K V) (q : ℕ) (sn : Sound cmp n) (sk : Sound cmp k) (h : (x : Place K) → x.partition ≡ q → run_at cmp (joint cmp m n) x ≡ run_at cmp k x) where
      pub first-joint : first_in cmp k q ≡ first_in cmp (joint cmp m n) q
      first-joint =
          first-same o (in_part q) k.contents (joint cmp m n).contents sk.rising (rising-merged o m.contents n.contents sn.rising)
          (λ x t. sym (h x (eqb-true x.partition q t)))

      pub last-joint : last_in cmp k q ≡ last_in cmp (joint cmp m n) q
      last-joint =
          last-same o (in_part q) k.contents (joint cmp m n).contents sk.rising (rising-merged o m.contents n.contents sn.rising)
          (λ x t. sym (h x (eqb-true x.partition q t)))

    module _ (m n k : Meaning K V) (p : Place K) (sn : Sound cmp n) (sk : Sound cmp k) (h : (x : Place K) → x.partition ≡ p.partition → run_at cmp (joint cmp m n) x ≡ run_at cmp k x) where
      pub next-joint : next_in cmp k p ≡ next_in cmp (joint cmp m n) p
      next-joint =
          first-same o (λ x. in_part p.partition x && before (place_order cmp) p x) k.contents (joint cmp m n).contents sk.rising (rising-merged o m.contents n.contents sn.rising)
          (λ x t. sym (h x (eqb-true x.partition p.partition (and_parts (in_part p.partition x) (before (place_order cmp) p x) t).0)))

      pub previous-joint : previous_in cmp k p ≡ previous_in cmp (joint cmp m n) p
      previous-joint =
          last-same o (λ x. in_part p.partition x && before (place_order cmp) x p) k.contents (joint cmp m n).contents sk.rising (rising-merged o m.contents n.contents sn.rising)
          (λ x t. sym (h x (eqb-true x.partition p.partition (and_parts (in_part p.partition x) (before (place_order cmp) x p) t).0)))

    -- ---- whether a pile is empty

    pub none-joint : (m n : Meaning K V) → none (joint cmp m n).contents ≡ (none m.contents && none n.contents)
    none-joint m n = both m.contents n.contents
      where
        both : (es fs : List (Entry (Place K) V)) → none (merged (before (place_order cmp)) es fs) ≡ (none es && none fs)
        both [] fs = refl
        both (e ∷ es) fs =
            none-length (merged (before (place_order cmp)) (e ∷ es) fs)
            ∙ ne_eqb (length (merged (before (place_order cmp)) (e ∷ es) fs)) 0 (λ z. omega (arith, items-merged o (e ∷ es) fs))
