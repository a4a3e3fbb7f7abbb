-- What holds of a table's cells makes its meaning sound. Assumes nothing.
use Rattle.std.proofs.Common.{◌≡◌, ℕ, ◌-◌, ◌<◌, ◌≤◌, List, length, take, sym, refl, ◌∙◌, ⊎_elim, arith}
use Rattle.std.proofs.lemmas.List.{length-take-le, nil_from_length}
use Rattle.std.proofs.lemmas.Bool.{cond_below, cond_above, cases_lt}
use Rattle.std.specs.declared.cmp.Ordering.{Ordering}
use Rattle.keys.specs.declared.place.Place.{Place}
use Rattle.contents.proofs.Alongside.{length-entries}
use Rattle.store.specs.Meaning.{Sound, run_at}
use Rattle.side.specs.Table.{live, side_meaning, Sorts}

module _ {K V : Type 0} {cmp : K → K → Ordering} (ks : List (Place K)) (vs : List V) (cells n parts : ℕ) (b : Sorts cmp ks vs cells n parts) where
  counted : length (live ks vs n) ≡ n
  counted =
      let a = b.few in
      let x = b.keys_fit in
      let y = b.values_fit in
      let z = length-take-le n ks (omega arith) in
      length-entries (take n ks) (take n vs) (z ∙ sym (length-take-le n vs (omega arith))) ∙ z

  space-in : (q : ℕ) → q < parts → (side_meaning ks vs cells n parts).space q ≡ cells - n
  space-in q h = sym (cond_below q parts (cells - n) 0 h)

  space-out : (q : ℕ) → parts ≤ q → (side_meaning ks vs cells n parts).space q ≡ 0
  space-out q h = sym (cond_above q parts (cells - n) 0 0 h refl)

  pub sound : Sound cmp (side_meaning ks vs cells n parts)
  sound =
      let f = b.bound in
      record {
        rising = b.rising;
        inside = λ p h. nil_from_length (run_at cmp (side_meaning ks vs cells n parts) p) (b.inside p h);
        outside = space-out;
        kept = λ q h. let e = space-in q h in let m = counted in let w = b.few in omega arith;
        space_fits = λ q. ⊎_elim (λ h. let e = space-in q h in omega arith) (λ h. let e = space-out q h in omega arith) (cases_lt q parts);
        assured_fits = omega arith;
      }
