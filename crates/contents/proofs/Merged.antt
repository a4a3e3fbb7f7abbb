-- Two contents together. Assumes nothing.
use Rattle.std.proofs.Common.{◌≡◌, ◌+◌, Bool, true, false, cond, List, [], ◌∷◌, ◌++◌, sym, refl, ap, ◌∙◌, subst, ⊎_elim, zero-le, arith}
use Rattle.std.specs.List.{insert}
use Rattle.std.proofs.lemmas.Bool.{cases_Bool, both_ways}
use Rattle.keys.specs.Order.{Total}
use Rattle.contents.specs.Sorted.{below}
use Rattle.contents.specs.Changes.{Gains}
use Rattle.contents.specs.Entries.{Entry, places, Rising, same, run, items, amount, placed, merged}
use Rattle.contents.proofs.Laws.{length-in, skip, hold, same_self, same-is, gains, rising-in}
use Rattle.contents.proofs.Amounts.{amount-in}

module _ {P V : Type 0} {lt : P → P → Bool} (o : Total lt) where
  rising-placed : (e : Entry P V) (es : List (Entry P V)) → Rising lt es → Rising lt (placed lt e es)
  rising-placed e es u =
      let z : below lt (places es) e.place + 0 ≡ below lt (places es) e.place = omega arith in
      subst (λ n. Rising lt (insert es n e)) z (rising-in o es e.place 0 e.value u zero-le)

  run-placed : (e : Entry P V) (es : List (Entry P V)) → Rising lt es → (p : P) → run lt (placed lt e es) p ≡ run lt (e ∷ es) p
  run-placed e es u p =
      let z : below lt (places es) e.place + 0 ≡ below lt (places es) e.place = omega arith in
      let g : Gains lt es (placed lt e es) e.place 0 e.value = subst (λ n. Gains lt es (insert es n e) e.place 0 e.value) z (gains o es e.place 0 e.value u zero-le) in
      ⊎_elim
      (λ s. let at = same-is o e.place p s in subst (λ q. run lt (placed lt e es) q ≡ e.value ∷ run lt es q) at g.here ∙ sym (hold o e es p s))
      (λ s. g.there p (λ x. both_ways (same lt e.place p) s (ap (same lt e.place) x ∙ same_self o e.place)) ∙ sym (skip o e es p s))
      (cases_Bool (same lt e.place p))

  pub rising-merged : (es fs : List (Entry P V)) → Rising lt fs → Rising lt (merged lt es fs)
  rising-merged [] fs w = w
  rising-merged (e ∷ es) fs w = rising-placed e (merged lt es fs) (rising-merged es fs w)

  cond-append : (b : Bool) (v : V) (xs ys : List V) → cond b (v ∷ (xs ++ ys)) (xs ++ ys) ≡ cond b (v ∷ xs) xs ++ ys
  cond-append true v xs ys = refl
  cond-append false v xs ys = refl

  pub run-merged : (es fs : List (Entry P V)) → Rising lt fs → (p : P) → run lt (merged lt es fs) p ≡ run lt es p ++ run lt fs p
  run-merged [] fs w p = refl
  run-merged (e ∷ es) fs w p =
      run-placed e (merged lt es fs) (rising-merged es fs w) p
      ∙ ap (λ xs. cond (same lt e.place p) (e.value ∷ xs) xs) (run-merged es fs w p)
      ∙ cond-append (same lt e.place p) e.value (run lt es p) (run lt fs p)

  pub items-merged : (es fs : List (Entry P V)) → items (merged lt es fs) ≡ items es + items fs
  items-merged [] fs = omega arith
  items-merged (e ∷ es) fs = omega (arith, length-in (below lt (places (merged lt es fs)) e.place) (merged lt es fs) e, items-merged es fs)

  pub amount-merged : (t : P → Bool) (es fs : List (Entry P V)) → amount t (merged lt es fs) ≡ amount t es + amount t fs
  amount-merged t [] fs = omega arith
  amount-merged t (e ∷ es) fs = omega (arith, amount-in t (below lt (places (merged lt es fs)) e.place) (merged lt es fs) e, amount-merged t es fs)
