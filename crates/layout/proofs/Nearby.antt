-- The first, the last, the next and the previous of sorted keys, by their index. Assumes nothing.
use Rattle.std.proofs.Common.{◌≡◌, ℕ, ◌-◌, ◌<◌, ◌≤◌, Bool, true, false, eqb, List, [], ◌∷◌, length, get_or, Some, None, Option, ap, sym, refl, ◌∙◌, ⊎_elim, arith}
use Rattle.std.specs.List.{slice_get}
use Rattle.std.specs.Option.{option_map}
use Rattle.std.specs.Slice.{IsItemAt}
use Rattle.std.specs.Borrow.{Bor}
use Rattle.std.proofs.lemmas.Option.{slice_get_past, slice_get-get_or}
use Rattle.std.proofs.lemmas.Bool.{cases_lt, cases_eq, cond-true, cond-false, eq-eqb, ne_eqb, not-true, not-false}
use Rattle.keys.specs.Order.{Total}
use Rattle.contents.specs.Sorted.{Sorted, below, upto}
use Rattle.contents.specs.Entries.{first_that, last_that}
use Rattle.contents.proofs.Bounds.{below_parts, upto-parts}
use Rattle.arrays.proofs.Chosen.{first-none, first-at, last_none, last-at}
use Rattle.layout.specs.Windows.{ahead}

module _ {X : Type 0} where
  -- what a slice's `get` lends, copied
  pub copied-is : (xs : List X) (i : ℕ) (r : Option (Bor X)) → IsItemAt xs i r → option_map (λ x. x.now) r ≡ slice_get xs i
  copied-is xs i None h = sym (slice_get_past xs i h.3)
  copied-is xs i (Some x) h = ap Some (h.3.1 x.now) ∙ sym (slice_get-get_or xs i x.now h.3.0)

  ahead_none : (xs : List X) (i : ℕ) → i ≡ 0 → ahead xs i ≡ None
  ahead_none xs i e = cond-true (eqb i 0) None (slice_get xs (i - 1)) (eq-eqb i 0 e)

  ahead-some : (xs : List X) (i : ℕ) (d : X) → 0 < i → i ≤ length xs → ahead xs i ≡ Some (get_or xs (i - 1) d)
  ahead-some xs i d p l = cond-false (eqb i 0) None (slice_get xs (i - 1)) (ne_eqb i 0 (λ e. omega arith)) ∙ slice_get-get_or xs (i - 1) d (omega arith)

  pub first-nth : (xs : List X) → slice_get xs 0 ≡ first_that (λ _. true) xs
  first-nth [] = refl
  first-nth (x ∷ xs) = refl

  pub last-nth : (xs : List X) → ahead xs (length xs) ≡ last_that (λ _. true) xs
  last-nth [] = ahead_none [] 0 refl ∙ sym (last_none (λ _. true) [] (λ k d l. absurd (omega arith)))
  last-nth (x ∷ xs) =
      let n : ℕ = length xs in
      ahead-some (x ∷ xs) (length (x ∷ xs)) x (omega arith) (omega arith)
      ∙ sym (last-at (λ _. true) (x ∷ xs) (length (x ∷ xs) - 1) x (omega arith) (λ k d a b. absurd (omega arith)) refl)

module _ {K : Type 0} {lt : K → K → Bool} (o : Total lt) (ks : List K) (up : Sorted lt ks) (key : K) where
  pub next-nth : slice_get ks (upto lt ks key) ≡ first_that (λ x. lt key x) ks
  next-nth =
      let ps = upto-parts o ks key up in
      let i : ℕ = upto lt ks key in
      let low : (k : ℕ) (d : K) → k < upto lt ks key → lt key (get_or ks k d) ≡ false = λ k d m. not-true (lt key (get_or ks k d)) (ps.before k d m) in
      ⊎_elim
      (λ h. slice_get-get_or ks i key h ∙ sym (first-at (λ x. lt key x) ks i key h low (not-false (lt key (get_or ks i key)) (ps.after i key (omega arith) h))))
      (λ h. slice_get_past ks i h ∙ sym (first-none (λ x. lt key x) ks (λ k d l. low k d (omega arith))))
      (cases_lt i (length ks))

  pub prev_nth : ahead ks (below lt ks key) ≡ last_that (λ x. lt x key) ks
  prev_nth =
      let ps = below_parts o ks key up in
      let w = ps.within in
      let i : ℕ = below lt ks key in
      ⊎_elim
      (λ z. ahead_none ks i z ∙ sym (last_none (λ x. lt x key) ks (λ k d l. ps.after k d (omega arith) l)))
      (λ ne.
      let pos : 0 < below lt ks key = omega arith in
      ahead-some ks i key pos w
      ∙ sym (last-at (λ x. lt x key) ks (i - 1) key (omega arith) (λ k d a b. ps.after k d (omega arith) b) (ps.before (i - 1) key (omega arith))))
      (cases_eq i 0)
