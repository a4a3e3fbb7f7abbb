-- A walk ends: fewer places come after the next one than after this one. Assumes nothing.
use Rattle.std.proofs.Common.{◌≡◌, ℕ, ◌+◌, ◌<◌, ◌≤◌, Bool, true, false, cond, List, [], ◌∷◌, Some, None, Option, Ordering, sym, refl, ap, ◌∙◌, ⊎_elim, true≢false, arith}
use Rattle.std.proofs.lemmas.Bool.{cases_Bool}
use Rattle.keys.specs.Order.{Lawful, Total, before}
use Rattle.keys.specs.Orders.{place_order}
use Rattle.keys.specs.Laws.{places_lawful}
use Rattle.keys.specs.declared.place.Place.{Place}
use Rattle.keys.proofs.Tests.{total}
use Rattle.contents.specs.Sorted.{count}
use Rattle.contents.specs.Entries.{Entry, places, first_that}
use Rattle.contents.proofs.Amounts.{first-held}

-- how many places a walk has still to go to, from the next one on
abbrev pub left : {P : Type 0} → (P → P → Bool) → List P → Option P → ℕ
left lt ps None = 0
left lt ps (Some p) = count (lt p) ps + 1

-- one place in front, which passes the second test only where it passes the first
no_more : (a b : Bool) (m n : ℕ) → (b ≡ true → a ≡ true) → m ≤ n → cond b 1 0 + m ≤ cond a 1 0 + n
no_more true true m n f h = omega arith
no_more true false m n f h = omega arith
no_more false true m n f h = absurd (true≢false (sym (f refl)))
no_more false false m n f h = omega arith

module _ {P : Type 0} {lt : P → P → Bool} (o : Total lt) (p q : P) (after : lt p q ≡ true) where
  fewer : (ps : List P) → count (lt q) ps ≤ count (lt p) ps
  fewer [] = omega arith
  fewer (x ∷ ps) = no_more (lt p x) (lt q x) (count (lt q) ps) (count (lt p) ps) (o.trans p q x after) (fewer ps)

  further : (ps : List P) → first_that (lt p) ps ≡ Some q → count (lt q) ps < count (lt p) ps
  further [] e = let no : ◌≡◌ {A = ℕ} 0 1 = cc in absurd (omega arith)
  further (x ∷ ps) e =
      ⊎_elim
      (λ b.
      let at : Some x ≡ Some q = sym (ap (λ b. cond b (Some x) (first_that (lt p) ps)) b) ∙ e in
      let is : x ≡ q = cc in
      let no = ap (λ y. cond (lt q y) 1 0 + count (lt q) ps) is ∙ ap (λ b. cond b 1 0 + count (lt q) ps) (o.irrefl q) in
      let yes = ap (λ b. cond b 1 0 + count (lt p) ps) b in
      omega (arith, fewer ps))
      (λ b.
      let rest = further ps (sym (ap (λ b. cond b (Some x) (first_that (lt p) ps)) b) ∙ e) in
      omega (arith, no_more (lt p x) (lt q x) (count (lt q) ps + 1) (count (lt p) ps) (o.trans p q x after) (omega arith)))
      (cases_Bool (lt p x))

pub walk_ends : {K V : Type 0} {cmp : K → K → Ordering} → Lawful cmp → (es : List (Entry (Place K) V)) (p : Place K) (r : Option (Place K)) → r ≡ first_that (before (place_order cmp) p) (places es) → left (before (place_order cmp)) (places es) r < left (before (place_order cmp)) (places es) (Some p)
walk_ends l es p None e = omega arith
walk_ends {K} {V} {cmp} l es p (Some q) e =
    let o = total (places_lawful cmp l) in
    let f = first-held o (before (place_order cmp) p) es q (sym e) in
    omega (arith, further o p q f.0 (places es) (sym e))
