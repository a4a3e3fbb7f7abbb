-- The first and the last place that pass a test are the least and the greatest that are held, and no other is. Assumes nothing.
use Rattle.std.proofs.Common.{◌≡◌, ◌<◌, ◌≤◌, Bool, true, false, cond, List, [], ◌∷◌, ◌++◌, reverse, length, Some, None, Option, sym, refl, ap, ◌∙◌, subst, ⊎_elim, arith}
use Rattle.std.proofs.lemmas.List.{reverse-append}
use Rattle.std.proofs.lemmas.Bool.{cases_Bool, both_ways}
use Rattle.keys.specs.Order.{Total}
use Rattle.contents.specs.Entries.{Entry, places, Rising, same, run, first_that, last_that}
use Rattle.contents.proofs.Laws.{From, Up, sorted-up, skip, hold, same_self, same-is}
use Rattle.contents.proofs.Amounts.{no_first, no_run, first-held}

-- o is the least place that passes t and is held
abbrev pub Least : {P V : Type 0} → (P → P → Bool) → (P → Bool) → List (Entry P V) → Option P → Type 0
Least {P} lt t es None = (q : P) → t q ≡ true → run lt es q ≡ []
Least {P} lt t es (Some p) = (t p ≡ true) × (0 < length (run lt es p)) × ((q : P) → t q ≡ true → 0 < length (run lt es q) → lt q p ≡ false)

module _ {P V : Type 0} {lt : P → P → Bool} (o : Total lt) (t : P → Bool) where
  from_run : (x : P) (es : List (Entry P V)) (q : P) → From lt x (places es) → 0 < length (run lt es q) → lt q x ≡ false
  from_run x [] q f l = absurd (omega arith)
  from_run x (e ∷ es) q f l =
      ⊎_elim
      (λ s. ap (λ y. lt y x) (sym (same-is o e.place q s)) ∙ f.0)
      (λ s. let n = ap length (skip o e es q s) in from_run x es q f.1 (omega arith))
      (cases_Bool (same lt e.place q))

  lowest : (es : List (Entry P V)) → Up lt (places es) → (p : P) → first_that t (places es) ≡ Some p → (q : P) → t q ≡ true → 0 < length (run lt es q) → lt q p ≡ false
  lowest [] u p z q h l = absurd (omega arith)
  lowest (e ∷ es) u p z q h l =
      ⊎_elim
      (λ b.
      let at : Some e.place ≡ Some p = sym (ap (λ b. cond b (Some e.place) (first_that t (places es))) b) ∙ z in
      let is : e.place ≡ p = cc in
      subst (λ x. lt q x ≡ false) is
      (⊎_elim
      (λ s. ap (λ y. lt y e.place) (sym (same-is o e.place q s)) ∙ o.irrefl e.place)
      (λ s. let n = ap length (skip o e es q s) in from_run e.place es q u.0 (omega arith))
      (cases_Bool (same lt e.place q))))
      (λ b.
      let s : same lt e.place q ≡ false =
      ⊎_elim (λ s. absurd (both_ways (t q) (ap t (sym (same-is o e.place q s)) ∙ b) h)) (λ s. s) (cases_Bool (same lt e.place q)) in
      let n = ap length (skip o e es q s) in
      lowest es u.1 p (sym (ap (λ b. cond b (Some e.place) (first_that t (places es))) b) ∙ z) q h (omega arith))
      (cases_Bool (t e.place))

  first_by : (es : List (Entry P V)) → Rising lt es → (r : Option P) → first_that t (places es) ≡ r → Least lt t es r
  first_by es u None z = λ q h. no_run o t es q (no_first t es z) h
  first_by es u (Some p) z = let f = first-held o t es p z in (f.0, f.1, lowest es (sorted-up lt (places es) u) p z)

  pub least : (es : List (Entry P V)) → Rising lt es → Least lt t es (first_that t (places es))
  least es u = first_by es u (first_that t (places es)) refl

  one-least : (es : List (Entry P V)) (r s : Option P) → Least lt t es r → Least lt t es s → r ≡ s
  one-least es None None a b = refl
  one-least es None (Some p) a b = let n = ap length (a p b.0) in absurd (omega (arith, b.1))
  one-least es (Some p) None a b = let n = ap length (b p a.0) in absurd (omega (arith, a.1))
  one-least es (Some p) (Some q) a b = ap Some (o.total p q (b.2 p a.0 a.1) (a.2 q b.0 b.1))

  pub least-is : (es : List (Entry P V)) → Rising lt es → (r : Option P) → Least lt t es r → r ≡ first_that t (places es)
  least-is es u r h = one-least es r (first_that t (places es)) h (least es u)

-- ---- the other way round

-- o is the greatest place that passes t and is held
abbrev pub Greatest : {P V : Type 0} → (P → P → Bool) → (P → Bool) → List (Entry P V) → Option P → Type 0
Greatest {P} lt t es None = (q : P) → t q ≡ true → run lt es q ≡ []
Greatest {P} lt t es (Some p) = (t p ≡ true) × (0 < length (run lt es p)) × ((q : P) → t q ≡ true → 0 < length (run lt es q) → lt p q ≡ false)

or_else : {P : Type 0} → Option P → Option P → Option P
or_else (Some p) r = Some p
or_else None r = r

or_cond : {P : Type 0} (b : Bool) (p : P) (x y : Option P) → cond b (Some p) (or_else x y) ≡ or_else (cond b (Some p) x) y
unfolding or_else
or_cond true p x y = refl
or_cond false p x y = refl

first-append : {P : Type 0} (t : P → Bool) (ps qs : List P) → first_that t (ps ++ qs) ≡ or_else (first_that t ps) (first_that t qs)
unfolding or_else
first-append t [] qs = refl
first-append t (p ∷ ps) qs = ap (λ r. cond (t p) (Some p) r) (first-append t ps qs) ∙ or_cond (t p) p (first_that t ps) (first_that t qs)

last_more : {P : Type 0} (t : P → Bool) (p : P) (ps : List P) → last_that t (p ∷ ps) ≡ or_else (last_that t ps) (cond (t p) (Some p) None)
last_more t p ps = ap (first_that t) (reverse-append (p ∷ []) ps) ∙ first-append t (reverse ps) (p ∷ [])

module _ {P V : Type 0} {lt : P → P → Bool} (o : Total lt) (t : P → Bool) where
  more : (e : Entry P V) (es : List (Entry P V)) (p : P) → length (run lt es p) ≤ length (run lt (e ∷ es) p)
  more e es p =
      ⊎_elim (λ s. let n = ap length (hold o e es p s) in omega arith) (λ s. let n = ap length (skip o e es p s) in omega arith) (cases_Bool (same lt e.place p))

  -- one entry in front of those whose greatest is r
  step : (e : Entry P V) (es : List (Entry P V)) → From lt e.place (places es) → (r : Option P) (b : Bool) → t e.place ≡ b → Greatest lt t es r → Greatest lt t (e ∷ es) (or_else r (cond b (Some e.place) None))
  unfolding or_else
  step e es f (Some p) b h g = (
    g.0,
    omega (arith, g.1, more e es p),
    λ q tq l.
        ⊎_elim
        (λ s. ap (lt p) (sym (same-is o e.place q s)) ∙ from_run o t e.place es p f g.1)
        (λ s. let n = ap length (skip o e es q s) in g.2 q tq (omega arith))
        (cases_Bool (same lt e.place q)),
  )
  step e es f None true h g =
      let n = ap length (hold o e es e.place (same_self o e.place)) in (
        h,
        omega arith,
        λ q tq l.
            ⊎_elim
            (λ s. ap (lt e.place) (sym (same-is o e.place q s)) ∙ o.irrefl e.place)
            (λ s. let n = ap length (skip o e es q s) in let z = ap length (g q tq) in absurd (omega arith))
            (cases_Bool (same lt e.place q)),
      )
  step e es f None false h g =
      λ q tq.
      let s : same lt e.place q ≡ false =
      ⊎_elim (λ s. absurd (both_ways (t q) (ap t (sym (same-is o e.place q s)) ∙ h) tq)) (λ s. s) (cases_Bool (same lt e.place q)) in
      skip o e es q s ∙ g q tq

  highest : (es : List (Entry P V)) → Up lt (places es) → Greatest lt t es (last_that t (places es))
  highest [] u = λ q h. refl
  highest (e ∷ es) u =
      subst (Greatest lt t (e ∷ es)) (sym (last_more t e.place (places es))) (step e es u.0 (last_that t (places es)) (t e.place) refl (highest es u.1))

  pub greatest : (es : List (Entry P V)) → Rising lt es → Greatest lt t es (last_that t (places es))
  greatest es u = highest es (sorted-up lt (places es) u)

  one-greatest : (es : List (Entry P V)) (r s : Option P) → Greatest lt t es r → Greatest lt t es s → r ≡ s
  one-greatest es None None a b = refl
  one-greatest es None (Some p) a b = let n = ap length (a p b.0) in absurd (omega (arith, b.1))
  one-greatest es (Some p) None a b = let n = ap length (b p a.0) in absurd (omega (arith, a.1))
  one-greatest es (Some p) (Some q) a b = ap Some (o.total p q (a.2 q b.0 b.1) (b.2 p a.0 a.1))

  pub greatest-is : (es : List (Entry P V)) → Rising lt es → (r : Option P) → Greatest lt t es r → r ≡ last_that t (places es)
  greatest-is es u r h = one-greatest es r (last_that t (places es)) h (greatest es u)
