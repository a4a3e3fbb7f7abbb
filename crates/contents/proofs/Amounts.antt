-- Of the places that pass a test: how many values they have, and which is first and last, by the runs alone. Assumes nothing.
use Rattle.std.proofs.Common.{◌≡◌, ℕ, zero, suc, ◌+◌, ◌<◌, ◌≤◌, Bool, true, false, cond, List, [], ◌∷◌, ◌++◌, reverse, length, Some, None, sym, refl, ap, ◌∙◌, subst, ⊎_elim, arith}
use Rattle.std.specs.List.{insert}
use Rattle.std.proofs.lemmas.List.{reverse-append, append-nil, nil_from_length}
use Rattle.std.proofs.lemmas.Bool.{cases_Bool, both_ways}
use Rattle.keys.specs.Order.{Total}
use Rattle.contents.specs.Sorted.{count, below}
use Rattle.contents.specs.Entries.{Entry, entry, places, Rising, same, run, items, amount, first_that, last_that}
use Rattle.contents.specs.Changes.{Gains, Sets, Clears}
use Rattle.contents.proofs.Laws.{one_at_most, From, Up, sorted-up, up_sorted, skip, hold, same_self, same-is, extensional, put_is}
use Rattle.contents.proofs.Counts.{without, gone, stays, clear_is, set-places}

-- ---- how many pass

module _ {P V : Type 0} (t : P → Bool) where
  pub amount-fits : (es : List (Entry P V)) → amount t es ≤ items es
  amount-fits [] = omega arith
  amount-fits (e ∷ es) = omega (arith, one_at_most (t e.place), amount-fits es)

  pub amount-in : (n : ℕ) (es : List (Entry P V)) (e : Entry P V) → amount t (insert es n e) ≡ amount t es + cond (t e.place) 1 0
  amount-in zero es e = omega arith
  amount-in (suc n) [] e = omega arith
  amount-in (suc n) (f ∷ es) e = omega (arith, amount-in n es e)

  no_hit : (e : Entry P V) (es : List (Entry P V)) → amount t (e ∷ es) ≡ 0 → (t e.place ≡ false) × (amount t es ≡ 0)
  no_hit e es z =
      ⊎_elim
      (λ h. let n = ap (λ b. cond b 1 0 + amount t es) h in absurd (omega arith))
      (λ h. let n = ap (λ b. cond b 1 0 + amount t es) h in (h, omega arith))
      (cases_Bool (t e.place))

  pub no_first : (es : List (Entry P V)) → first_that t (places es) ≡ None → amount t es ≡ 0
  no_first [] z = refl
  no_first (e ∷ es) z =
      ⊎_elim
      (λ h. let bad : Some e.place ≡ None = sym (ap (λ b. cond b (Some e.place) (first_that t (places es))) h) ∙ z in let no : ◌≡◌ {A = ℕ} 0 1 = cc in absurd (omega arith))
      (λ h. ap (λ b. cond b 1 0 + amount t es) h ∙ omega (arith, no_first es (sym (ap (λ b. cond b (Some e.place) (first_that t (places es))) h) ∙ z)))
      (cases_Bool (t e.place))

  pub amount-none : (es : List (Entry P V)) → amount t es ≡ 0 → first_that t (places es) ≡ None
  amount-none [] z = refl
  amount-none (e ∷ es) z =
      let h = no_hit e es z in
      ap (λ b. cond b (Some e.place) (first_that t (places es))) h.0 ∙ amount-none es h.1

-- ---- the places, and the entries, that pass

module _ {P : Type 0} (t : P → Bool) where
  abbrev kept : List P → List P
  kept [] = []
  kept (p ∷ ps) = cond (t p) (p ∷ kept ps) (kept ps)

  first-kept : (ps : List P) → first_that t ps ≡ first_that (λ _. true) (kept ps)
  first-kept [] = refl
  first-kept (p ∷ ps) =
      ⊎_elim
      (λ h. ap (λ b. cond b (Some p) (first_that t ps)) h ∙ sym (ap (λ b. first_that (λ _. true) (cond b (p ∷ kept ps) (kept ps))) h))
      (λ h. ap (λ b. cond b (Some p) (first_that t ps)) h ∙ first-kept ps ∙ sym (ap (λ b. first_that (λ _. true) (cond b (p ∷ kept ps) (kept ps))) h))
      (cases_Bool (t p))

  count_kept : (ps : List P) → count t ps ≡ length (kept ps)
  count_kept [] = refl
  count_kept (p ∷ ps) =
      ⊎_elim
      (λ h. let a = ap (λ b. cond b 1 0 + count t ps) h in let b = ap (λ b. length (cond b (p ∷ kept ps) (kept ps))) h in omega (arith, count_kept ps))
      (λ h. let a = ap (λ b. cond b 1 0 + count t ps) h in let b = ap (λ b. length (cond b (p ∷ kept ps) (kept ps))) h in omega (arith, count_kept ps))
      (cases_Bool (t p))

  cond-append : (b : Bool) (p : P) (xs ys : List P) → cond b (p ∷ (xs ++ ys)) (xs ++ ys) ≡ cond b (p ∷ xs) xs ++ ys
  cond-append true p xs ys = refl
  cond-append false p xs ys = refl

  kept_append : (ps qs : List P) → kept (ps ++ qs) ≡ kept ps ++ kept qs
  kept_append [] qs = refl
  kept_append (p ∷ ps) qs = ap (λ xs. cond (t p) (p ∷ xs) xs) (kept_append ps qs) ∙ cond-append (t p) p (kept ps) (kept qs)

  one-reversed : (b : Bool) (p : P) (xs : List P) → reverse (cond b (p ∷ xs) xs) ≡ reverse xs ++ cond b (p ∷ []) []
  one-reversed true p xs = reverse-append (p ∷ []) xs
  one-reversed false p xs = sym (append-nil (reverse xs))

  kept-reverse : (ps : List P) → kept (reverse ps) ≡ reverse (kept ps)
  kept-reverse [] = refl
  kept-reverse (p ∷ ps) =
      ap kept (reverse-append (p ∷ []) ps) ∙ kept_append (reverse ps) (p ∷ []) ∙ ap (λ xs. xs ++ kept (p ∷ [])) (kept-reverse ps) ∙ sym (one-reversed (t p) p (kept ps))

  last-kept : (ps : List P) → last_that t ps ≡ last_that (λ _. true) (kept ps)
  last-kept ps = first-kept (reverse ps) ∙ ap (first_that (λ _. true)) (kept-reverse ps)

  module _ {V : Type 0} where
    abbrev only : List (Entry P V) → List (Entry P V)
    only [] = []
    only (e ∷ es) = cond (t e.place) (e ∷ only es) (only es)

    pass : (e : Entry P V) (es : List (Entry P V)) → t e.place ≡ true → only (e ∷ es) ≡ e ∷ only es
    pass e es h = ap (λ b. cond b (e ∷ only es) (only es)) h

    fail : (e : Entry P V) (es : List (Entry P V)) → t e.place ≡ false → only (e ∷ es) ≡ only es
    fail e es h = ap (λ b. cond b (e ∷ only es) (only es)) h

    places-cond : (b : Bool) (e : Entry P V) (es : List (Entry P V)) → places (cond b (e ∷ es) es) ≡ cond b (e.place ∷ places es) (places es)
    places-cond true e es = refl
    places-cond false e es = refl

    places-only : (es : List (Entry P V)) → places (only es) ≡ kept (places es)
    places-only [] = refl
    places-only (e ∷ es) = places-cond (t e.place) e (only es) ∙ ap (λ xs. cond (t e.place) (e.place ∷ xs) xs) (places-only es)

nothing : (b : Bool) → 0 ≡ 0 + cond b 0 0
nothing true = omega arith
nothing false = omega arith

one_more : (b : Bool) (a w n : ℕ) → a ≡ w + cond b n 0 → cond b 1 0 + a ≡ w + cond b (suc n) 0
one_more true a w n e = omega arith
one_more false a w n e = omega arith

module _ {P V : Type 0} {lt : P → P → Bool} (o : Total lt) where
  module _ (t : P → Bool) where
    from_only : (x : P) (es : List (Entry P V)) → From lt x (places es) → From lt x (places (only t es))
    from_only x [] h = tt
    from_only x (e ∷ es) h =
        ⊎_elim
        (λ b. subst (λ fs. From lt x (places fs)) (sym (pass t e es b)) (h.0, from_only x es h.1))
        (λ b. subst (λ fs. From lt x (places fs)) (sym (fail t e es b)) (from_only x es h.1))
        (cases_Bool (t e.place))

    up_only : (es : List (Entry P V)) → Up lt (places es) → Up lt (places (only t es))
    up_only [] u = tt
    up_only (e ∷ es) u =
        ⊎_elim
        (λ b. subst (λ fs. Up lt (places fs)) (sym (pass t e es b)) (from_only e.place es u.0, up_only es u.1))
        (λ b. subst (λ fs. Up lt (places fs)) (sym (fail t e es b)) (up_only es u.1))
        (cases_Bool (t e.place))

    rising-only : (es : List (Entry P V)) → Rising lt es → Rising lt (only t es)
    rising-only es u = up_sorted o (places (only t es)) (up_only es (sorted-up lt (places es) u))

    run-hit : (p : P) → t p ≡ true → (es : List (Entry P V)) → run lt (only t es) p ≡ run lt es p
    run-hit p h [] = refl
    run-hit p h (e ∷ es) =
        ⊎_elim
        (λ b. ap (λ fs. run lt fs p) (pass t e es b) ∙ ap (λ xs. cond (same lt e.place p) (e.value ∷ xs) xs) (run-hit p h es))
        (λ b.
        let f : same lt e.place p ≡ false =
        ⊎_elim (λ s. absurd (both_ways (t p) (ap t (sym (same-is o e.place p s)) ∙ b) h)) (λ s. s) (cases_Bool (same lt e.place p)) in
        ap (λ fs. run lt fs p) (fail t e es b) ∙ run-hit p h es ∙ sym (skip o e es p f))
        (cases_Bool (t e.place))

    run-miss : (p : P) → t p ≡ false → (es : List (Entry P V)) → run lt (only t es) p ≡ []
    run-miss p h [] = refl
    run-miss p h (e ∷ es) =
        ⊎_elim
        (λ b.
        let f : same lt e.place p ≡ false =
        ⊎_elim (λ s. absurd (both_ways (t p) h (ap t (sym (same-is o e.place p s)) ∙ b))) (λ s. s) (cases_Bool (same lt e.place p)) in
        ap (λ fs. run lt fs p) (pass t e es b) ∙ skip o e (only t es) p f ∙ run-miss p h es)
        (λ b. ap (λ fs. run lt fs p) (fail t e es b) ∙ run-miss p h es)
        (cases_Bool (t e.place))

    -- the same runs at the places that pass are the same entries there
    module _ (es fs : List (Entry P V)) (u : Rising lt es) (w : Rising lt fs) (h : (p : P) → t p ≡ true → run lt es p ≡ run lt fs p) where
      only_same : only t es ≡ only t fs
      only_same =
          extensional o (only t es) (only t fs) (rising-only es u) (rising-only fs w)
          (λ p.
          ⊎_elim
          (λ b. run-hit p b es ∙ h p b ∙ sym (run-hit p b fs))
          (λ b. run-miss p b es ∙ sym (run-miss p b fs))
          (cases_Bool (t p)))

      kept_same : kept t (places es) ≡ kept t (places fs)
      kept_same = sym (places-only t es) ∙ ap places only_same ∙ places-only t fs

      pub first-same : first_that t (places es) ≡ first_that t (places fs)
      first-same = first-kept t (places es) ∙ ap (first_that (λ _. true)) kept_same ∙ sym (first-kept t (places fs))

      pub last-same : last_that t (places es) ≡ last_that t (places fs)
      last-same = last-kept t (places es) ∙ ap (last_that (λ _. true)) kept_same ∙ sym (last-kept t (places fs))

      pub amount-same : amount t es ≡ amount t fs
      amount-same = count_kept t (places es) ∙ ap length kept_same ∙ sym (count_kept t (places fs))

    -- ---- runs and amounts

    pub run-amount : (es : List (Entry P V)) (p : P) → t p ≡ true → length (run lt es p) ≤ amount t es
    run-amount [] p h = omega arith
    run-amount (e ∷ es) p h =
        ⊎_elim
        (λ s.
        let a : t e.place ≡ true = ap t (same-is o e.place p s) ∙ h in
        let b = ap (λ b. cond b 1 0 + amount t es) a in
        let n = ap length (hold o e es p s) in
        omega (arith, run-amount es p h))
        (λ s. let n = ap length (skip o e es p s) in omega (arith, run-amount es p h))
        (cases_Bool (same lt e.place p))

    pub no_run : (es : List (Entry P V)) (p : P) → amount t es ≡ 0 → t p ≡ true → run lt es p ≡ []
    no_run es p z h = nil_from_length (run lt es p) (omega (arith, run-amount es p h))

    pub first-held : (es : List (Entry P V)) (p : P) → first_that t (places es) ≡ Some p → (t p ≡ true) × (0 < length (run lt es p))
    first-held [] p z = let no : ◌≡◌ {A = ℕ} 0 1 = cc in absurd (omega arith)
    first-held (e ∷ es) p z =
        ⊎_elim
        (λ h.
        let at : Some e.place ≡ Some p = sym (ap (λ b. cond b (Some e.place) (first_that t (places es))) h) ∙ z in
        let is : e.place ≡ p = cc in
        let n = ap length (hold o e es p (ap (λ x. same lt x p) is ∙ same_self o p)) in
        (ap t (sym is) ∙ h, omega arith))
        (λ h.
        let ih = first-held es p (sym (ap (λ b. cond b (Some e.place) (first_that t (places es))) h) ∙ z) in
        let n = more e es p in
        (ih.0, omega (arith, ih.1)))
        (cases_Bool (t e.place))
      where
        more : (e : Entry P V) (es : List (Entry P V)) (p : P) → length (run lt es p) ≤ length (run lt (e ∷ es) p)
        more e es p =
            ⊎_elim (λ s. let n = ap length (hold o e es p s) in omega arith) (λ s. let n = ap length (skip o e es p s) in omega arith) (cases_Bool (same lt e.place p))

    -- ---- what a change does to an amount

    pub amount-put : (es fs : List (Entry P V)) (p : P) (i : ℕ) (v : V) → Rising lt es → Rising lt fs → Gains lt es fs p i v → amount t fs ≡ amount t es + cond (t p) 1 0
    amount-put es fs p i v u w g = ap (amount t) (put_is o es fs p i v u w g) ∙ amount-in t (below lt (places es) p + i) es (entry p v)

    amount-without : (p : P) (es : List (Entry P V)) → amount t es ≡ amount t (without o p es) + cond (t p) (length (run lt es p)) 0
    amount-without p [] = nothing (t p)
    amount-without p (e ∷ es) =
        let ih = amount-without p es in
        ⊎_elim
        (λ s.
        let a = ap (amount t) (gone o p e es s) in
        let n = ap length (hold o e es p s) in
        ap (λ x. cond (t x) 1 0 + amount t es) (same-is o e.place p s)
        ∙ one_more (t p) (amount t es) (amount t (without o p es)) (length (run lt es p)) ih
        ∙ sym (ap (λ k. k + cond (t p) (length (run lt (e ∷ es) p)) 0) a ∙ ap (λ k. amount t (without o p es) + cond (t p) k 0) n))
        (λ s.
        let a = ap (amount t) (stays o p e es s) in
        let n = ap (λ xs. cond (t p) (length xs) 0) (skip o e es p s) in
        omega arith)
        (cases_Bool (same lt e.place p))

    pub amount-clear : (es fs : List (Entry P V)) (p : P) → Rising lt es → Rising lt fs → Clears lt es fs p → amount t es ≡ amount t fs + cond (t p) (length (run lt es p)) 0
    amount-clear es fs p u w c = amount-without p es ∙ ap (λ xs. amount t xs + cond (t p) (length (run lt es p)) 0) (sym (clear_is o es fs p u w c))

    pub amount-set : (es fs : List (Entry P V)) (p : P) (i : ℕ) (v : V) → Rising lt es → Rising lt fs → Sets lt es fs p i v → amount t fs ≡ amount t es
    amount-set es fs p i v u w s = ap (count t) (set-places o es fs p i v u w s)
