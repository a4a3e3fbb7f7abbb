-- The counts follow from how long the runs are; and a run taken out whole. Assumes nothing.
use Rattle.std.proofs.Common.{◌≡◌, ℕ, suc, ◌+◌, Bool, true, false, cond, List, [], ◌∷◌, map, length, sym, refl, ap, ◌∙◌, subst, ⊎_elim, arith}
use Rattle.std.proofs.lemmas.List.{length-map, length-set}
use Rattle.std.proofs.lemmas.Bool.{cases_Bool, both_ways}
use Rattle.keys.specs.Order.{Total}
use Rattle.contents.specs.Sorted.{Sorted}
use Rattle.contents.specs.Entries.{Entry, entry, places, Rising, same, run, none, keys, items}
use Rattle.contents.specs.Changes.{Sets, Clears}
use Rattle.contents.proofs.Laws.{From, Up, sorted-up, up_sorted, tally, tally-is, skip, hold, same_self, same-is, extensional}

abbrev Tick : Type 0
Tick = Unit {0}

ticks : (xs ys : List Tick) → length xs ≡ length ys → xs ≡ ys
ticks [] [] n = refl
ticks [] (y ∷ ys) n = absurd (omega arith)
ticks (x ∷ xs) [] n = absurd (omega arith)
ticks (x ∷ xs) (y ∷ ys) n = ap (λ zs. tt ∷ zs) (ticks xs ys (omega arith))

abbrev bares : {V : Type 0} → List V → List Tick
bares vs = map (λ _. tt) vs

bares-cond : {V : Type 0} (b : Bool) (v : V) (vs : List V) → bares (cond b (v ∷ vs) vs) ≡ cond b (tt ∷ bares vs) (bares vs)
bares-cond true v vs = refl
bares-cond false v vs = refl

none-bares : {V : Type 0} (vs : List V) → none (bares vs) ≡ none vs
none-bares [] = refl
none-bares (v ∷ vs) = refl

flip : (b : Bool) (n : ℕ) → cond b 1 0 + (n + cond b 0 1) ≡ n + 1
flip true n = omega arith
flip false n = omega arith

module _ {P V : Type 0} where
  -- the places alone
  abbrev bare : List (Entry P V) → List (Entry P Tick)
  bare [] = []
  bare (e ∷ es) = entry e.place tt ∷ bare es

  places-bare : (es : List (Entry P V)) → places (bare es) ≡ places es
  places-bare [] = refl
  places-bare (e ∷ es) = ap (λ xs. e.place ∷ xs) (places-bare es)

  run-bare : (lt : P → P → Bool) (es : List (Entry P V)) (q : P) → run lt (bare es) q ≡ bares (run lt es q)
  run-bare lt [] q = refl
  run-bare lt (e ∷ es) q = ap (λ xs. cond (same lt e.place q) (tt ∷ xs) xs) (run-bare lt es q) ∙ sym (bares-cond (same lt e.place q) e.value (run lt es q))

  tally-bare : (lt : P → P → Bool) (es : List (Entry P V)) → tally lt (bare es) ≡ tally lt es
  tally-bare lt [] = refl
  tally-bare lt (e ∷ es) =
      ap (λ xs. cond (none xs) 1 0 + tally lt (bare es)) (run-bare lt es e.place)
      ∙ ap (λ b. cond b 1 0 + tally lt (bare es)) (none-bares (run lt es e.place))
      ∙ ap (λ n. cond (none (run lt es e.place)) 1 0 + n) (tally-bare lt es)

  items-bare : (es : List (Entry P V)) → items (bare es) ≡ items es
  items-bare [] = refl
  items-bare (e ∷ es) = ap suc (items-bare es)

module _ {P V : Type 0} {lt : P → P → Bool} (o : Total lt) where
  module _ (es fs : List (Entry P V)) (u : Rising lt es) (w : Rising lt fs) (n : (q : P) → length (run lt es q) ≡ length (run lt fs q)) where
    pub same-bare : bare es ≡ bare fs
    same-bare =
        extensional o (bare es) (bare fs) (subst (Sorted lt) (sym (places-bare es)) u) (subst (Sorted lt) (sym (places-bare fs)) w)
        (λ q. ticks (run lt (bare es) q) (run lt (bare fs) q)
        (ap length (run-bare lt es q) ∙ length-map (run lt es q) (λ _. tt) ∙ n q ∙ sym (length-map (run lt fs q) (λ _. tt)) ∙ sym (ap length (run-bare lt fs q))))

    same-places : places es ≡ places fs
    same-places = sym (places-bare es) ∙ ap places same-bare ∙ places-bare fs

    pub same_keys : keys lt es ≡ keys lt fs
    same_keys = tally-is lt es ∙ sym (tally-bare lt es) ∙ ap (tally lt) same-bare ∙ tally-bare lt fs ∙ sym (tally-is lt fs)

    pub same-items : items es ≡ items fs
    same-items = sym (items-bare es) ∙ ap items same-bare ∙ items-bare fs

  -- ---- one value replaced

  set-lengths : (es fs : List (Entry P V)) (p : P) (i : ℕ) (v : V) → Sets lt es fs p i v → (q : P) → length (run lt fs q) ≡ length (run lt es q)
  set-lengths es fs p i v s q =
      ⊎_elim
      (λ t. subst (λ x. length (run lt fs x) ≡ length (run lt es x)) (sym (same-is o q p t)) (ap length s.here ∙ length-set (run lt es p) i v))
      (λ f. ap length (s.there q (λ z. both_ways (same lt q p) f (ap (same lt q) (sym z) ∙ same_self o q))))
      (cases_Bool (same lt q p))

  pub set-places : (es fs : List (Entry P V)) (p : P) (i : ℕ) (v : V) → Rising lt es → Rising lt fs → Sets lt es fs p i v → places fs ≡ places es
  set-places es fs p i v u w s = same-places fs es w u (set-lengths es fs p i v s)

  pub keys-set : (es fs : List (Entry P V)) (p : P) (i : ℕ) (v : V) → Rising lt es → Rising lt fs → Sets lt es fs p i v → keys lt fs ≡ keys lt es
  keys-set es fs p i v u w s = same_keys fs es w u (set-lengths es fs p i v s)

  pub items-set : (es fs : List (Entry P V)) (p : P) (i : ℕ) (v : V) → Rising lt es → Rising lt fs → Sets lt es fs p i v → items fs ≡ items es
  items-set es fs p i v u w s = same-items fs es w u (set-lengths es fs p i v s)

  -- ---- a run removed

  abbrev pub without : P → List (Entry P V) → List (Entry P V)
  without p [] = []
  without p (e ∷ es) = cond (same lt e.place p) (without p es) (e ∷ without p es)

  pub gone : (p : P) (e : Entry P V) (es : List (Entry P V)) → same lt e.place p ≡ true → without p (e ∷ es) ≡ without p es
  gone p e es t = ap (λ b. cond b (without p es) (e ∷ without p es)) t

  pub stays : (p : P) (e : Entry P V) (es : List (Entry P V)) → same lt e.place p ≡ false → without p (e ∷ es) ≡ e ∷ without p es
  stays p e es t = ap (λ b. cond b (without p es) (e ∷ without p es)) t

  without-here : (p : P) (es : List (Entry P V)) → run lt (without p es) p ≡ []
  without-here p [] = refl
  without-here p (e ∷ es) =
      ⊎_elim
      (λ t. ap (λ xs. run lt xs p) (gone p e es t) ∙ without-here p es)
      (λ f. ap (λ xs. run lt xs p) (stays p e es f) ∙ skip o e (without p es) p f ∙ without-here p es)
      (cases_Bool (same lt e.place p))

  without-there : (p : P) (es : List (Entry P V)) (q : P) → (q ≡ p → ⊥) → run lt (without p es) q ≡ run lt es q
  without-there p [] q ne = refl
  without-there p (e ∷ es) q ne =
      ⊎_elim
      (λ t.
      let f : same lt e.place q ≡ false =
      ⊎_elim (λ h. absurd (ne (sym (same-is o e.place q h) ∙ same-is o e.place p t))) (λ h. h) (cases_Bool (same lt e.place q)) in
      ap (λ xs. run lt xs q) (gone p e es t) ∙ without-there p es q ne ∙ sym (skip o e es q f))
      (λ f. ap (λ xs. run lt xs q) (stays p e es f) ∙ ap (λ xs. cond (same lt e.place q) (e.value ∷ xs) xs) (without-there p es q ne))
      (cases_Bool (same lt e.place p))

  from_without : (p x : P) (es : List (Entry P V)) → From lt x (places es) → From lt x (places (without p es))
  from_without p x [] h = tt
  from_without p x (e ∷ es) h =
      ⊎_elim
      (λ t. subst (λ xs. From lt x (places xs)) (sym (gone p e es t)) (from_without p x es h.1))
      (λ f. subst (λ xs. From lt x (places xs)) (sym (stays p e es f)) (h.0, from_without p x es h.1))
      (cases_Bool (same lt e.place p))

  up_without : (p : P) (es : List (Entry P V)) → Up lt (places es) → Up lt (places (without p es))
  up_without p [] u = tt
  up_without p (e ∷ es) u =
      ⊎_elim
      (λ t. subst (λ xs. Up lt (places xs)) (sym (gone p e es t)) (up_without p es u.1))
      (λ f. subst (λ xs. Up lt (places xs)) (sym (stays p e es f)) (from_without p e.place es u.0, up_without p es u.1))
      (cases_Bool (same lt e.place p))

  pub rising-without : (p : P) (es : List (Entry P V)) → Rising lt es → Rising lt (without p es)
  rising-without p es u = up_sorted o (places (without p es)) (up_without p es (sorted-up lt (places es) u))

  pub clear_is : (es fs : List (Entry P V)) (p : P) → Rising lt es → Rising lt fs → Clears lt es fs p → fs ≡ without p es
  clear_is es fs p u w s =
      extensional o fs (without p es) w (rising-without p es u)
      (λ q.
      ⊎_elim
      (λ t. subst (λ x. run lt fs x ≡ run lt (without p es) x) (sym (same-is o q p t)) (s.here ∙ sym (without-here p es)))
      (λ f.
      let ne : q ≡ p → ⊥ = λ z. both_ways (same lt q p) f (ap (same lt q) (sym z) ∙ same_self o q) in
      s.there q ne ∙ sym (without-there p es q ne))
      (cases_Bool (same lt q p)))

  items-without : (p : P) (es : List (Entry P V)) → items es ≡ items (without p es) + length (run lt es p)
  items-without p [] = refl
  items-without p (e ∷ es) =
      let ih = items-without p es in
      ⊎_elim
      (λ t. let a = ap items (gone p e es t) in let b = ap length (hold o e es p t) in omega arith)
      (λ f. let a = ap items (stays p e es f) in let b = ap length (skip o e es p f) in omega arith)
      (cases_Bool (same lt e.place p))

  tally-without : (p : P) (es : List (Entry P V)) → tally lt es ≡ tally lt (without p es) + cond (none (run lt es p)) 0 1
  tally-without p [] = refl
  tally-without p (e ∷ es) =
      let ih = tally-without p es in
      ⊎_elim
      (λ t.
      let at = same-is o e.place p t in
      ap (λ q. cond (none (run lt es q)) 1 0 + tally lt es) at
      ∙ ap (λ n. cond (none (run lt es p)) 1 0 + n) ih
      ∙ flip (none (run lt es p)) (tally lt (without p es))
      ∙ sym (ap (λ xs. tally lt xs + cond (none (run lt (e ∷ es) p)) 0 1) (gone p e es t) ∙ ap (λ xs. tally lt (without p es) + cond (none xs) 0 1) (hold o e es p t)))
      (λ f.
      let ne : e.place ≡ p → ⊥ = λ z. both_ways (same lt e.place p) f (ap (same lt e.place) (sym z) ∙ same_self o e.place) in
      ap (λ n. cond (none (run lt es e.place)) 1 0 + n) ih
      ∙ omega arith
      ∙ sym (ap (λ xs. tally lt xs + cond (none (run lt (e ∷ es) p)) 0 1) (stays p e es f)
      ∙ ap (λ xs. cond (none xs) 1 0 + tally lt (without p es) + cond (none (run lt (e ∷ es) p)) 0 1) (without-there p es e.place ne)
      ∙ ap (λ xs. cond (none (run lt es e.place)) 1 0 + tally lt (without p es) + cond (none xs) 0 1) (skip o e es p f)))
      (cases_Bool (same lt e.place p))

  pub items-clear : (es fs : List (Entry P V)) (p : P) → Rising lt es → Rising lt fs → Clears lt es fs p → items es ≡ items fs + length (run lt es p)
  items-clear es fs p u w s = items-without p es ∙ ap (λ xs. items xs + length (run lt es p)) (sym (clear_is es fs p u w s))

  pub keys-clear : (es fs : List (Entry P V)) (p : P) → Rising lt es → Rising lt fs → Clears lt es fs p → keys lt es ≡ keys lt fs + cond (none (run lt es p)) 0 1
  keys-clear es fs p u w s =
      tally-is lt es ∙ tally-without p es ∙ ap (λ n. n + cond (none (run lt es p)) 0 1) (sym (tally-is lt (without p es)))
      ∙ ap (λ xs. keys lt xs + cond (none (run lt es p)) 0 1) (sym (clear_is es fs p u w s))
