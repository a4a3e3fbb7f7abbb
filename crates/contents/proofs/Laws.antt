-- Laws of runs, over any total order of places. Assumes nothing.
use Rattle.std.proofs.Common.{◌≡◌, ℕ, zero, suc, ◌+◌, ◌<◌, ◌≤◌, Bool, true, false, cond, not, List, [], ◌∷◌, ◌++◌, length, get_or, take, drop, set, sym, refl, ap, ◌∙◌, subst, ⊎_elim, arith}
use Rattle.std.specs.List.{insert, remove}
use Rattle.std.proofs.lemmas.List.{take-append-drop, take_at, drop_at, set_at, length-take-le, get_or_default}
use Rattle.std.proofs.lemmas.Bool.{cases_Bool, both_ways}
use Rattle.keys.specs.Order.{Total}
use Rattle.contents.specs.Sorted.{Sorted, below}
use Rattle.contents.specs.Entries.{Entry, entry, places, Rising, same, run, none, held, keys, items}
use Rattle.contents.specs.Changes.{Gains, Sets}
use Rattle.contents.proofs.Order.{chain_on, chain_not, before-not_after}

-- ---- lists that rise, by their first

module _ {P : Type 0} (lt : P → P → Bool) where
  -- none of these is before x
  abbrev pub From : P → List P → Type 0
  From x [] = Unit {0}
  From x (y ∷ ys) = (lt y x ≡ false) × From x ys

  abbrev pub Up : List P → Type 0
  Up [] = Unit {0}
  Up (x ∷ xs) = From x xs × Up xs

  from_all : (x : P) (xs : List P) → ((j : ℕ) (d : P) → j < length xs → lt (get_or xs j d) x ≡ false) → From x xs
  from_all x [] h = tt
  from_all x (y ∷ ys) h = (h 0 y (omega arith), from_all x ys (λ j d l. h (suc j) d (omega arith)))

  pub sorted-up : (xs : List P) → Sorted lt xs → Up xs
  sorted-up [] s = tt
  sorted-up (x ∷ xs) s =
      (from_all x xs (λ j d l. s 0 (suc j) d (omega arith) (omega arith)), sorted-up xs (λ i j d a b. s (suc i) (suc j) d (omega arith) (omega arith)))

  pub below_none : (p : P) (xs : List P) → From p xs → below lt xs p ≡ 0
  below_none p [] h = refl
  below_none p (x ∷ xs) h = let ih = below_none p xs h.1 in ap (λ b. cond b 1 0 + below lt xs p) h.0 ∙ omega arith

pub length-in : {X : Type 0} (n : ℕ) (xs : List X) (x : X) → length (insert xs n x) ≡ length xs + 1
length-in zero xs x = omega arith
length-in (suc n) [] x = refl
length-in (suc n) (y ∷ xs) x = let ih = length-in n xs x in omega arith

none_more : {X : Type 0} (xs ys : List X) (x : X) → none (xs ++ x ∷ ys) ≡ false
none_more [] ys x = refl
none_more (y ∷ xs) ys x = refl

-- ---- the places held, counted at the last entry of each

pub one_at_most : (b : Bool) → cond b 1 0 ≤ 1
one_at_most true = omega arith
one_at_most false = omega arith

one_more : {P : Type 0} (b : Bool) (p : P) (ps : List P) → length (cond b (p ∷ ps) ps) ≡ cond b 1 0 + length ps
one_more true p ps = omega arith
one_more false p ps = omega arith

module _ {P V : Type 0} (lt : P → P → Bool) where
  abbrev pub tally : List (Entry P V) → ℕ
  tally [] = 0
  tally (e ∷ es) = cond (none (run lt es e.place)) 1 0 + tally es

  pub tally-is : (es : List (Entry P V)) → keys lt es ≡ tally es
  tally-is [] = refl
  tally-is (e ∷ es) =
      one_more (none (run lt es e.place)) e.place (held lt es) ∙ ap (λ n. cond (none (run lt es e.place)) 1 0 + n) (tally-is es)

  tally-few : (es : List (Entry P V)) → tally es ≤ items es
  tally-few [] = omega arith
  tally-few (e ∷ es) = omega (arith, one_at_most (none (run lt es e.place)), tally-few es)

  pub keys-few : (es : List (Entry P V)) → keys lt es ≤ items es
  keys-few es = omega (arith, tally-is es, tally-few es)

-- ---- the test of one place

module _ {P : Type 0} {lt : P → P → Bool} (o : Total lt) where
  pub same_self : (x : P) → same lt x x ≡ true
  same_self x = let i = o.irrefl x in ap (λ b. cond b false (not b)) i

  pub apart-before : (x y : P) → lt x y ≡ true → same lt x y ≡ false
  apart-before x y t = ap (λ b. cond b false (not (lt y x))) t

  pub apart-after : (x y : P) → lt y x ≡ true → same lt x y ≡ false
  apart-after x y t = ap (λ b. cond b false (not (lt y x))) (before-not_after o y x t) ∙ ap not t

  pub same-ties : (x y : P) → lt x y ≡ false → lt y x ≡ false → same lt x y ≡ true
  same-ties x y a b = ap (λ c. cond c false (not (lt y x))) a ∙ ap not b

  same_parts : (a b : Bool) → cond a false (not b) ≡ true → (a ≡ false) × (b ≡ false)
  same_parts true b e = absurd (both_ways false refl e)
  same_parts false true e = absurd (both_ways false refl e)
  same_parts false false e = (refl, refl)

  pub same-is : (x y : P) → same lt x y ≡ true → x ≡ y
  same-is x y e = let h = same_parts (lt x y) (lt y x) e in o.total x y h.0 h.1

  pub same_not : (x y : P) → (x ≡ y → ⊥) → same lt x y ≡ false
  same_not x y ne = ⊎_elim (λ t. absurd (ne (same-is x y t))) (λ f. f) (cases_Bool (same lt x y))

  pub from_on : (x p : P) (xs : List P) → lt x p ≡ false → From lt x xs → From lt p xs
  from_on x p [] n h = tt
  from_on x p (y ∷ ys) n h = (chain_not o y x p h.0 n, from_on x p ys n h.1)

  from_at : (x : P) (xs : List P) (j : ℕ) (d : P) → From lt x xs → j < length xs → lt (get_or xs j d) x ≡ false
  from_at x [] j d h l = absurd (omega arith)
  from_at x (y ∷ ys) zero d h l = h.0
  from_at x (y ∷ ys) (suc j) d h l = from_at x ys j d h.1 (omega arith)

  pub up_sorted : (xs : List P) → Up lt xs → Sorted lt xs
  up_sorted [] u i j d le l = absurd (omega arith)
  up_sorted (x ∷ xs) u zero zero d le l = o.irrefl x
  up_sorted (x ∷ xs) u zero (suc j) d le l = from_at x xs j d u.0 (omega arith)
  up_sorted (x ∷ xs) u (suc i) zero d le l = absurd (omega arith)
  up_sorted (x ∷ xs) u (suc i) (suc j) d le l = up_sorted xs u.1 i j d (omega arith) (omega arith)

  module _ {V : Type 0} where
    pub skip : (e : Entry P V) (es : List (Entry P V)) (p : P) → same lt e.place p ≡ false → run lt (e ∷ es) p ≡ run lt es p
    skip e es p s = ap (λ b. cond b (e.value ∷ run lt es p) (run lt es p)) s

    pub hold : (e : Entry P V) (es : List (Entry P V)) (p : P) → same lt e.place p ≡ true → run lt (e ∷ es) p ≡ e.value ∷ run lt es p
    hold e es p s = ap (λ b. cond b (e.value ∷ run lt es p) (run lt es p)) s

    cond-append : (b : Bool) (v : V) (xs ys : List V) → cond b (v ∷ (xs ++ ys)) (xs ++ ys) ≡ cond b (v ∷ xs) xs ++ ys
    cond-append true v xs ys = refl
    cond-append false v xs ys = refl

    pub run-append : (es fs : List (Entry P V)) (p : P) → run lt (es ++ fs) p ≡ run lt es p ++ run lt fs p
    run-append [] fs p = refl
    run-append (e ∷ es) fs p =
        ap (λ ys. cond (same lt e.place p) (e.value ∷ ys) ys) (run-append es fs p)
        ∙ cond-append (same lt e.place p) e.value (run lt es p) (run lt fs p)

    pub run-parts : (es : List (Entry P V)) (n : ℕ) (p : P) → run lt es p ≡ run lt (take n es) p ++ run lt (drop n es) p
    run-parts es n p = ap (λ fs. run lt fs p) (sym (take-append-drop n es)) ∙ run-append (take n es) (drop n es) p

    -- an entry put in anywhere leaves the other runs as they were
    pub run-there : (es : List (Entry P V)) (n : ℕ) (e : Entry P V) (q : P) → (q ≡ e.place → ⊥) → run lt (insert es n e) q ≡ run lt es q
    run-there es n e q ne =
        run-append (take n es) (e ∷ drop n es) q
        ∙ ap (λ ys. run lt (take n es) q ++ ys) (skip e (drop n es) q (same_not e.place q (λ x. ne (sym x))))
        ∙ sym (run-parts es n q)

    run_in : (es : List (Entry P V)) (n : ℕ) (p : P) (v : V) → run lt (insert es n (entry p v)) p ≡ run lt (take n es) p ++ v ∷ run lt (drop n es) p
    run_in es n p v =
        run-append (take n es) (entry p v ∷ drop n es) p
        ∙ ap (λ ys. run lt (take n es) p ++ ys) (hold (entry p v) (drop n es) p (same_self p))

    -- and its own run gains it behind those of the run that stand before it
    pub run-here : (es : List (Entry P V)) (n : ℕ) (p : P) (v : V) (i : ℕ) → length (run lt (take n es) p) ≡ i → run lt (insert es n (entry p v)) p ≡ insert (run lt es p) i v
    run-here es n p v i l =
        let A : List V = run lt (take n es) p in
        let B : List V = run lt (drop n es) p in
        run_in es n p v
        ∙ sym (ap (λ ys. insert ys i v) (run-parts es n p) ∙ ap (λ ys. ys ++ v ∷ drop i (A ++ B)) (take_at A B i l) ∙ ap (λ ys. A ++ v ∷ ys) (drop_at A B i l))

    -- all these are after p
    pub run-after : (p x : P) (es : List (Entry P V)) → lt p x ≡ true → From lt x (places es) → run lt es p ≡ []
    run-after p x [] t h = refl
    run-after p x (e ∷ es) t h = skip e es p (apart-after e.place p (chain_on o p x e.place t h.0)) ∙ run-after p x es t h.1

    -- ---- where the value at i of the run at p stands

    run-take_nil : (n : ℕ) (p : P) (es : List (Entry P V)) → es ≡ [] → run lt (take n es) p ≡ []
    run-take_nil zero p es e = refl
    run-take_nil (suc n) p [] e = refl
    run-take_nil (suc n) p (x ∷ es) e = let z = ap length e in absurd (omega arith)

    module _ (p : P) (e : Entry P V) (es : List (Entry P V)) (ih : (j : ℕ) → j ≤ length (run lt es p) → length (run lt (take (below lt (places es) p + j) es) p) ≡ j)
        (z : below lt (places (e ∷ es)) p ≡ 0) (y : below lt (places es) p ≡ 0) (s : same lt e.place p ≡ true) where
      cut-here : (i : ℕ) → i ≤ length (run lt (e ∷ es) p) → length (run lt (take (below lt (places (e ∷ es)) p + i) (e ∷ es)) p) ≡ i
      cut-here zero le = let n : below lt (places (e ∷ es)) p + 0 ≡ 0 = omega arith in ap (λ m. length (run lt (take m (e ∷ es)) p)) n
      cut-here (suc j) le =
          let n : below lt (places (e ∷ es)) p + suc j ≡ suc (below lt (places es) p + j) = omega arith in
          let r = ap length (hold e es p s) in
          ap (λ m. length (run lt (take m (e ∷ es)) p)) n
          ∙ ap length (hold e (take (below lt (places es) p + j) es) p s)
          ∙ ap suc (ih j (omega arith))

    pub cut : (p : P) (es : List (Entry P V)) → Up lt (places es) → (i : ℕ) → i ≤ length (run lt es p) → length (run lt (take (below lt (places es) p + i) es) p) ≡ i
    cut p [] u i le = ap length (run-take_nil (0 + i) p [] refl) ∙ omega arith
    cut p (e ∷ es) u i le =
        ⊎_elim
        (λ a.
        let n : below lt (places (e ∷ es)) p + i ≡ suc (below lt (places es) p + i) = ap (λ b. cond b 1 0 + below lt (places es) p + i) a ∙ omega arith in
        let s : same lt e.place p ≡ false = apart-before e.place p a in
        let r = ap length (skip e es p s) in
        ap (λ m. length (run lt (take m (e ∷ es)) p)) n
        ∙ ap length (skip e (take (below lt (places es) p + i) es) p s)
        ∙ cut p es u.1 i (omega arith))
        (λ a.
        let f : From lt p (places es) = from_on e.place p (places es) a u.0 in
        let z : below lt (places (e ∷ es)) p ≡ 0 = below_none lt p (places (e ∷ es)) (a, f) in
        ⊎_elim
        (λ b.
        let r = ap length (run-after p e.place (e ∷ es) b (o.irrefl e.place, u.0)) in
        let n : below lt (places (e ∷ es)) p + i ≡ 0 = omega arith in
        ap (λ m. length (run lt (take m (e ∷ es)) p)) n ∙ omega arith)
        (λ b. cut-here p e es (cut p es u.1) z (below_none lt p (places es) f) (same-ties e.place p a b) i le)
        (cases_Bool (lt p e.place)))
        (cases_Bool (lt e.place p))

    -- the value is put in at i of its run
    pub gains : (es : List (Entry P V)) (p : P) (i : ℕ) (v : V) → Rising lt es → i ≤ length (run lt es p) → Gains lt es (insert es (below lt (places es) p + i) (entry p v)) p i v
    gains es p i v up le = record {
      within = le;
      here = run-here es (below lt (places es) p + i) p v i (cut p es (sorted-up lt (places es) up) i le);
      there = run-there es (below lt (places es) p + i) (entry p v);
    }

    -- ---- the same runs are the same contents

    tails : (e f : Entry P V) (es fs : List (Entry P V)) → e.place ≡ f.place → run lt es e.place ≡ run lt fs e.place → ((q : P) → run lt (e ∷ es) q ≡ run lt (f ∷ fs) q) → (q : P) → run lt es q ≡ run lt fs q
    tails e f es fs at here h q =
        ⊎_elim
        (λ t. subst (λ x. run lt es x ≡ run lt fs x) (same-is e.place q t) here)
        (λ n. sym (skip e es q n) ∙ h q ∙ skip f fs q (ap (λ x. same lt x q) (sym at) ∙ n))
        (cases_Bool (same lt e.place q))

    never : (p : P) (v : V) (vs : List V) → [] ≡ v ∷ vs → ⊥
    never p v vs e = let z = ap length e in omega arith

    pub same_runs : (es fs : List (Entry P V)) → Up lt (places es) → Up lt (places fs) → ((q : P) → run lt es q ≡ run lt fs q) → es ≡ fs
    same_runs [] [] u w h = refl
    same_runs [] (f ∷ fs) u w h = absurd (never f.place f.value (run lt fs f.place) (h f.place ∙ hold f fs f.place (same_self f.place)))
    same_runs (e ∷ es) [] u w h = absurd (never e.place e.value (run lt es e.place) (sym (h e.place) ∙ hold e es e.place (same_self e.place)))
    same_runs (e ∷ es) (f ∷ fs) u w h =
        let p : P = e.place in
        let q : P = f.place in
        ⊎_elim
        (λ a. absurd (never p e.value (run lt es p) (sym (run-after p q (f ∷ fs) a (o.irrefl q, w.0)) ∙ sym (h p) ∙ hold e es p (same_self p))))
        (λ a.
        ⊎_elim
        (λ b. absurd (never q f.value (run lt fs q) (sym (run-after q p (e ∷ es) b (o.irrefl p, u.0)) ∙ h q ∙ hold f fs q (same_self q))))
        (λ b.
        let at : e.place ≡ f.place = o.total p q a b in
        let both : e.value ∷ run lt es p ≡ f.value ∷ run lt fs p = sym (hold e es p (same_self p)) ∙ h p ∙ hold f fs p (ap (λ x. same lt x p) (sym at) ∙ same_self p) in
        let vs : e.value ≡ f.value = cc in
        let rs : run lt es p ≡ run lt fs p = cc in
        let ih : es ≡ fs = same_runs es fs u.1 w.1 (tails e f es fs at rs h) in
        λ k. record { place = at k; value = vs k } ∷ ih k)
        (cases_Bool (lt q p)))
        (cases_Bool (lt p q))

    pub extensional : (es fs : List (Entry P V)) → Rising lt es → Rising lt fs → ((q : P) → run lt es q ≡ run lt fs q) → es ≡ fs
    extensional es fs u w = same_runs es fs (sorted-up lt (places es) u) (sorted-up lt (places fs) w)

    -- ---- the counts

    tally-in : (n : ℕ) (es : List (Entry P V)) (p : P) (v : V) → tally lt (insert es n (entry p v)) ≡ tally lt es + cond (none (run lt es p)) 1 0
    tally-in zero es p v = omega arith
    tally-in (suc n) [] p v = refl
    tally-in (suc n) (e ∷ es) p v =
        let x : Entry P V = entry p v in
        let ih : tally lt (insert es n x) ≡ tally lt es + cond (none (run lt es p)) 1 0 = tally-in n es p v in
        ⊎_elim
        (λ t.
        let at : e.place ≡ p = same-is e.place p t in
        let a : none (run lt (insert es n x) e.place) ≡ false =
        ap (λ q. none (run lt (insert es n x) q)) at ∙ ap none (run_in es n p v) ∙ none_more (run lt (take n es) p) (run lt (drop n es) p) v in
        let b : none (run lt (e ∷ es) p) ≡ false = ap none (hold e es p t) in
        let c : none (run lt es e.place) ≡ none (run lt es p) = ap (λ q. none (run lt es q)) at in
        ap (λ y. cond y 1 0 + tally lt (insert es n x)) a
        ∙ omega arith
        ∙ sym (ap (λ y. cond (none (run lt es e.place)) 1 0 + tally lt es + cond y 1 0) b ∙ ap (λ y. cond y 1 0 + tally lt es + 0) c))
        (λ f.
        let ne : e.place ≡ p → ⊥ = λ z. both_ways (same lt e.place p) f (ap (same lt e.place) (sym z) ∙ same_self e.place) in
        let a : run lt (insert es n x) e.place ≡ run lt es e.place = run-there es n x e.place ne in
        ap (λ y. cond (none y) 1 0 + tally lt (insert es n x)) a
        ∙ omega arith
        ∙ sym (ap (λ y. cond (none (run lt es e.place)) 1 0 + tally lt es + cond (none y) 1 0) (skip e es p f)))
        (cases_Bool (same lt e.place p))

    -- ---- the order is kept

    from_in : (m : ℕ) (es : List (Entry P V)) (x : P) (e : Entry P V) → From lt x (places es) → lt e.place x ≡ false → From lt x (places (insert es m e))
    from_in zero es x e h n = (n, h)
    from_in (suc m) [] x e h n = (n, tt)
    from_in (suc m) (y ∷ es) x e h n = (h.0, from_in m es x e h.1 n)

    alone : (n : ℕ) (x : Entry P V) → x ∷ [] ≡ insert [] n x
    alone zero x = refl
    alone (suc n) x = refl

    abbrev UpIn : ℕ → List (Entry P V) → Entry P V → Type 0
    UpIn n es x = Up lt (places (insert es n x))

    module _ (p : P) (v : V) (e : Entry P V) (es : List (Entry P V)) (u : Up lt (places (e ∷ es))) (ih : (j : ℕ) → j ≤ length (run lt es p) → UpIn (below lt (places es) p + j) es (entry p v))
        (z : below lt (places (e ∷ es)) p ≡ 0) (f : From lt p (places (e ∷ es))) (b : lt p e.place ≡ false) (s : same lt e.place p ≡ true) where
      up_here : (i : ℕ) → i ≤ length (run lt (e ∷ es) p) → UpIn (below lt (places (e ∷ es)) p + i) (e ∷ es) (entry p v)
      up_here zero le =
          let n : 0 ≡ below lt (places (e ∷ es)) p + 0 = omega arith in
          subst (λ m. UpIn m (e ∷ es) (entry p v)) n (f, u)
      up_here (suc j) le =
          let y : below lt (places es) p ≡ 0 = below_none lt p (places es) f.1 in
          let n : suc (below lt (places es) p + j) ≡ below lt (places (e ∷ es)) p + suc j = omega arith in
          let r = ap length (hold e es p s) in
          subst (λ m. UpIn m (e ∷ es) (entry p v)) n
          (from_in (below lt (places es) p + j) es e.place (entry p v) u.0 b, ih j (omega arith))

    pub up_in : (p : P) (v : V) (es : List (Entry P V)) → Up lt (places es) → (i : ℕ) → i ≤ length (run lt es p) → UpIn (below lt (places es) p + i) es (entry p v)
    up_in p v [] u i le = subst (λ xs. Up lt (places xs)) (alone (0 + i) (entry p v)) (tt, tt)
    up_in p v (e ∷ es) u i le =
        ⊎_elim
        (λ a.
        let n : suc (below lt (places es) p + i) ≡ below lt (places (e ∷ es)) p + i = omega arith ∙ sym (ap (λ b. cond b 1 0 + below lt (places es) p + i) a) in
        let s : same lt e.place p ≡ false = apart-before e.place p a in
        let r = ap length (skip e es p s) in
        subst (λ m. UpIn m (e ∷ es) (entry p v)) n
        (from_in (below lt (places es) p + i) es e.place (entry p v) u.0 (before-not_after o e.place p a), up_in p v es u.1 i (omega arith)))
        (λ a.
        let f : From lt p (places (e ∷ es)) = (a, from_on e.place p (places es) a u.0) in
        let z : below lt (places (e ∷ es)) p ≡ 0 = below_none lt p (places (e ∷ es)) f in
        ⊎_elim
        (λ b.
        let r = ap length (run-after p e.place (e ∷ es) b (o.irrefl e.place, u.0)) in
        let n : 0 ≡ below lt (places (e ∷ es)) p + i = omega arith in
        subst (λ m. UpIn m (e ∷ es) (entry p v)) n (f, u))
        (λ b. up_here p v e es u (up_in p v es u.1) z f b (same-ties e.place p a b) i le)
        (cases_Bool (lt p e.place)))
        (cases_Bool (lt e.place p))

    pub rising-in : (es : List (Entry P V)) (p : P) (i : ℕ) (v : V) → Rising lt es → i ≤ length (run lt es p) → Rising lt (insert es (below lt (places es) p + i) (entry p v))
    rising-in es p i v up le = up_sorted (places (insert es (below lt (places es) p + i) (entry p v))) (up_in p v es (sorted-up lt (places es) up) i le)

    -- ---- what a put leaves is one list: all else follows from the runs

    pub put_is : (es fs : List (Entry P V)) (p : P) (i : ℕ) (v : V) → Rising lt es → Rising lt fs → Gains lt es fs p i v → fs ≡ insert es (below lt (places es) p + i) (entry p v)
    put_is es fs p i v u w g =
        let gs : List (Entry P V) = insert es (below lt (places es) p + i) (entry p v) in
        let k : Gains lt es gs p i v = gains es p i v u g.within in
        extensional fs gs w (rising-in es p i v u g.within)
        (λ q.
        ⊎_elim
        (λ t. subst (λ x. run lt fs x ≡ run lt gs x) (sym (same-is q p t)) (g.here ∙ sym k.here))
        (λ f.
        let ne : q ≡ p → ⊥ = λ z. both_ways (same lt q p) f (ap (same lt q) (sym z) ∙ same_self q) in
        g.there q ne ∙ sym (k.there q ne))
        (cases_Bool (same lt q p)))

    pub items-put : (es fs : List (Entry P V)) (p : P) (i : ℕ) (v : V) → Rising lt es → Rising lt fs → Gains lt es fs p i v → items fs ≡ items es + 1
    items-put es fs p i v u w g = ap length (put_is es fs p i v u w g) ∙ length-in (below lt (places es) p + i) es (entry p v)

    -- one more key exactly where the run was empty
    pub keys-put : (es fs : List (Entry P V)) (p : P) (i : ℕ) (v : V) → Rising lt es → Rising lt fs → Gains lt es fs p i v → keys lt fs ≡ keys lt es + cond (none (run lt es p)) 1 0
    keys-put es fs p i v u w g =
        tally-is lt fs ∙ ap (tally lt) (put_is es fs p i v u w g) ∙ tally-in (below lt (places es) p + i) es p v
        ∙ ap (λ n. n + cond (none (run lt es p)) 1 0) (sym (tally-is lt es))

    -- ---- a value taken out

    from_out : (m : ℕ) (x : P) (es : List (Entry P V)) → From lt x (places es) → From lt x (places (remove es m))
    from_out zero x [] h = tt
    from_out zero x (e ∷ es) h = h.1
    from_out (suc m) x [] h = tt
    from_out (suc m) x (e ∷ es) h = (h.0, from_out m x es h.1)

    up_out : (m : ℕ) (es : List (Entry P V)) → Up lt (places es) → Up lt (places (remove es m))
    up_out zero [] u = tt
    up_out zero (e ∷ es) u = u.1
    up_out (suc m) [] u = tt
    up_out (suc m) (e ∷ es) u = (from_out m e.place es u.0, up_out m es u.1)

    pub rising-out : (es : List (Entry P V)) (m : ℕ) → Rising lt es → Rising lt (remove es m)
    rising-out es m u = up_sorted (places (remove es m)) (up_out m es (sorted-up lt (places es) u))

    put_back : (m : ℕ) (es : List (Entry P V)) (e : Entry P V) → m < length es → get_or es m e ≡ e → insert (remove es m) m e ≡ es
    put_back zero [] e l r = absurd (omega arith)
    put_back zero (x ∷ es) e l r = ap (λ y. y ∷ es) (sym r)
    put_back (suc m) [] e l r = absurd (omega arith)
    put_back (suc m) (x ∷ es) e l r = ap (λ ys. x ∷ ys) (put_back m es e (omega arith) r)

    take_out : (m : ℕ) (es : List (Entry P V)) → take m (remove es m) ≡ take m es
    take_out zero es = refl
    take_out (suc m) [] = refl
    take_out (suc m) (x ∷ es) = ap (λ ys. x ∷ ys) (take_out m es)

    -- ---- where a value of a run stands among the entries

    run_fits : (p : P) (es : List (Entry P V)) → below lt (places es) p + length (run lt es p) ≤ length es
    run_fits p [] = omega arith
    run_fits p (e ∷ es) =
        let ih = run_fits p es in
        ⊎_elim
        (λ a. let n = ap length (skip e es p (apart-before e.place p a)) in let b = ap (λ b. cond b 1 0 + below lt (places es) p) a in omega arith)
        (λ a.
        let b = ap (λ b. cond b 1 0 + below lt (places es) p) a in
        ⊎_elim (λ t. let n = ap length (hold e es p t) in omega arith) (λ f. let n = ap length (skip e es p f) in omega arith) (cases_Bool (same lt e.place p)))
        (cases_Bool (lt e.place p))

    abbrev Stands : P → List (Entry P V) → ℕ → V → Type 0
    Stands p es i v = get_or es (below lt (places es) p + i) (entry p v) ≡ entry p (get_or (run lt es p) i v)

    module _ (p : P) (v : V) (e : Entry P V) (es : List (Entry P V)) (ih : (j : ℕ) → j < length (run lt es p) → Stands p es j v)
        (z : below lt (places (e ∷ es)) p ≡ 0) (y : below lt (places es) p ≡ 0) (s : same lt e.place p ≡ true) where
      stands_here : (i : ℕ) → i < length (run lt (e ∷ es) p) → Stands p (e ∷ es) i v
      stands_here zero l =
          let n : below lt (places (e ∷ es)) p + 0 ≡ 0 = omega arith in
          ap (λ m. get_or (e ∷ es) m (entry p v)) n ∙ ap (λ q. entry q e.value) (same-is e.place p s) ∙ ap (λ ys. entry p (get_or ys 0 v)) (sym (hold e es p s))
      stands_here (suc j) l =
          let n : below lt (places (e ∷ es)) p + suc j ≡ suc (below lt (places es) p + j) = omega arith in
          let r = ap length (hold e es p s) in
          ap (λ m. get_or (e ∷ es) m (entry p v)) n ∙ ih j (omega arith) ∙ ap (λ ys. entry p (get_or ys (suc j) v)) (sym (hold e es p s))

    stands : (p : P) (v : V) (es : List (Entry P V)) → Up lt (places es) → (i : ℕ) → i < length (run lt es p) → Stands p es i v
    stands p v [] u i l = absurd (omega arith)
    stands p v (e ∷ es) u i l =
        ⊎_elim
        (λ a.
        let n : below lt (places (e ∷ es)) p + i ≡ suc (below lt (places es) p + i) = ap (λ b. cond b 1 0 + below lt (places es) p + i) a ∙ omega arith in
        let s : run lt (e ∷ es) p ≡ run lt es p = skip e es p (apart-before e.place p a) in
        let r = ap length s in
        ap (λ m. get_or (e ∷ es) m (entry p v)) n ∙ stands p v es u.1 i (omega arith) ∙ ap (λ ys. entry p (get_or ys i v)) (sym s))
        (λ a.
        let f : From lt p (places es) = from_on e.place p (places es) a u.0 in
        ⊎_elim
        (λ b. let r = ap length (run-after p e.place (e ∷ es) b (o.irrefl e.place, u.0)) in absurd (omega arith))
        (λ b. stands_here p v e es (stands p v es u.1) (below_none lt p (places (e ∷ es)) (a, f)) (below_none lt p (places es) f) (same-ties e.place p a b) i l)
        (cases_Bool (lt p e.place)))
        (cases_Bool (lt e.place p))

    pub at-run : (es : List (Entry P V)) (p : P) (i : ℕ) (v : V) → Rising lt es → i < length (run lt es p) → v ≡ get_or (run lt es p) i v → get_or es (below lt (places es) p + i) (entry p v) ≡ entry p v
    at-run es p i v up l read = stands p v es (sorted-up lt (places es) up) i l ∙ ap (entry p) (sym read)

    -- the value at i of the run at p is taken out
    pub loses : (es : List (Entry P V)) (p : P) (i : ℕ) (v : V) → Rising lt es → i < length (run lt es p) → v ≡ get_or (run lt es p) i v → Gains lt (remove es (below lt (places es) p + i)) es p i v
    loses es p i v up li read =
        let w = run_fits p es in
        let lm : below lt (places es) p + i < length es = omega arith in
        let at = at-run es p i v up li read in
        let m : ℕ = below lt (places es) p + i in
        let fs : List (Entry P V) = remove es m in
        let back : insert fs m (entry p v) ≡ es = put_back m es (entry p v) lm at in
        let n : length (run lt (take m fs) p) ≡ i = ap (λ ys. length (run lt ys p)) (take_out m es) ∙ cut p es (sorted-up lt (places es) up) i (omega arith) in
        let here : run lt es p ≡ insert (run lt fs p) i v = ap (λ ys. run lt ys p) (sym back) ∙ run-here fs m p v i n in
        let c : length (run lt es p) ≡ length (run lt fs p) + 1 = ap length here ∙ length-in i (run lt fs p) v in
        record {
          within = omega arith;
          here = here;
          there = λ q ne. ap (λ ys. run lt ys q) (sym back) ∙ run-there fs m (entry p v) q ne;
        }

    -- ---- a value replaced

    set-in : (m : ℕ) (es : List (Entry P V)) (e : Entry P V) → m < length es → set es m e ≡ insert (remove es m) m e
    set-in zero [] e l = absurd (omega arith)
    set-in zero (x ∷ es) e l = refl
    set-in (suc m) [] e l = absurd (omega arith)
    set-in (suc m) (x ∷ es) e l = ap (λ ys. x ∷ ys) (set-in m es e (omega arith))

    places-set : (m : ℕ) (es : List (Entry P V)) (p : P) (v w : V) → m < length es → get_or es m (entry p w) ≡ entry p w → places (set es m (entry p v)) ≡ places es
    places-set zero [] p v w l r = absurd (omega arith)
    places-set zero (x ∷ es) p v w l r = ap (λ y. y.place ∷ places es) (sym r)
    places-set (suc m) [] p v w l r = absurd (omega arith)
    places-set (suc m) (x ∷ es) p v w l r = ap (λ ys. x.place ∷ ys) (places-set m es p v w (omega arith) r)

    pub replaces : (es : List (Entry P V)) (p : P) (i : ℕ) (v : V) → Rising lt es → i < length (run lt es p) → Rising lt (set es (below lt (places es) p + i) (entry p v)) × Sets lt es (set es (below lt (places es) p + i) (entry p v)) p i v
    replaces es p i v up li =
        let w : V = get_or (run lt es p) i v in
        let read : w ≡ get_or (run lt es p) i w = get_or_default (run lt es p) i v w li in
        let f = run_fits p es in
        let lm : below lt (places es) p + i < length es = omega arith in
        let at = at-run es p i w up li read in
        let m : ℕ = below lt (places es) p + i in
        let fs : List (Entry P V) = remove es m in
        let g : Gains lt fs es p i w = loses es p i w up li read in
        let le : i ≤ length (run lt fs p) = g.within in
        let is : set es m (entry p v) ≡ insert fs m (entry p v) = set-in m es (entry p v) lm in
        let n : length (run lt (take m fs) p) ≡ i = ap (λ ys. length (run lt ys p)) (take_out m es) ∙ cut p es (sorted-up lt (places es) up) i (omega arith) in (
          subst (Sorted lt) (sym (places-set m es p v w lm at)) up,
          record {
            within = li;
            here =
                ap (λ ys. run lt ys p) is ∙ run-here fs m p v i n
                ∙ sym (ap (λ ys. set ys i v) g.here ∙ set_at (take i (run lt fs p)) w (drop i (run lt fs p)) v i (length-take-le i (run lt fs p) le));
            there = λ q ne. ap (λ ys. run lt ys q) is ∙ run-there fs m (entry p v) q ne ∙ sym (g.there q ne);
          },
        )
