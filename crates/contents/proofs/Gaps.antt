-- A run taken out whole: the entries between its two bounds. Assumes nothing.
use Rattle.std.proofs.Common.{◌≡◌, ℕ, zero, suc, ◌+◌, ◌-◌, ◌<◌, ◌≤◌, Bool, false, List, [], ◌∷◌, ◌++◌, length, get_or, take, drop, sym, refl, ap, ◌∙◌, arith}
use Rattle.std.specs.List.{between}
use Rattle.std.proofs.lemmas.List.{drop-drop, take-map, drop-map, get_or-take, get_or-drop, length-take, length-drop, length-map}
use Rattle.std.proofs.lemmas.List.Edits.{get_or-between}
use Rattle.std.proofs.lemmas.Bool.{not-true, not-false}
use Rattle.keys.specs.Order.{Total}
use Rattle.contents.specs.Sorted.{below, upto}
use Rattle.contents.specs.Entries.{Entry, places, Rising, same, run}
use Rattle.contents.specs.Changes.{Clears}
use Rattle.contents.proofs.Bounds.{below_parts, upto-parts, below-upto}
use Rattle.contents.proofs.Laws.{From, Up, sorted-up, up_sorted, skip, same_not, apart-before, apart-after, run-append, run-parts}

module _ {P V : Type 0} {lt : P → P → Bool} (o : Total lt) where
  from_drop : (e : ℕ) (x : P) (es : List (Entry P V)) → From lt x (places es) → From lt x (places (drop e es))
  from_drop zero x es h = h
  from_drop (suc e) x [] h = tt
  from_drop (suc e) x (y ∷ es) h = from_drop e x es h.1

  from_gap : (s e : ℕ) (x : P) (es : List (Entry P V)) → s ≤ e → From lt x (places es) → From lt x (places (take s es ++ drop e es))
  from_gap zero e x es le h = from_drop e x es h
  from_gap (suc s) zero x es le h = absurd (omega arith)
  from_gap (suc s) (suc e) x [] le h = tt
  from_gap (suc s) (suc e) x (y ∷ es) le h = (h.0, from_gap s e x es (omega arith) h.1)

  up_drop : (e : ℕ) (es : List (Entry P V)) → Up lt (places es) → Up lt (places (drop e es))
  up_drop zero es u = u
  up_drop (suc e) [] u = tt
  up_drop (suc e) (y ∷ es) u = up_drop e es u.1

  up_gap : (s e : ℕ) (es : List (Entry P V)) → s ≤ e → Up lt (places es) → Up lt (places (take s es ++ drop e es))
  up_gap zero e es le u = up_drop e es u
  up_gap (suc s) zero es le u = absurd (omega arith)
  up_gap (suc s) (suc e) [] le u = tt
  up_gap (suc s) (suc e) (y ∷ es) le u = (from_gap s e y.place es (omega arith) u.0, up_gap s e es (omega arith) u.1)

  pub rising-gap : (es : List (Entry P V)) (s e : ℕ) → s ≤ e → Rising lt es → Rising lt (take s es ++ drop e es)
  rising-gap es s e le u = up_sorted o (places (take s es ++ drop e es)) (up_gap s e es le (sorted-up lt (places es) u))

  -- none of the entries is at q
  run_none : (es : List (Entry P V)) (q : P) → ((k : ℕ) (d : P) → k < length es → same lt (get_or (places es) k d) q ≡ false) → run lt es q ≡ []
  run_none [] q f = refl
  run_none (e ∷ es) q f = skip o e es q (f 0 e.place (omega arith)) ∙ run_none es q (λ k d l. f (suc k) d (omega arith))

  module _ (es : List (Entry P V)) (p : P) (up : Rising lt es) where
    abbrev s : ℕ
    s = below lt (places es) p

    abbrev e : ℕ
    e = upto lt (places es) p

    low : run lt (take s es) p ≡ []
    low = run_none (take s es) p
        (λ k d l.
        let n = length-take s es in
        let at : get_or (places (take s es)) k d ≡ get_or (places es) k d = ap (λ xs. get_or xs k d) (sym (take-map (λ x. x.place) s es)) ∙ get_or-take s (places es) k d (omega arith) in
        ap (λ x. same lt x p) at ∙ apart-before o (get_or (places es) k d) p ((below_parts o (places es) p up).before k d (omega arith)))

    high : run lt (drop e es) p ≡ []
    high = run_none (drop e es) p
        (λ k d l.
        let n = length-drop e es in
        let m = length-map es (λ x. x.place) in
        let x : P = get_or (places es) (e + k) d in
        let at : get_or (places (drop e es)) k d ≡ x = ap (λ xs. get_or xs k d) (sym (drop-map (λ x. x.place) e es)) ∙ get_or-drop e (places es) k d in
        ap (λ x. same lt x p) at ∙ apart-after o x p (not-false (lt p x) ((upto-parts o (places es) p up).after (e + k) d (omega arith) (omega arith))))

    mid : (q : P) → (q ≡ p → ⊥) → run lt (between s e es) q ≡ []
    mid q ne = run_none (between s e es) q
        (λ k d l.
        let n = length-take (e - s) (drop s es) in
        let n' = length-drop s es in
        let m = length-map es (λ x. x.place) in
        let x : P = get_or (places es) (s + k) d in
        let at : get_or (places (between s e es)) k d ≡ x =
        ap (λ xs. get_or xs k d) (sym (take-map (λ x. x.place) (e - s) (drop s es)) ∙ ap (take (e - s)) (sym (drop-map (λ x. x.place) s es)))
        ∙ get_or-between (places es) s e k d (omega arith) in
        let here : x ≡ p =
        o.total x p ((below_parts o (places es) p up).after (s + k) d (omega arith) (omega arith)) (not-true (lt p x) ((upto-parts o (places es) p up).before (s + k) d (omega arith))) in
        ap (λ x. same lt x q) at ∙ same_not o x q (λ z. ne (sym z ∙ here)))

    pub clears-gap : Clears lt es (take s es ++ drop e es) p
    clears-gap = record {
      here = run-append o (take s es) (drop e es) p ∙ ap (λ ws. ws ++ run lt (drop e es) p) low ∙ high;
      there = λ q ne.
          let le = below-upto o (places es) p in
          let z : s + (e - s) ≡ e = omega arith in
          let rest : run lt (drop s es) q ≡ run lt (drop e es) q =
          run-parts o (drop s es) (e - s) q
          ∙ ap (λ ws. ws ++ run lt (drop (e - s) (drop s es)) q) (mid q ne)
          ∙ ap (λ xs. run lt xs q) (drop-drop (e - s) s es)
          ∙ ap (λ m. run lt (drop m es) q) z in
          run-append o (take s es) (drop e es) q ∙ ap (λ ws. run lt (take s es) q ++ ws) (sym rest) ∙ sym (run-parts o es s q);
    }
