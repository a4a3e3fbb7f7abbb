-- The cells in use of each window, and what a write to one window does to them. Assumes nothing.
use Rattle.std.proofs.Common.{◌≡◌, ℕ, suc, ◌+◌, ◌-◌, ◌*◌, ◌<◌, ◌≤◌, cond, ltb, List, [], ◌++◌, length, get_or, take, drop, set, sym, refl, ap, ◌∙◌, subst, ⊎_elim, mul-le-mul_right, suc-mul, arith}
use Rattle.std.specs.List.{insert, remove}
use Rattle.std.proofs.lemmas.List.{take-take, take-append-le, drop_at, drop-take, length-take, length-drop, length-append, length-take-le, length-set, set-get_or, get_or-set_same, get_or-set_other}
use Rattle.std.proofs.lemmas.Slice.{take-put_mid_below, drop-put_mid}
use Rattle.std.proofs.lemmas.Bool.{cases_lt, cases_eq, cases_order, cond-true, cond-false, lt-ltb, le-ltb}
use Rattle.arrays.specs.Cells.{put_at, cut}
use Rattle.arrays.proofs.Fronts.{length-put, front_put, length_cut, front_cut, front_cut_one, front_set}
use Rattle.layout.specs.Windows.{used, cells_of, with_window, Counts}

-- the window of q has zs in use, and the others have what they had
pub record Wrote {X : Type 0} (xs : List X) (ns : List ℕ) (xs' : List X) (ns' : List ℕ) (w n q : ℕ) (zs : List X) : Type 0 where
  pub here : used xs' ns' w n q ≡ zs
  pub there : (r : ℕ) → (r ≡ q → ⊥) → used xs' ns' w n r ≡ used xs ns w n r
  pub long : length xs' ≡ length xs

-- a window of w cells among n of them
pub row_fits : (p n w : ℕ) → p < n → p * w + w ≤ n * w
row_fits p n w lt = omega (arith, suc-mul p w, mul-le-mul_right {m = suc p} {n = n} w lt)

pub counts-back : (ns : List ℕ) (w n : ℕ) → Counts ns w n → (p l : ℕ) → p < n → l ≤ w → Counts (set ns p l) w n
counts-back ns w n counts p l h le =
    let b = counts.enough in
    record {
      enough = (let m = length-set ns p l in omega arith);
      full = λ q g.
          ⊎_elim
          (λ z. subst (λ r. get_or (set ns p l) r 0 ≤ w) (sym z) (let m = get_or-set_same ns p l 0 (omega arith) in omega arith))
          (λ ne. let m = get_or-set_other ns p q l 0 ne in let f = counts.full q g in omega arith)
          (cases_eq q p);
    }

module _ {X : Type 0} (xs : List X) (ns : List ℕ) (w n : ℕ) where
  pub used-in : (q : ℕ) → q < n → used xs ns w n q ≡ take (get_or ns q 0) (drop (q * w) xs)
  used-in q h = cond-true (ltb q n) (take (get_or ns q 0) (drop (q * w) xs)) [] (lt-ltb q n h)

  pub used-out : (q : ℕ) → n ≤ q → used xs ns w n q ≡ []
  used-out q h = cond-false (ltb q n) (take (get_or ns q 0) (drop (q * w) xs)) [] (le-ltb q n h)

  -- where cells are in use there is a partition
  pub used-part : (q : ℕ) → 0 < length (used xs ns w n q) → q < n
  used-part q h = ⊎_elim (λ a. a) (λ a. let z = ap length (used-out q a) in absurd (omega arith)) (cases_lt q n)

  module _ (counts : Counts ns w n) (covered : n * w ≤ length xs) where
    -- where a window ends
    pub row_end : (q : ℕ) → q < n → q * w + w ≤ length xs
    row_end q h = let a = row_fits q n w h in omega arith

    pub length-used : (q : ℕ) → q < n → length (used xs ns w n q) ≡ get_or ns q 0
    length-used q h =
        let a = row_end q h in
        let b = counts.full q h in
        let d = length-drop (q * w) xs in
        ap length (used-in q h) ∙ length-take-le (get_or ns q 0) (drop (q * w) xs) (omega arith)

    -- the cells in use are the front of the window
    pub front_used : (q : ℕ) → q < n → take (get_or ns q 0) (cells_of xs w q) ≡ used xs ns w n q
    front_used q h = take-take (get_or ns q 0) w (drop (q * w) xs) (counts.full q h) ∙ sym (used-in q h)

    pub length-window : (q : ℕ) → q < n → length (cells_of xs w q) ≡ w
    length-window q h = let a = row_end q h in let d = length-drop (q * w) xs in length-take-le w (drop (q * w) xs) (omega arith)

    -- ---- ys stands in the window of p, and l of its cells are in use

    module _ (p l : ℕ) (ys : List X) (h : p < n) (long : length ys ≡ w) (le : l ≤ w) where
      abbrev put_back : List X
      put_back = with_window xs w p ys

      length_back : length put_back ≡ length xs
      length_back = let a = row_end p h in simp (length-append, length-take, length-drop) (omega arith)

      used-here : used put_back (set ns p l) w n p ≡ take l ys
      used-here =
          let a = row_end p h in
          let b = counts.enough in
          cond-true (ltb p n) (take (get_or (set ns p l) p 0) (drop (p * w) put_back)) [] (lt-ltb p n h)
          ∙ ap (λ m. take m (drop (p * w) put_back)) (get_or-set_same ns p l 0 (omega arith))
          ∙ ap (take l) (drop_at (take (p * w) xs) (ys ++ drop w (drop (p * w) xs)) (p * w) (length-take-le (p * w) xs (omega arith)))
          ∙ take-append-le l ys (drop w (drop (p * w) xs)) (omega arith)

      -- the other windows are as they were
      back-before : (q : ℕ) → q < p → take (get_or ns q 0) (drop (q * w) put_back) ≡ take (get_or ns q 0) (drop (q * w) xs)
      back-before q g =
          let a = row_end p h in
          let b = row_fits q p w g in
          let f = counts.full q (omega arith) in
          let m : ℕ = get_or ns q 0 in
          sym (drop-take (q * w) m put_back) ∙ ap (drop (q * w)) (take-put_mid_below (p * w) w xs ys (q * w + m) (omega arith) (omega arith)) ∙ drop-take (q * w) m xs

      back-after : (q : ℕ) → p < q → take (get_or ns q 0) (drop (q * w) put_back) ≡ take (get_or ns q 0) (drop (q * w) xs)
      back-after q g =
          let a = row_end p h in
          let b = row_fits p q w g in
          ap (take (get_or ns q 0)) (drop-put_mid (p * w) w xs ys (q * w) (omega arith) (omega arith) long)

      used-there : (q : ℕ) → (q ≡ p → ⊥) → used put_back (set ns p l) w n q ≡ used xs ns w n q
      used-there q ne =
          ap (λ m. cond (ltb q n) (take m (drop (q * w) put_back)) []) (get_or-set_other ns p q l 0 ne)
          ∙ ap (λ zs. cond (ltb q n) zs [])
          (⊎_elim (λ z. absurd (ne z)) (λ d. ⊎_elim (back-before q) (back-after q) d) (cases_order q p))

      pub wrote : Wrote xs ns put_back (set ns p l) w n p (take l ys)
      wrote = record { here = used-here; there = used-there; long = length_back }

    -- with as many in use as before
    rewrote : (p : ℕ) (ys : List X) → p < n → length ys ≡ w → Wrote xs ns (with_window xs w p ys) ns w n p (take (get_or ns p 0) ys)
    rewrote p ys h long =
        subst (λ ms. Wrote xs ns (with_window xs w p ys) ms w n p (take (get_or ns p 0) ys)) (set-get_or ns p 0)
        (wrote p (get_or ns p 0) ys h long (counts.full p h))

    -- ---- what the array functions leave in a window

    module _ (p len at : ℕ) (h : p < n) (is : len ≡ get_or ns p 0) where
      abbrev old : List X
      old = cells_of xs w p

      old-used : take len old ≡ used xs ns w n p
      old-used = ap (λ k. take k old) is ∙ front_used p h

      old-long : length old ≡ w
      old-long = length-window p h

      old-fits : len ≤ w
      old-fits = let a = counts.full p h in omega arith

      pub put-wrote : (x : X) → len < w → at ≤ len → Wrote xs ns (with_window xs w p (put_at old len at x)) (set ns p (len + 1)) w n p (insert (used xs ns w n p) at x)
      put-wrote x room le =
          let c = old-long in
          subst (Wrote xs ns (with_window xs w p (put_at old len at x)) (set ns p (len + 1)) w n p)
          (front_put old len at x le (omega arith) ∙ ap (λ us. insert us at x) old-used)
          (wrote p (len + 1) (put_at old len at x) h (length-put old len at x le (omega arith) ∙ c) (omega arith))

      pub cut-wrote : at < len → Wrote xs ns (with_window xs w p (cut old len at (at + 1))) (set ns p (len - 1)) w n p (remove (used xs ns w n p) at)
      cut-wrote lt =
          let c = old-long in
          let d = old-fits in
          subst (Wrote xs ns (with_window xs w p (cut old len at (at + 1))) (set ns p (len - 1)) w n p)
          (front_cut_one old len at lt (omega arith) ∙ ap (λ us. remove us at) old-used)
          (wrote p (len - 1) (cut old len at (at + 1)) h (length_cut old len at (at + 1) (omega arith) (omega arith) (omega arith) ∙ c) (omega arith))

      pub set-wrote : (x : X) → at < len → Wrote xs ns (with_window xs w p (set old at x)) ns w n p (set (used xs ns w n p) at x)
      set-wrote x lt =
          subst (Wrote xs ns (with_window xs w p (set old at x)) ns w n p)
          (ap (λ k. take k (set old at x)) (sym is) ∙ front_set len old at x lt ∙ ap (λ us. set us at x) old-used)
          (rewrote p (set old at x) h (length-set old at x ∙ old-long))

    -- the cells from s to e taken out
    pub gap_wrote : (p len s e : ℕ) → p < n → len ≡ get_or ns p 0 → s ≤ e → e ≤ len → Wrote xs ns (with_window xs w p (cut (cells_of xs w p) len s e)) (set ns p (len - (e - s))) w n p (take s (used xs ns w n p) ++ drop e (used xs ns w n p))
    gap_wrote p len s e h is le within =
        let zs : List X = cells_of xs w p in
        let c = length-window p h in
        let d = counts.full p h in
        subst (Wrote xs ns (with_window xs w p (cut zs len s e)) (set ns p (len - (e - s))) w n p)
        (front_cut zs len s e le within (omega arith) ∙ ap (λ us. take s us ++ drop e us) (ap (λ k. take k zs) is ∙ front_used p h))
        (wrote p (len - (e - s)) (cut zs len s e) h (length_cut zs len s e le within (omega arith) ∙ c) (omega arith))

  pub unwrote : (q : ℕ) → Wrote xs ns xs ns w n q (used xs ns w n q)
  unwrote q = record { here = refl; there = λ r ne. refl; long = refl }
