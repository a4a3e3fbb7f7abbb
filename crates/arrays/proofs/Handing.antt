-- The part of the values that is the run of a chosen key. Assumes nothing.
use Rattle.std.proofs.Common.{◌≡◌, ℕ, ◌-◌, Bool, true, false, not, List, length, get_or, take, Some, None, Option, sym, refl, ap, ◌∙◌, arith}
use Rattle.std.specs.List.{between, slice_get}
use Rattle.std.specs.Option.{option_map}
use Rattle.std.proofs.lemmas.List.{get_or-take, length-take-le}
use Rattle.std.proofs.lemmas.Bool.{not-true, not-false}
use Rattle.std.proofs.lemmas.Option.{slice_get_within, get_or_from_slice_get}
use Rattle.keys.specs.Order.{Total}
use Rattle.contents.specs.Sorted.{Sorted, below, upto}
use Rattle.contents.specs.Entries.{Entry, entries, run, first_that, last_that}
use Rattle.contents.proofs.Bounds.{Parts, parted, run_is}
use Rattle.arrays.specs.Handed.{handed}
use Rattle.arrays.proofs.Chosen.{first-parted, last-parted}

-- what is handed out is the run of the key that is chosen
runs : {K V : Type 0} (lt : K → K → Bool) (es : List (Entry K V)) (f : K → List V) (c : Option K) → ((x : K) → c ≡ Some x → f x ≡ run lt es x) → option_map f c ≡ handed lt es c
runs lt es f None is = refl
runs lt es f (Some x) is = ap (λ ws. Some ws) (is x refl)

module _ {K V : Type 0} {lt : K → K → Bool} (o : Total lt) (ks : List K) (vs : List V) (up : Sorted lt ks) (along : length ks ≡ length vs) where
  -- the part from s to e is the run of a key that has these bounds
  pub part_is : (s e : ℕ) (key : K) → s ≡ below lt ks key → e ≡ upto lt ks key → between s e vs ≡ run lt (entries ks vs) key
  part_is s e key p q = ap (λ n. between n e vs) p ∙ ap (λ n. between (below lt ks key) n vs) q ∙ run_is o ks vs key up along

  -- from i to the end of the run of the key there, and to i from the start of the run of the key before it
  abbrev forward : ℕ → Option (List V)
  forward i = option_map (λ k. between i (upto lt ks k) vs) (slice_get ks i)

  abbrev backward : ℕ → Option (List V)
  backward i = option_map (λ k. between (below lt ks k) i vs) (slice_get (take i ks) (i - 1))

  module _ (t : K → Bool) (n i : ℕ) (is : i ≡ n) where
    -- the keys from n on pass, and are greater than all others
    pub first-handed : Parts (λ x. not (t x)) ks n → ((x y : K) → t x ≡ false → t y ≡ true → lt x y ≡ true) → forward i ≡ handed lt (entries ks vs) (first_that t ks)
    first-handed ps apart =
        ap forward is
        ∙ runs lt (entries ks vs) (λ k. between n (upto lt ks k) vs) (slice_get ks n)
        (λ x e.
        let within = slice_get_within ks n x e in
        let at : (d : K) → get_or ks n d ≡ x = λ d. get_or_from_slice_get ks n x d e in
        let starts : n ≡ below lt ks x =
        parted (λ y. lt y x) ks n
        (record {
          within = omega arith;
          before = λ k d l. apart (get_or ks k d) x (not-true (t (get_or ks k d)) (ps.before k d l)) (ap t (sym (at x)) ∙ not-false (t (get_or ks n x)) (ps.after n x (omega arith) within));
          after = λ k d l m. ap (lt (get_or ks k d)) (sym (at d)) ∙ up n k d l m;
        }) in
        part_is n (upto lt ks x) x starts refl)
        ∙ ap (handed lt (entries ks vs)) (first-parted t ks n ps)

    -- the keys before n pass, and are less than all others
    pub last-handed : Parts t ks n → ((x y : K) → t x ≡ true → t y ≡ false → lt x y ≡ true) → backward i ≡ handed lt (entries ks vs) (last_that t ks)
    last-handed ps apart =
        ap backward is
        ∙ runs lt (entries ks vs) (λ k. between (below lt ks k) n vs) (slice_get (take n ks) (n - 1))
        (λ x e.
        let w = ps.within in
        let m = length-take-le n ks w in
        let within = slice_get_within (take n ks) (n - 1) x e in
        let at : (d : K) → get_or ks (n - 1) d ≡ x = λ d. sym (get_or-take n ks (n - 1) d (omega arith)) ∙ get_or_from_slice_get (take n ks) (n - 1) x d e in
        let stops : n ≡ upto lt ks x =
        parted (λ y. not (lt x y)) ks n
        (record {
          within = w;
          before = λ k d l. ap not (ap (λ y. lt y (get_or ks k d)) (sym (at d)) ∙ up k (n - 1) d (omega arith) (omega arith));
          after = λ k d l b. ap not (apart x (get_or ks k d) (ap t (sym (at x)) ∙ ps.before (n - 1) x (omega arith)) (ps.after k d l b));
        }) in
        part_is (below lt ks x) n x refl stops)
        ∙ ap (handed lt (entries ks vs)) (last-parted t ks n ps)

-- what a caller learns from each answer
pub handed-none : {K V : Type 0} (lt : K → K → Bool) (es : List (Entry K V)) (c : Option K) → None ≡ handed lt es c → c ≡ None
handed-none lt es None e = refl
handed-none lt es (Some k) e = cc

pub handed-some : {K V : Type 0} (lt : K → K → Bool) (es : List (Entry K V)) (c : Option K) (part : List V) → Some part ≡ handed lt es c → (k : K) × (c ≡ Some k) × (part ≡ run lt es k)
handed-some lt es None part e = absurd (let z : ◌≡◌ {A = ℕ} 0 1 = cc in omega arith)
handed-some lt es (Some k) part e = (k, refl, cc)
