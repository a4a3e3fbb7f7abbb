-- Which key is the first, and which the last, that passes a test. Assumes nothing.
use Rattle.std.proofs.Common.{◌≡◌, ℕ, zero, suc, ◌-◌, ◌<◌, Bool, true, false, not, List, [], ◌∷◌, reverse, length, get_or, take, Some, None, sym, refl, ap, ◌∙◌, arith}
use Rattle.std.specs.List.{slice_get}
use Rattle.std.proofs.lemmas.List.{length-reverse, get_or-reverse, get_or-take, length-take-le}
use Rattle.std.proofs.lemmas.Bool.{not-true, not-false}
use Rattle.std.proofs.lemmas.Option.{slice_get-get_or}
use Rattle.contents.specs.Entries.{first_that, last_that}
use Rattle.contents.proofs.Bounds.{Parts, tail_suc}

-- a key of a list that has some
pub some : {K : Type 0} (ks : List K) → 0 < length ks → K
some [] h = absurd (omega arith)
some (k ∷ ks) h = k

module _ {K : Type 0} (t : K → Bool) where
  pub first-none : (ks : List K) → ((k : ℕ) (d : K) → k < length ks → t (get_or ks k d) ≡ false) → first_that t ks ≡ None
  first-none [] f = refl
  first-none (x ∷ ks) f =
      let here : t x ≡ false = f 0 x (omega arith) in
      rw here (first-none ks (λ k d l. f (suc k) d (omega arith)))

  pub first-at : (ks : List K) (n : ℕ) (d : K) → n < length ks → ((k : ℕ) (d : K) → k < n → t (get_or ks k d) ≡ false) → t (get_or ks n d) ≡ true → first_that t ks ≡ Some (get_or ks n d)
  first-at [] n d l f e = absurd (omega arith)
  first-at (x ∷ ks) zero d l f e = rw e refl
  first-at (x ∷ ks) (suc n) d l f e =
      let here : t x ≡ false = f 0 x (omega arith) in
      rw here (first-at ks n d (omega arith) (λ k d' m. f (suc k) d' (omega arith)) e)

  -- where the keys from n on pass and no others, it is the key at n
  pub first-parted : (ks : List K) (n : ℕ) → Parts (λ x. not (t x)) ks n → slice_get ks n ≡ first_that t ks
  first-parted [] n ps = refl
  first-parted (x ∷ ks) zero ps =
      let here : t x ≡ true = not-false (t x) (ps.after 0 x (omega arith) (omega arith)) in
      rw here refl
  first-parted (x ∷ ks) (suc n) ps =
      let here : t x ≡ false = not-true (t x) (ps.before 0 x (omega arith)) in
      rw here (first-parted ks n (tail_suc (λ y. not (t y)) x ks n ps))

  module _ (ks : List K) where
    turned : (n k : ℕ) (d : K) → k < length ks → n ≡ length ks - 1 - k → get_or (reverse ks) k d ≡ get_or ks n d
    turned n k d l e = get_or-reverse ks k d l ∙ ap (λ m. get_or ks m d) (sym e)

    pub last_none : ((k : ℕ) (d : K) → k < length ks → t (get_or ks k d) ≡ false) → last_that t ks ≡ None
    last_none f =
        let n = length-reverse ks in
        first-none (reverse ks) (λ k d l. ap t (turned (length ks - 1 - k) k d (omega arith) refl) ∙ f (length ks - 1 - k) d (omega arith))

    pub last-at : (n : ℕ) (d : K) → n < length ks → ((k : ℕ) (d : K) → n < k → k < length ks → t (get_or ks k d) ≡ false) → t (get_or ks n d) ≡ true → last_that t ks ≡ Some (get_or ks n d)
    last-at n d l f e =
        let m = length-reverse ks in
        let here : get_or (reverse ks) (length ks - 1 - n) d ≡ get_or ks n d = turned n (length ks - 1 - n) d (omega arith) (omega arith) in
        first-at (reverse ks) (length ks - 1 - n) d (omega arith)
        (λ k d' b. ap t (turned (length ks - 1 - k) k d' (omega arith) refl) ∙ f (length ks - 1 - k) d' (omega arith) (omega arith))
        (ap t here ∙ e)
        ∙ ap (λ x. Some x) here

    -- where the keys before n pass and no others, it is the key before n
    pub last-parted : (n : ℕ) → Parts t ks n → slice_get (take n ks) (n - 1) ≡ last_that t ks
    last-parted zero ps = sym (last_none (λ k d l. ps.after k d (omega arith) l))
    last-parted (suc i) ps =
        let w = ps.within in
        let m = length-take-le (suc i) ks w in
        let d = some ks (omega arith) in
        let j = suc i - 1 in
        slice_get-get_or (take (suc i) ks) j d (omega arith)
        ∙ ap (λ x. Some x) (get_or-take (suc i) ks j d (omega arith))
        ∙ sym (last-at j d (omega arith) (λ k d' b l. ps.after k d' (omega arith) l) (ps.before j d (omega arith)))
