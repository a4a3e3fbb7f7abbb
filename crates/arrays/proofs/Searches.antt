-- How many keys pass a test that the first of them pass, as the searches find it. Assumes nothing.
use Rattle.std.proofs.Common.{◌≡◌, ℕ, ◌+◌, ◌-◌, ◌<◌, ◌≤◌, Bool, true, false, not, List, length, get_or, take, drop, ap, ◌∙◌, Bor, arith, zero-le, ⊎_elim}
use Rattle.std.specs.Fn.{Called, ComputesKey}
use Rattle.std.specs.List.{prefix_len, suffix_len}
use Rattle.std.specs.List.Sorted.{IsPartitionedBy, IsPartitionPoint}
use Rattle.std.proofs.lemmas.Bool.{cases_lt, both_ways}
use Rattle.std.proofs.lemmas.List.{get_or-take, get_or-drop, length-drop, length-take-le}
use Rattle.std.proofs.lemmas.List.Sorted.{IsPartitionPoint-from_clause}
use Rattle.std.proofs.lemmas.List.Sums.{prefix_len_is, suffix_len_is}
use Rattle.keys.specs.Order.{Total}
use Rattle.contents.specs.Sorted.{Sorted, count, below, upto}
use Rattle.contents.proofs.Bounds.{Parts, parted, below_parts, upto-parts}
use denote.Param.Members.{Mut}

module _ {K : Type 0} (t : K → Bool) (ks : List K) where
  -- by halves: what `partition_point` says, where each call of its closure gives the test
  pub halved : {F : Type 0} {g : Mut F (Bor K × Unit {0}) Bool} {f : F} (n : ℕ) → Parts t ks (count t ks) → n ≤ length ks → ((q : K → Bool) → ComputesKey g q f → IsPartitionedBy q ks → IsPartitionPoint (λ y. q y ≡ true) (λ y. q y ≡ false) ks n) → ((a : Bor K × Unit {0}) (r : Bool) (f' : F) → Called g f a r f' → (r ≡ t a.0.now) × (f' ≡ f)) → n ≡ count t ks
  halved n ps within says calls =
      let point =
      IsPartitionPoint-from_clause t ks n says
      (λ i j d le l e. ⊎_elim (λ m. ps.before i d m) (λ m. absurd (both_ways (t (get_or ks j d)) (ps.after j d (omega arith) l) e)) (cases_lt i (count t ks)))
      calls in
      parted t ks n (record { within = within; before = λ k d l. point.0 k d zero-le l; after = point.1 })

  module _ (n : ℕ) (ps : Parts t ks n) (i : ℕ) (d : K) where
    -- forward from a place among those that pass
    pub scanned : i ≤ n → i + prefix_len t (drop i ks) ≡ n
    scanned le =
        let w = ps.within in
        let m = length-drop i ks in
        let e : prefix_len t (drop i ks) ≡ n - i =
        prefix_len_is t (drop i ks) (n - i) d (omega arith)
        (λ k l. ap t (get_or-drop i ks k d) ∙ ps.before (i + k) d (omega arith))
        (λ l. ap t (get_or-drop i ks (n - i) d) ∙ ps.after (i + (n - i)) d (omega arith) (omega arith)) in
        omega arith

    -- backward from a place among those that do not
    pub scanned_back : n ≤ i → i ≤ length ks → i - suffix_len (λ x. not (t x)) (take i ks) ≡ n
    scanned_back le w =
        let m = length-take-le i ks w in
        let e : suffix_len (λ x. not (t x)) (take i ks) ≡ length (take i ks) - n =
        suffix_len_is (λ x. not (t x)) (take i ks) n d (omega arith)
        (λ k a b. ap (λ x. not (t x)) (get_or-take i ks k d (omega arith)) ∙ ap not (ps.after k d a (omega arith)))
        (λ l. ap (λ x. not (t x)) (get_or-take i ks (n - 1) d (omega arith)) ∙ ap not (ps.before (n - 1) d (omega arith))) in
        omega arith

-- a key stands between its own two bounds
pub between_bounds : {K : Type 0} {lt : K → K → Bool} → Total lt → (ks : List K) → Sorted lt ks → (i : ℕ) (d : K) → i < length ks → (below lt ks (get_or ks i d) ≤ i) × (i < upto lt ks (get_or ks i d))
between_bounds {lt = lt} o ks up i d within =
    let x = get_or ks i d in (
      ⊎_elim (λ l. absurd (both_ways (lt x x) (o.irrefl x) ((below_parts o ks x up).before i d l))) (λ m. m) (cases_lt i (below lt ks x)),
      ⊎_elim (λ l. l) (λ m. absurd (both_ways (not (lt x x)) ((upto-parts o ks x up).after i d m within) (ap not (o.irrefl x)))) (cases_lt i (upto lt ks x)),
    )
