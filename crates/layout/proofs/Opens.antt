-- A store that is opened: windows with nothing in them. Assumes nothing.
use Rattle.std.proofs.Common.{◌≡◌, ℕ, ◌*◌, ◌^◌, ◌<◌, ◌≤◌, Bool, true, false, cond, ◌&&◌, eqb, ltb, leb, List, [], length, get_or, take, drop, Ordering, sym, ap, ◌∙◌, subst, ⊎_elim, arith}
use Rattle.std.proofs.lemmas.Bool.{cases_lt, cond-true, cond-false, lt-ltb, le-ltb, leb-true, eqb-true, and_parts}
use Rattle.keys.specs.Order.{before}
use Rattle.contents.specs.Sorted.{Sorted}
use Rattle.contents.specs.Entries.{entries}
use Rattle.store.specs.Meaning.{void}
use Rattle.layout.specs.Windows.{used, window, spare, cells_meaning, bare, opened, fitting, Sorts}
use Rattle.layout.proofs.Used.{used-in, used-out}
use Rattle.layout.proofs.Stacked.{stacked-nil}
use Rattle.layout.proofs.Steps.{spare-in, spare-out}

module _ {K V : Type 0} (cmp : K → K → Ordering) (ks : List K) (vs : List V) (ns : List ℕ) (w n : ℕ) (zeros : (q : ℕ) → q < n → get_or ns q 0 ≡ 0) where
  none-used : (q : ℕ) → used ks ns w n q ≡ []
  none-used q =
      ⊎_elim
      (λ h. used-in ks ns w n q h ∙ ap (λ m. take m (drop (q * w) ks)) (zeros q h))
      (used-out ks ns w n q)
      (cases_lt q n)

  nothing : (q : ℕ) → window ks vs ns w n q ≡ []
  nothing q = ap (λ xs. entries xs (used vs ns w n q)) (none-used q)

  all-spare : (q : ℕ) → spare ns w n q ≡ cond (ltb q n) w 0
  all-spare q =
      ⊎_elim
      (λ h. let z = zeros q h in let e = spare-in ns w n q h in let d = cond-true (ltb q n) w 0 (lt-ltb q n h) in omega arith)
      (λ h. spare-out ns w n q h ∙ sym (cond-false (ltb q n) w 0 (le-ltb q n h)))
      (cases_lt q n)

  pub opens_bare : cells_meaning ks vs ns w n ≡ bare w n
  opens_bare = λ i. record {
    contents = stacked-nil (window ks vs ns w n) nothing 0 n i;
    partitions = n;
    space = λ q. all-spare q i;
    assured = w;
  }

  pub opens_sorted : n ≤ length ns → n * w ≤ length ks → n * w ≤ length vs → w ≤ 512 → n < 2 ^ 64 → Sorts cmp ks vs ns w n
  opens_sorted a b c d e = record {
    keys = record {
      lengths = record { enough = a; full = λ q h. let z = zeros q h in omega arith };
      fit = b;
      sorted = λ q. subst (Sorted (before cmp)) (sym (none-used q)) (λ i j x le l. absurd (omega arith));
    };
    values_fit = c;
    narrow = d;
    few = e;
  }

no_space : (q : ℕ) → ◌≡◌ {A = ℕ} (cond (ltb q 0) 0 0) 0
no_space q = cond-false {A = ℕ} (ltb q 0) 0 0 (le-ltb q 0 (omega arith))

bare-void : {K V : Type 0} → bare {K = K} {V = V} 0 0 ≡ void
bare-void = λ i. record { contents = []; partitions = 0; space = λ q. no_space q i; assured = 0 }

module _ {K V : Type 0} (cmp : K → K → Ordering) (ks : List K) (vs : List V) (ns : List ℕ) (w : ℕ) where
  abbrev fits : Bool
  fits = fitting (length ks) (length vs) (length ns) w

  pub opens : (ms : List ℕ) → length ms ≡ length ns → length ns < 2 ^ 64 → ((q : ℕ) → q < length ns → get_or ms q 0 ≡ 0) → fits ≡ true → Sorts cmp ks vs ms w (length ns) × (cells_meaning ks vs ms w (length ns) ≡ opened (length ks) (length vs) (length ns) w)
  opens ms long few zeros h =
      let c : ℕ = length ks in
      let d : ℕ = length vs in
      let n : ℕ = length ns in
      let a = and_parts (leb 1 w && leb w 512) (eqb c (n * w) && eqb d (n * w)) h in
      let b = leb-true w 512 (and_parts (leb 1 w) (leb w 512) a.0).1 in
      let e = and_parts (eqb c (n * w)) (eqb d (n * w)) a.1 in
      let x = eqb-true c (n * w) e.0 in
      let y = eqb-true d (n * w) e.1 in (
        opens_sorted cmp ks vs ms w n zeros (omega arith) (omega arith) (omega arith) b few,
        opens_bare cmp ks vs ms w n zeros ∙ sym (cond-true fits (bare w n) void h),
      )

  pub opens_void : fits ≡ false → Sorts cmp ks vs ns 0 0 × (cells_meaning ks vs ns 0 0 ≡ opened (length ks) (length vs) (length ns) w)
  opens_void h =
      let zeros : (q : ℕ) → q < 0 → get_or ns q 0 ≡ 0 = λ q l. absurd (omega arith) in (
        opens_sorted cmp ks vs ns 0 0 zeros (omega arith) (omega arith) (omega arith) (omega arith) (omega arith),
        opens_bare cmp ks vs ns 0 0 zeros ∙ bare-void ∙ sym (cond-false fits (bare w (length ns)) void h),
      )
