-- Two lists alongside as one of entries, and what a change of both does to it. Assumes nothing.
use Rattle.std.proofs.Common.{◌≡◌, ℕ, zero, suc, ◌-◌, ◌<◌, ◌≤◌, Bool, List, [], ◌∷◌, ◌++◌, length, get_or, take, drop, set, sym, refl, ap, ◌∙◌, subst, arith}
use Rattle.std.specs.List.{insert, remove}
use Rattle.std.proofs.lemmas.List.Edits.{length-between}
use Rattle.std.proofs.lemmas.Bool.{not-true}
use Rattle.keys.specs.Order.{Total}
use Rattle.contents.specs.Sorted.{Sorted, below, upto}
use Rattle.contents.specs.Entries.{entry, entries, places, Rising, run}
use Rattle.contents.proofs.Bounds.{run_is, below_parts, upto-parts}

module _ {P V : Type 0} where
  pub length-entries : (ps : List P) (vs : List V) → length ps ≡ length vs → length (entries ps vs) ≡ length ps
  length-entries [] vs n = refl
  length-entries (p ∷ ps) [] n = absurd (omega arith)
  length-entries (p ∷ ps) (v ∷ vs) n = ap suc (length-entries ps vs (omega arith))

  pub places-entries : (ps : List P) (vs : List V) → length ps ≡ length vs → places (entries ps vs) ≡ ps
  places-entries [] vs n = refl
  places-entries (p ∷ ps) [] n = absurd (omega arith)
  places-entries (p ∷ ps) (v ∷ vs) n = ap (λ xs. p ∷ xs) (places-entries ps vs (omega arith))

  pub entries-in : (i : ℕ) (ps : List P) (vs : List V) (p : P) (v : V) → length ps ≡ length vs → entries (insert ps i p) (insert vs i v) ≡ insert (entries ps vs) i (entry p v)
  entries-in zero ps vs p v n = refl
  entries-in (suc i) [] [] p v n = refl
  entries-in (suc i) [] (w ∷ vs) p v n = absurd (omega arith)
  entries-in (suc i) (q ∷ ps) [] p v n = absurd (omega arith)
  entries-in (suc i) (q ∷ ps) (w ∷ vs) p v n = ap (λ es. entry q w ∷ es) (entries-in i ps vs p v (omega arith))

  entries-drop : (e : ℕ) (ps : List P) (vs : List V) → length ps ≡ length vs → entries (drop e ps) (drop e vs) ≡ drop e (entries ps vs)
  entries-drop zero ps vs n = refl
  entries-drop (suc e) [] [] n = refl
  entries-drop (suc e) [] (w ∷ vs) n = absurd (omega arith)
  entries-drop (suc e) (q ∷ ps) [] n = absurd (omega arith)
  entries-drop (suc e) (q ∷ ps) (w ∷ vs) n = entries-drop e ps vs (omega arith)

  -- the part from s to e taken out of both
  pub entries-gap : (s e : ℕ) (ps : List P) (vs : List V) → s ≤ e → length ps ≡ length vs → entries (take s ps ++ drop e ps) (take s vs ++ drop e vs) ≡ take s (entries ps vs) ++ drop e (entries ps vs)
  entries-gap zero e ps vs le n = entries-drop e ps vs n
  entries-gap (suc s) zero ps vs le n = absurd (omega arith)
  entries-gap (suc s) (suc e) [] [] le n = refl
  entries-gap (suc s) (suc e) [] (w ∷ vs) le n = absurd (omega arith)
  entries-gap (suc s) (suc e) (q ∷ ps) [] le n = absurd (omega arith)
  entries-gap (suc s) (suc e) (q ∷ ps) (w ∷ vs) le n = ap (λ es. entry q w ∷ es) (entries-gap s e ps vs (omega arith) (omega arith))

  pub entries-out : (i : ℕ) (ps : List P) (vs : List V) → length ps ≡ length vs → entries (remove ps i) (remove vs i) ≡ remove (entries ps vs) i
  entries-out i ps vs n = entries-gap i (suc i) ps vs (omega arith) n

  pub entries-set : (i : ℕ) (ps : List P) (vs : List V) (p : P) (v : V) → length ps ≡ length vs → i < length ps → get_or ps i p ≡ p → entries ps (set vs i v) ≡ set (entries ps vs) i (entry p v)
  entries-set i [] vs p v n l e = absurd (omega arith)
  entries-set i (q ∷ ps) [] p v n l e = absurd (omega arith)
  entries-set zero (q ∷ ps) (w ∷ vs) p v n l e = ap (λ x. entry x v ∷ entries ps vs) e
  entries-set (suc i) (q ∷ ps) (w ∷ vs) p v n l e = ap (λ es. entry q w ∷ es) (entries-set i ps vs p v (omega arith) (omega arith) e)

  module _ {lt : P → P → Bool} (o : Total lt) (ps : List P) (vs : List V) (up : Sorted lt ps) (n : length ps ≡ length vs) where
    pub rising-entries : Rising lt (entries ps vs)
    rising-entries = subst (Sorted lt) (sym (places-entries ps vs n)) up

    pub length_run : (p : P) → length (run lt (entries ps vs) p) ≡ upto lt ps p - below lt ps p
    length_run p =
        let h = (upto-parts o ps p up).within in
        ap length (sym (run_is o ps vs p up n)) ∙ length-between vs (below lt ps p) (upto lt ps p) (omega arith)

-- between the two bounds stands the key itself
pub key_at : {P : Type 0} {lt : P → P → Bool} (o : Total lt) (ps : List P) → Sorted lt ps → (p : P) (i : ℕ) → below lt ps p ≤ i → i < upto lt ps p → get_or ps i p ≡ p
key_at {lt = lt} o ps up p i a b =
    let u = upto-parts o ps p up in
    let h = u.within in
    o.total (get_or ps i p) p ((below_parts o ps p up).after i p a (omega arith)) (not-true (lt p (get_or ps i p)) (u.before i p b))
