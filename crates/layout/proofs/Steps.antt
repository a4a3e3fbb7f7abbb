-- What the calls do to the meaning of windows. Assumes nothing.
use Rattle.std.proofs.Common.{◌≡◌, ℕ, ◌+◌, ◌-◌, ◌<◌, ◌≤◌, Bool, true, false, ◌&&◌, ltb, List, [], ◌++◌, length, get_or, take, drop, set, Err, Result, Ordering, sym, refl, ap, ◌∙◌, subst, ⊎_elim, arith}
use Rattle.std.specs.Option.{option_map}
use Rattle.std.specs.Bool.{MatchBool}
use Rattle.std.specs.List.{insert, remove, AllWithin, HoldsAt}
use Rattle.std.proofs.lemmas.List.{get_or-set_same, nil_from_length, length-append, length-take, length-take-le, get_or-take, length-drop}
use Rattle.std.proofs.lemmas.List.Edits.{length-remove, get_or-between}
use Rattle.std.proofs.lemmas.Bool.{cases_lt, cases_eq, cond-true, cond-false, lt-ltb, le-ltb, eqb-true, eq-eqb, and_parts}
use Rattle.keys.specs.Order.{Lawful, Total, before}
use Rattle.keys.specs.Orders.{place_order}
use Rattle.keys.specs.declared.place.Place.{Place}
use Rattle.keys.proofs.Tests.{total}
use Rattle.contents.specs.Sorted.{Sorted, below, upto}
use Rattle.contents.specs.Entries.{Entry, entry, entries, places, Rising, run, none, first_that, last_that}
use Rattle.contents.specs.Changes.{Gains, Sets, Clears}
use Rattle.contents.proofs.Bounds.{below-upto, run_is}
use Rattle.contents.proofs.Laws.{length-in, gains, rising-in, rising-out, loses, replaces}
use Rattle.contents.proofs.Amounts.{amount-fits}
use Rattle.arrays.specs.Cells.{put_at, cut}
use Rattle.store.specs.declared.refusal.Refusal.{Refusal}
use Rattle.store.specs.declared.refusal.Refusal.TheVariants.{Unsound, NoSpace, FewSlots, PastEnd}
use Rattle.store.specs.Meaning.{Meaning, Sound, Windows, PutDone, TakeDone, SetDone, Removed, WhyPut, WhyTake, Put, Take, Set, in_part, run_at, first_in, last_in, next_in, previous_in}
use Rattle.layout.specs.Windows.{spot, used, window, spare, cells_meaning, cells_of, with_window, Counts, Sorts, Slot, Ranged, run_count, PutSlot, HeldSlot}
use Rattle.contents.proofs.Alongside.{length-entries, places-entries, entries-in, entries-out, entries-gap, entries-set, rising-entries, length_run, key_at}
use Rattle.contents.proofs.Gaps.{rising-gap, clears-gap}
use Rattle.layout.proofs.Stacked.{Lt, same-part, rising-stacked, run-stacked, amount-stacked, none-all, none-some, first-stacked, last-stacked, gains-stacked, sets-stacked, clears-stacked}
use Rattle.layout.proofs.Used.{Wrote, used-out, used-part, length-used, put-wrote, cut-wrote, gap_wrote, set-wrote, unwrote, counts-back}

module _ (ns : List ℕ) (w n : ℕ) where
  pub spare-in : (q : ℕ) → q < n → spare ns w n q ≡ w - get_or ns q 0
  spare-in q h = cond-true (ltb q n) (w - get_or ns q 0) 0 (lt-ltb q n h)

  pub spare-out : (q : ℕ) → n ≤ q → spare ns w n q ≡ 0
  spare-out q h = cond-false (ltb q n) (w - get_or ns q 0) 0 (le-ltb q n h)

module _ {K V : Type 0} {cmp : K → K → Ordering} (l : Lawful cmp) (ks : List K) (vs : List V) (ns : List ℕ) (w n : ℕ) (s : Sorts cmp ks vs ns w n) where
  abbrev lt : K → K → Bool
  lt = before cmp

  abbrev f : ℕ → List (Entry K V)
  f = window ks vs ns w n

  abbrev m : Meaning K V
  m = cells_meaning ks vs ns w n

  o : Total lt
  o = total l

  pub along : (q : ℕ) → length (used ks ns w n q) ≡ length (used vs ns w n q)
  along q =
      ⊎_elim
      (λ h. length-used ks ns w n s.keys.lengths s.keys.fit q h ∙ sym (length-used vs ns w n s.keys.lengths s.values_fit q h))
      (λ h. ap length (used-out ks ns w n q h) ∙ sym (ap length (used-out vs ns w n q h)))
      (cases_lt q n)

  pub past : (q : ℕ) → n ≤ q → f q ≡ []
  past q h = ap (λ xs. entries xs (used vs ns w n q)) (used-out ks ns w n q h)

  pub up : (q : ℕ) → Rising lt (f q)
  up q = rising-entries o (used ks ns w n q) (used vs ns w n q) (s.keys.sorted q) (along q)

  pub length-f : (q : ℕ) → q < n → length (f q) ≡ get_or ns q 0
  length-f q h = length-entries (used ks ns w n q) (used vs ns w n q) (along q) ∙ length-used ks ns w n s.keys.lengths s.keys.fit q h

  -- the run at a place is the run of its key in its window
  pub run-f : (p : Place K) → run_at cmp m p ≡ run lt (f p.partition) p.key
  run-f p = run-stacked l f n past p

  -- as the code has it, from the cells in use
  pub run-code : (p : Place K) (us : List K) (ws xs : List V) → us ≡ used ks ns w n p.partition → ws ≡ used vs ns w n p.partition → xs ≡ run lt (entries us ws) p.key → xs ≡ run_at cmp m p
  run-code p us ws xs a b e =
      e ∙ ap (λ t. run lt (entries t ws) p.key) a ∙ ap (λ t. run lt (entries (used ks ns w n p.partition) t) p.key) b ∙ sym (run-f p)

  pub count-f : (p : Place K) → length (run_at cmp m p) ≡ upto lt (used ks ns w n p.partition) p.key - below lt (used ks ns w n p.partition) p.key
  count-f p =
      ap length (run-f p) ∙ length_run o (used ks ns w n p.partition) (used vs ns w n p.partition) (s.keys.sorted p.partition) (along p.partition) p.key

  pub windows : Windows m
  windows q h =
      let a = amount-stacked l f n past q h in
      let b = length-f q h in
      let c = spare-in ns w n q h in
      let d = s.keys.lengths.full q h in
      omega arith

  pub sound : Sound cmp m
  sound = record {
    rising = rising-stacked l f up 0 n;
    inside = λ p h. run-f p ∙ ap (λ es. run lt es p.key) (past p.partition h);
    outside = spare-out ns w n;
    kept = λ q h. let a = windows q h in let b = amount-fits (in_part q) m.contents in omega arith;
    space_fits = λ q.
        let b = s.narrow in
        ⊎_elim (λ h. let e = spare-in ns w n q h in omega arith) (λ h. let e = spare-out ns w n q h in omega arith) (cases_lt q n);
    assured_fits = (let b = s.narrow in omega arith);
  }

  -- ---- the places of one partition

  places-f : (q : ℕ) → places (f q) ≡ used ks ns w n q
  places-f q = places-entries (used ks ns w n q) (used vs ns w n q) (along q)

  pub first-f : (q : ℕ) → option_map (spot q) (first_that (λ _. true) (used ks ns w n q)) ≡ first_in cmp m q
  first-f q =
      sym (first-stacked l f n past up (in_part q) q (λ p e. eqb-true p.partition q e)
      ∙ ap (λ t. option_map (spot q) (first_that t (places (f q)))) (λ i k. eq-eqb q q refl i)
      ∙ ap (λ xs. option_map (spot q) (first_that (λ _. true) xs)) (places-f q))

  pub last-f : (q : ℕ) → option_map (spot q) (last_that (λ _. true) (used ks ns w n q)) ≡ last_in cmp m q
  last-f q =
      sym (last-stacked l f n past up (in_part q) q (λ p e. eqb-true p.partition q e)
      ∙ ap (λ t. option_map (spot q) (last_that t (places (f q)))) (λ i k. eq-eqb q q refl i)
      ∙ ap (λ xs. option_map (spot q) (last_that (λ _. true) xs)) (places-f q))

  pub next-f : (p : Place K) → option_map (spot p.partition) (first_that (λ x. lt p.key x) (used ks ns w n p.partition)) ≡ next_in cmp m p
  next-f p =
      let q : ℕ = p.partition in
      sym (first-stacked l f n past up (λ x. in_part q x && Lt cmp p x) q (λ x e. eqb-true x.partition q (and_parts (in_part q x) (Lt cmp p x) e).0)
      ∙ ap (λ t. option_map (spot q) (first_that t (places (f q)))) (λ i k. (ap (λ b. b && Lt cmp p (spot q k)) (eq-eqb q q refl) ∙ same-part cmp q p.key k) i)
      ∙ ap (λ xs. option_map (spot q) (first_that (λ x. lt p.key x) xs)) (places-f q))

  pub previous-f : (p : Place K) → option_map (spot p.partition) (last_that (λ x. lt x p.key) (used ks ns w n p.partition)) ≡ previous_in cmp m p
  previous-f p =
      let q : ℕ = p.partition in
      sym (last-stacked l f n past up (λ x. in_part q x && Lt cmp x p) q (λ x e. eqb-true x.partition q (and_parts (in_part q x) (Lt cmp x p) e).0)
      ∙ ap (λ t. option_map (spot q) (last_that t (places (f q)))) (λ i k. (ap (λ b. b && Lt cmp (spot q k) p) (eq-eqb q q refl) ∙ same-part cmp q k p.key) i)
      ∙ ap (λ xs. option_map (spot q) (last_that (λ x. lt x p.key) xs)) (places-f q))

  -- ---- whether anything is held

  -- as the code finds it out: each length is 0, or one is not
  pub none-f : (r : Bool) → MatchBool r (AllWithin (λ x. x ≡ 0) (take n ns) 0 (length (take n ns))) ((k : ℕ) × (k < length (take n ns)) × HoldsAt (λ x. 0 < x) (take n ns) k) → r ≡ none m.contents
  none-f r h = none-cases r h
    where
      all-in : length (take n ns) ≡ n
      all-in = length-take-le n ns s.keys.lengths.enough

      none-cases : (r : Bool) → MatchBool r (AllWithin (λ x. x ≡ 0) (take n ns) 0 (length (take n ns))) ((k : ℕ) × (k < length (take n ns)) × HoldsAt (λ x. 0 < x) (take n ns) k) → r ≡ none m.contents
      none-cases true h =
          let z = all-in in
          sym (none-all l f n past (λ q a. length-f q a ∙ sym (get_or-take n ns q 0 a) ∙ h q 0 (omega arith) (omega arith)))
      none-cases false h =
          let z = all-in in
          let a : h.0 < n = omega (arith, h.1) in
          let e = length-f h.0 a in
          let g = get_or-take n ns h.0 0 a in
          let x = h.2 0 in
          sym (none-some l f n past h.0 a (omega arith))

  -- ---- the cells of one window change

  module _ (ks' : List K) (vs' : List V) (ns' : List ℕ) (q : ℕ) (us : List K) (ws : List V) (a : Wrote ks ns ks' ns' w n q us) (b : Wrote vs ns vs' ns' w n q ws) (c : Counts ns' w n) where
    abbrev g : ℕ → List (Entry K V)
    g = window ks' vs' ns' w n

    here : g q ≡ entries us ws
    here = ap (λ xs. entries xs (used vs' ns' w n q)) a.here ∙ ap (entries us) b.here

    there : (r : ℕ) → (r ≡ q → ⊥) → g r ≡ f r
    there r ne = ap (λ xs. entries xs (used vs' ns' w n r)) (a.there r ne) ∙ ap (entries (used ks ns w n r)) (b.there r ne)

    gone : (r : ℕ) → n ≤ r → g r ≡ []
    gone r h = ap (λ xs. entries xs (used vs' ns' w n r)) (used-out ks' ns' w n r h)

    pub sorts_after : Sorted lt us → Sorts cmp ks' vs' ns' w n
    sorts_after sorted = record {
      keys = record {
        lengths = c;
        fit = (let x = a.long in let y = s.keys.fit in omega arith);
        sorted = λ r.
            ⊎_elim
            (λ z. subst (λ t. Sorted lt (used ks' ns' w n t)) (sym z) (subst (Sorted lt) (sym a.here) sorted))
            (λ ne. subst (Sorted lt) (sym (a.there r ne)) (s.keys.sorted r))
            (cases_eq r q);
      };
      values_fit = (let x = b.long in let y = s.values_fit in omega arith);
      narrow = s.narrow;
      few = s.few;
    }

    pub clears-after : (k : K) → Clears lt (f q) (entries us ws) k → Clears (before (place_order cmp)) m.contents (cells_meaning ks' vs' ns' w n).contents (spot q k)
    clears-after k d = clears-stacked l f g n past gone q there k (subst (λ es. Clears lt (f q) es k) (sym here) d)

    module _ (k : K) (i : ℕ) (v : V) where
      pub gains-after : Gains lt (f q) (entries us ws) k i v → Gains (before (place_order cmp)) m.contents (cells_meaning ks' vs' ns' w n).contents (spot q k) i v
      gains-after d = gains-stacked l f g n past gone q there k i v (subst (λ es. Gains lt (f q) es k i v) (sym here) d)

      pub loses_after : Gains lt (entries us ws) (f q) k i v → Gains (before (place_order cmp)) (cells_meaning ks' vs' ns' w n).contents m.contents (spot q k) i v
      loses_after d = gains-stacked l g f n gone past q (λ r ne. sym (there r ne)) k i v (subst (λ es. Gains lt es (f q) k i v) (sym here) d)

      pub sets-after : Sets lt (f q) (entries us ws) k i v → Sets (before (place_order cmp)) m.contents (cells_meaning ks' vs' ns' w n).contents (spot q k) i v
      sets-after d = sets-stacked l f g n past gone q there k i v (subst (λ es. Sets lt (f q) es k i v) (sym here) d)

  -- ---- a value put in, taken out, replaced

  -- what a slot says of the run, whose first cell is start
  module _ (p : Place K) (i len at : ℕ) (t : Slot cmp ks ns w n p i len at) where
    abbrev q : ℕ
    q = p.partition

    abbrev us : List K
    us = used ks ns w n q

    abbrev ws : List V
    ws = used vs ns w n q

    at-is : at ≡ below lt (places (f q)) p.key + i
    at-is = t.place ∙ ap (λ xs. below lt xs p.key + i) (sym (places-f q))

    count-q : length (run lt (f q) p.key) ≡ run_count cmp ks ns w n p i
    count-q = length_run o us ws (s.keys.sorted q) (along q) p.key

    low : below lt us p.key ≤ upto lt us p.key
    low = below-upto o us p.key

    known : q < length ns
    known = let a = s.keys.lengths.enough in let b = t.inside in omega arith

    -- ---- a value put in

    module _ (v : V) (room : len < w) where
      abbrev ks+ : List K
      ks+ = with_window ks w q (put_at (cells_of ks w q) len at p.key)

      abbrev vs+ : List V
      vs+ = with_window vs w q (put_at (cells_of vs w q) len at v)

      abbrev ns+ : List ℕ
      ns+ = set ns q (len + 1)

      put-keys : Wrote ks ns ks+ ns+ w n q (insert us at p.key)
      put-keys = put-wrote ks ns w n s.keys.lengths s.keys.fit q len at t.inside t.counts p.key room t.reach

      put-values : Wrote vs ns vs+ ns+ w n q (insert ws at v)
      put-values = put-wrote vs ns w n s.keys.lengths s.values_fit q len at t.inside t.counts v room t.reach

      put-counts : Counts ns+ w n
      put-counts = counts-back ns w n s.keys.lengths q (len + 1) t.inside (omega arith)

      put_entries : entries (insert us at p.key) (insert ws at v) ≡ insert (f q) (below lt (places (f q)) p.key + i) (entry p.key v)
      put_entries = entries-in at us ws p.key v (along q) ∙ ap (λ x. insert (f q) x (entry p.key v)) at-is

      put_in : i ≤ length (run lt (f q) p.key)
      put_in = let x = count-q in let y = t.within in omega arith

      put-sorted : Sorted lt (insert us at p.key)
      put-sorted =
          let c : length (insert us at p.key) ≡ length (insert ws at v) = length-in at us p.key ∙ ap (λ x. x + 1) (along q) ∙ sym (length-in at ws v) in
          subst (Sorted lt) (places-entries (insert us at p.key) (insert ws at v) c)
          (subst (Rising lt) (sym put_entries) (rising-in o (f q) p.key i v (up q) put_in))

      put-sorts : Sorts cmp ks+ vs+ ns+ w n
      put-sorts = sorts_after ks+ vs+ ns+ q (insert us at p.key) (insert ws at v) put-keys put-values put-counts put-sorted

      put-does : PutDone cmp m (cells_meaning ks+ vs+ ns+ w n) p i v
      put-does =
          let x = spare-in ns w n q t.inside in
          let y = spare-in ns+ w n q t.inside in
          let z = get_or-set_same ns q (len + 1) 0 known in
          let u = t.counts in
          record {
            had_space = omega arith;
            gains = gains-after ks+ vs+ ns+ q (insert us at p.key) (insert ws at v) put-keys put-values put-counts p.key i v
                (subst (λ es. Gains lt (f q) es p.key i v) (sym put_entries) (gains o (f q) p.key i v (up q) put_in));
            falls = omega arith;
            same_partitions = refl;
            same_assured = refl;
          }

      abbrev Puts : List K → List V → Type 0
      Puts ks' vs' = Sorts cmp ks' vs' ns+ w n × PutDone cmp m (cells_meaning ks' vs' ns+ w n) p i v

      pub put-done : (ks' : List K) (vs' : List V) → ks' ≡ ks+ → vs' ≡ vs+ → Puts ks' vs'
      put-done ks' vs' a b = subst (λ xs. Puts xs vs') (sym a) (subst (Puts ks+) (sym b) (put-sorts, put-does))

    -- ---- a value that is held

    module _ (v : V) (li : i < run_count cmp ks ns w n p i) (inner : at < len) where
      held_in : i < length (run lt (f q) p.key)
      held_in = let x = count-q in omega arith

      -- as the code reads it
      read-run : v ≡ get_or ws at v → v ≡ get_or (run lt (f q) p.key) i v
      read-run r =
          let x = low in
          r ∙ ap (λ k. get_or ws k v) t.place
          ∙ sym (get_or-between ws (below lt us p.key) (upto lt us p.key) i v (omega arith))
          ∙ ap (λ xs. get_or xs i v) (run_is o us ws p.key (s.keys.sorted q) (along q))

      abbrev ks_less : List K
      ks_less = with_window ks w q (cut (cells_of ks w q) len at (at + 1))

      abbrev vs_less : List V
      vs_less = with_window vs w q (cut (cells_of vs w q) len at (at + 1))

      abbrev ns_less : List ℕ
      ns_less = set ns q (len - 1)

      cut-keys : Wrote ks ns ks_less ns_less w n q (remove us at)
      cut-keys = cut-wrote ks ns w n s.keys.lengths s.keys.fit q len at t.inside t.counts inner

      cut-values : Wrote vs ns vs_less ns_less w n q (remove ws at)
      cut-values = cut-wrote vs ns w n s.keys.lengths s.values_fit q len at t.inside t.counts inner

      cut-counts : Counts ns_less w n
      cut-counts = let x = t.full in counts-back ns w n s.keys.lengths q (len - 1) t.inside (omega arith)

      cut-entries : entries (remove us at) (remove ws at) ≡ remove (f q) (below lt (places (f q)) p.key + i)
      cut-entries = entries-out at us ws (along q) ∙ ap (remove (f q)) at-is

      cut_sorted : Sorted lt (remove us at)
      cut_sorted =
          let x = t.counts in
          let y = length-used ks ns w n s.keys.lengths s.keys.fit q t.inside in
          let z = along q in
          let c = length-remove us at (omega arith) in
          let d = length-remove ws at (omega arith) in
          subst (Sorted lt) (places-entries (remove us at) (remove ws at) (omega arith))
          (subst (Rising lt) (sym cut-entries) (rising-out o (f q) (below lt (places (f q)) p.key + i) (up q)))

      cut-sorts : Sorts cmp ks_less vs_less ns_less w n
      cut-sorts = sorts_after ks_less vs_less ns_less q (remove us at) (remove ws at) cut-keys cut-values cut-counts cut_sorted

      cut-does : v ≡ get_or ws at v → TakeDone cmp m (cells_meaning ks_less vs_less ns_less w n) p i v
      cut-does r =
          let x = spare-in ns w n q t.inside in
          let y = spare-in ns_less w n q t.inside in
          let z = get_or-set_same ns q (len - 1) 0 known in
          let u = t.counts in
          let c = t.full in
          record {
            gains = loses_after ks_less vs_less ns_less q (remove us at) (remove ws at) cut-keys cut-values cut-counts p.key i v
                (subst (λ es. Gains lt es (f q) p.key i v) (sym cut-entries) (loses o (f q) p.key i v (up q) held_in (read-run r)));
            rises = omega arith;
            same_partitions = refl;
            same_assured = refl;
          }

      abbrev Takes : List K → List V → Type 0
      Takes ks' vs' = Sorts cmp ks' vs' ns_less w n × TakeDone cmp m (cells_meaning ks' vs' ns_less w n) p i v

      pub take_done : v ≡ get_or ws at v → (ks' : List K) (vs' : List V) → ks' ≡ ks_less → vs' ≡ vs_less → Takes ks' vs'
      take_done r ks' vs' a b = subst (λ xs. Takes xs vs') (sym a) (subst (Takes ks_less) (sym b) (cut-sorts, cut-does r))

      abbrev vs= : List V
      vs= = with_window vs w q (set (cells_of vs w q) at v)

      set_values : Wrote vs ns vs= ns w n q (set ws at v)
      set_values = set-wrote vs ns w n s.keys.lengths s.values_fit q len at t.inside t.counts v inner

      set-entries : entries us (set ws at v) ≡ set (f q) (below lt (places (f q)) p.key + i) (entry p.key v)
      set-entries =
          let x = t.counts in
          let y = length-used ks ns w n s.keys.lengths s.keys.fit q t.inside in
          let z = t.place in
          let c = low in
          entries-set at us ws p.key v (along q) (omega arith) (key_at o us (s.keys.sorted q) p.key at (omega arith) (omega arith))
          ∙ ap (λ k. set (f q) k (entry p.key v)) at-is

      set-sorts : Sorts cmp ks vs= ns w n
      set-sorts = sorts_after ks vs= ns q us (set ws at v) (unwrote ks ns w n q) set_values s.keys.lengths (s.keys.sorted q)

      set_does : SetDone cmp m (cells_meaning ks vs= ns w n) p i v
      set_does = record {
        sets = sets-after ks vs= ns q us (set ws at v) (unwrote ks ns w n q) set_values s.keys.lengths p.key i v
            (subst (λ es. Sets lt (f q) es p.key i v) (sym set-entries) (replaces o (f q) p.key i v (up q) held_in).1);
        same_space = λ r. refl;
        same_partitions = refl;
        same_assured = refl;
      }

      abbrev Replaces : List V → Type 0
      Replaces vs' = Sorts cmp ks vs' ns w n × SetDone cmp m (cells_meaning ks vs' ns w n) p i v

      pub set-done : (vs' : List V) → vs' ≡ vs= → Replaces vs'
      set-done vs' b = subst Replaces (sym b) (set-sorts, set_does)

  -- ---- a run removed

  module _ (p : Place K) (start end : ℕ) (t : Ranged cmp ks ns w n p start end) where
    removed_count : length (run_at cmp m p) ≡ end - start
    removed_count = let a = count-f p in let b = t.start in let c = t.end in omega arith

    -- where there is one, its partition exists
    pub run-known : start < end → p.partition < n
    run-known h = let a = t.within in used-part ks ns w n p.partition (omega arith)

    pub run_inside : start < end → (end ≤ get_or ns p.partition 0) × (get_or ns p.partition 0 ≤ w)
    run_inside h =
        let a = t.within in
        let b = length-used ks ns w n s.keys.lengths s.keys.fit p.partition (run-known h) in
        (omega arith, s.keys.lengths.full p.partition (run-known h))

    -- where there is none
    pub none-removed : start ≡ end → Removed cmp m m p
    none-removed z =
        let c = removed_count in
        record {
          clears = record { here = nil_from_length (run_at cmp m p) (omega arith); there = λ x ne. refl };
          rises = omega arith;
          same_partitions = refl;
          same_assured = refl;
          idle = λ e. refl;
        }

    module _ (len : ℕ) (known : p.partition < n) (is : len ≡ get_or ns p.partition 0) (some : start < end) where
      abbrev ks0 : List K
      ks0 = with_window ks w p.partition (cut (cells_of ks w p.partition) len start end)

      abbrev vs0 : List V
      vs0 = with_window vs w p.partition (cut (cells_of vs w p.partition) len start end)

      abbrev ns0 : List ℕ
      ns0 = set ns p.partition (len - (end - start))

      abbrev us0 : List K
      us0 = take start (used ks ns w n p.partition) ++ drop end (used ks ns w n p.partition)

      abbrev ws0 : List V
      ws0 = take start (used vs ns w n p.partition) ++ drop end (used vs ns w n p.partition)

      end-in : end ≤ len
      end-in = let a = t.within in let b = length-used ks ns w n s.keys.lengths s.keys.fit p.partition known in omega arith

      gap_keys : Wrote ks ns ks0 ns0 w n p.partition us0
      gap_keys = gap_wrote ks ns w n s.keys.lengths s.keys.fit p.partition len start end known is (omega arith) end-in

      gap_values : Wrote vs ns vs0 ns0 w n p.partition ws0
      gap_values = gap_wrote vs ns w n s.keys.lengths s.values_fit p.partition len start end known is (omega arith) end-in

      gap_counts : Counts ns0 w n
      gap_counts = let a = s.keys.lengths.full p.partition known in counts-back ns w n s.keys.lengths p.partition (len - (end - start)) known (omega arith)

      gap_entries : entries us0 ws0 ≡ take start (f p.partition) ++ drop end (f p.partition)
      gap_entries = entries-gap start end (used ks ns w n p.partition) (used vs ns w n p.partition) (omega arith) (along p.partition)

      gap_clears : Clears lt (f p.partition) (entries us0 ws0) p.key
      gap_clears =
          let es : List (Entry K V) = f p.partition in
          let a : start ≡ below lt (places es) p.key = t.start ∙ ap (λ xs. below lt xs p.key) (sym (places-f p.partition)) in
          let b : end ≡ upto lt (places es) p.key = t.end ∙ ap (λ xs. upto lt xs p.key) (sym (places-f p.partition)) in
          subst (λ fs. Clears lt es fs p.key)
          (sym (gap_entries ∙ ap (λ x. take x es ++ drop end es) a ∙ ap (λ x. take (below lt (places es) p.key) es ++ drop x es) b))
          (clears-gap o es p.key (up p.partition))

      gap_long : length us0 ≡ length ws0
      gap_long =
          let a = along p.partition in
          let us : List K = used ks ns w n p.partition in
          let ws : List V = used vs ns w n p.partition in
          length-append (take start us) (drop end us)
          ∙ omega (arith, length-take start us, length-take start ws, length-drop end us, length-drop end ws, length-append (take start ws) (drop end ws))

      gap_sorted : Sorted lt us0
      gap_sorted =
          subst (Sorted lt) (places-entries us0 ws0 gap_long)
          (subst (Rising lt) (sym gap_entries) (rising-gap o (f p.partition) start end (omega arith) (up p.partition)))

      gap_does : Removed cmp m (cells_meaning ks0 vs0 ns0 w n) p
      gap_does =
          let a = removed_count in
          let b = spare-in ns w n p.partition known in
          let c = spare-in ns0 w n p.partition known in
          let d = get_or-set_same ns p.partition (len - (end - start)) 0 (let e = s.keys.lengths.enough in omega arith) in
          let e = s.keys.lengths.full p.partition known in
          let h = end-in in
          record {
            clears = clears-after ks0 vs0 ns0 p.partition us0 ws0 gap_keys gap_values gap_counts p.key gap_clears;
            rises = omega arith;
            same_partitions = refl;
            same_assured = refl;
            idle = λ z. let y = ap length z in absurd (omega arith);
          }

      abbrev Removes : List K → List V → Type 0
      Removes ks' vs' = Sorts cmp ks' vs' ns0 w n × Removed cmp m (cells_meaning ks' vs' ns0 w n) p

      pub remove-done : (ks' : List K) (vs' : List V) → ks' ≡ ks0 → vs' ≡ vs0 → Removes ks' vs'
      remove-done ks' vs' a b =
          subst (λ xs. Removes xs vs') (sym a)
          (subst (Removes ks0) (sym b) (sorts_after ks0 vs0 ns0 p.partition us0 ws0 gap_keys gap_values gap_counts gap_sorted, gap_does))

  -- ---- what a slot that is refused means

  why_put : (p : Place K) (i : ℕ) (e : Refusal) → PutSlot cmp ks ns w n p i (Err e) → WhyPut cmp m p i e
  why_put p i Unsound h = absurd h
  why_put p i NoSpace h = h
  why_put p i FewSlots h = absurd h
  why_put p i PastEnd h = let c = count-f p in let d = h.1 in (h.0, omega arith)

  why_held : (p : Place K) (i : ℕ) (e : Refusal) → HeldSlot cmp ks ns w n p i (Err e) → WhyTake cmp m p i e
  why_held p i Unsound h = absurd h
  why_held p i NoSpace h = absurd h
  why_held p i FewSlots h = absurd h
  why_held p i PastEnd h = let c = count-f p in omega arith

  module _ (p : Place K) (i : ℕ) (e : Refusal) where
    pub put_refused : (v : V) (r : Result Unit Refusal) → r ≡ Err e → PutSlot cmp ks ns w n p i (Err e) → Put cmp m m p i v r
    put_refused v r z h = subst (Put cmp m m p i v) (sym z) (refl, why_put p i e h)

    pub take-refused : (r : Result V Refusal) → r ≡ Err e → HeldSlot cmp ks ns w n p i (Err e) → Take cmp m m p i r
    take-refused r z h = subst (Take cmp m m p i) (sym z) (refl, why_held p i e h)

    pub set-refused : (v : V) (r : Result Unit Refusal) → r ≡ Err e → HeldSlot cmp ks ns w n p i (Err e) → Set cmp m m p i v r
    set-refused v r z h = subst (Set cmp m m p i v) (sym z) (refl, why_held p i e h)
