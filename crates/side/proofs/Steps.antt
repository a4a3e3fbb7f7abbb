-- What the calls of the side-table do to its meaning. Assumes nothing.
use Rattle.std.proofs.Common.{◌≡◌, ℕ, ◌+◌, ◌-◌, ◌<◌, ◌≤◌, Bool, cond, eqb, ltb, List, [], ◌∷◌, ◌++◌, length, get_or, take, drop, set, Ordering, sym, refl, ap, ◌∙◌, subst, ⊎_elim, arith}
use Rattle.std.specs.List.{insert, remove, between}
use Rattle.std.proofs.lemmas.List.{take-append-drop, get_or-take, length-map, length-set}
use Rattle.std.proofs.lemmas.List.Edits.{get_or-between}
use Rattle.std.proofs.lemmas.Bool.{cond_below, cond_above, cases_lt, cases_Bool, both_ways, eq-eqb, ne_eqb}
use Rattle.keys.specs.Order.{Lawful, Total, before}
use Rattle.keys.specs.Orders.{place_order}
use Rattle.keys.specs.declared.place.Place.{Place}
use Rattle.keys.specs.Laws.{places_lawful}
use Rattle.keys.proofs.Tests.{total}
use Rattle.contents.specs.Sorted.{Sorted, below, upto}
use Rattle.contents.specs.Entries.{Entry, entry, places, Rising, run, none, same}
use Rattle.contents.specs.Changes.{Gains, Sets, Clears}
use Rattle.contents.proofs.Alongside.{length_run, key_at}
use Rattle.contents.proofs.Bounds.{below-upto, upto-parts, run_is}
use Rattle.contents.proofs.Gaps.{rising-gap, clears-gap}
use Rattle.contents.proofs.Laws.{gains, loses, replaces, rising-in, rising-out, same-is, same_self}
use Rattle.arrays.specs.Cells.{put_at, cut}
use Rattle.arrays.proofs.Fronts.{length-put, length_cut}
use Rattle.store.specs.Meaning.{PutDone, TakeDone, SetDone, Removed}
use Rattle.side.specs.declared.SideTable.{SideTable}
use Rattle.std.specs.declared.cmp.Ord as Ord
use Rattle.std.specs.declared.cmp.PartialEq as PartialEq
use Rattle.std.specs.declared.cmp.PartialOrd as PartialOrd
use Rattle.side.specs.Table.{live, side_meaning, Sorts}
use Rattle.side.specs.Tables.{Ranges, TakesPut, Holds}
use Rattle.side.proofs.Live.{same_length, length-live, places-live, live-put, live_out, live-cut, live-set}

empty-is : {X : Type 0} (n : ℕ) (xs : List X) → n ≡ length xs → eqb n 0 ≡ none xs
empty-is n [] e = eq-eqb n 0 e
empty-is n (x ∷ xs) e = ne_eqb n 0 (λ z. omega arith)

module _ {K V : Type 0} {ord : Ord.Ghosts K} {eqs : PartialEq.Ghosts K} {parts_ord : PartialOrd.Ghosts K} (l : Lawful ord.cmp) (t : SideTable K V ord eqs parts_ord) where
  abbrev cmp : K → K → Ordering
  cmp = ord.cmp

  abbrev ks : List (Place K)
  ks = t.keys.now

  abbrev vs : List V
  vs = t.values.now

  abbrev cells : ℕ
  cells = t.cells

  abbrev n : ℕ
  n = t.len

  abbrev parts : ℕ
  parts = t.partitions

  b : Sorts cmp ks vs cells n parts
  b = t.sorts

  abbrev lt : Place K → Place K → Bool
  lt = before (place_order cmp)

  abbrev es : List (Entry (Place K) V)
  es = live ks vs n

  o : Total lt
  o = total (places_lawful cmp l)

  in_keys : n ≤ length ks
  in_keys = let a = b.few in let c = b.keys_fit in omega arith

  in_values : n ≤ length vs
  in_values = let a = b.few in let c = b.values_fit in omega arith

  pub counted : n ≡ length es
  counted = sym (length-live ks vs n in_keys in_values)

  pub empty : eqb n 0 ≡ none es
  empty = empty-is n es counted

  -- ---- the space

  space-in : (q : ℕ) → q < parts → (side_meaning ks vs cells n parts).space q ≡ cells - n
  space-in q h = sym (cond_below q parts (cells - n) 0 h)

  space-out : (q : ℕ) → parts ≤ q → (side_meaning ks vs cells n parts).space q ≡ 0
  space-out q h = sym (cond_above q parts (cells - n) 0 0 h refl)

  -- ---- the places and the runs

  pub front : take n ks ≡ places es
  front = sym (places-live ks vs n in_keys in_values)

  pub sorted_front : Sorted lt (take n ks)
  sorted_front = subst (Sorted lt) (sym front) b.rising

  pub same_front : length (take n ks) ≡ length (take n vs)
  same_front = same_length ks vs n in_keys in_values

  reach : (p : Place K) → upto lt (places es) p ≤ n
  reach p = let w = (upto-parts o (places es) p b.rising).within in let m = length-map es (λ x. x.place) in let c = counted in omega arith

  count_run : (p : Place K) → length (run lt es p) ≡ upto lt (places es) p - below lt (places es) p
  count_run p = subst (λ xs. length (run lt es p) ≡ upto lt xs p - below lt xs p) front (length_run o (take n ks) (take n vs) sorted_front same_front p)

  pub ranges : (p : Place K) (s e : ℕ) → s ≡ below lt (places es) p → e ≡ upto lt (places es) p → Ranges cmp t p s e
  ranges p s e low high =
      let h = below-upto o (places es) p in
      let w = reach p in
      let r = count_run p in
      record { start = low; end = high; ordered = omega arith; within = omega arith; count = omega arith }

  -- ---- a value put in

  module _ (p : Place K) (i at : ℕ) (v : V) (slot : TakesPut cmp t p i at) where
    abbrev ks+ : List (Place K)
    ks+ = put_at ks n at p

    abbrev vs+ : List V
    vs+ = put_at vs n at v

    in_room : n < length ks
    in_room = let r = slot.room in let c = b.keys_fit in omega arith

    in_room_too : n < length vs
    in_room_too = let r = slot.room in let c = b.values_fit in omega arith

    more : live ks+ vs+ (n + 1) ≡ insert es (below lt (places es) p + i) (entry p v)
    more = live-put ks vs n at p v slot.reach in_room in_room_too ∙ ap (λ m. insert es m (entry p v)) slot.place

    put-gains : Gains lt es (live ks+ vs+ (n + 1)) p i v
    put-gains = subst (λ fs. Gains lt es fs p i v) (sym more) (gains o es p i v b.rising slot.within)

    put-sorts : Sorts cmp ks+ vs+ cells (n + 1) parts
    put-sorts =
        let x = length-put ks n at p slot.reach in_room in
        let y = length-put vs n at v slot.reach in_room_too in
        let c = b.keys_fit in
        let d = b.values_fit in
        let k = slot.known in
        let r = slot.room in
        record {
          few = omega arith;
          keys_fit = omega arith;
          values_fit = omega arith;
          bound = b.bound;
          rising = subst (Rising lt) (sym more) (rising-in o es p i v b.rising slot.within);
          inside = λ q h. ap length (put-gains.there q (λ z. let u = ap (λ x. x.partition) z in omega arith)) ∙ b.inside q h;
        }

    put-does : PutDone cmp (side_meaning ks vs cells n parts) (side_meaning ks+ vs+ cells (n + 1) parts) p i v
    put-does =
        let was = space-in p.partition slot.known in
        let r = slot.room in
        let is : (side_meaning ks+ vs+ cells (n + 1) parts).space p.partition ≡ cells - (n + 1) = sym (cond_below p.partition parts (cells - (n + 1)) 0 slot.known) in
        record { had_space = omega arith; gains = put-gains; falls = omega arith; same_partitions = refl; same_assured = refl }

    abbrev Puts : List (Place K) → List V → ℕ → Type 0
    Puts us ws m = Sorts cmp us ws cells m parts × PutDone cmp (side_meaning ks vs cells n parts) (side_meaning us ws cells m parts) p i v

    pub put-done : (us : List (Place K)) (ws : List V) (m : ℕ) → us ≡ ks+ → ws ≡ vs+ → m ≡ n + 1 → Puts us ws m
    put-done us ws m x y z = subst (λ a. Puts a ws m) (sym x) (subst (λ a. Puts ks+ a m) (sym y) (subst (Puts ks+ vs+) (sym z) (put-sorts, put-does)))

  -- ---- a value that is there

  module _ (p : Place K) (i at : ℕ) (slot : Holds cmp t p i at) where
    -- its partition exists
    known_here : p.partition < parts
    known_here = ⊎_elim (λ k. k) (λ k. let z = b.inside p k in let w = slot.within in absurd (omega arith)) (cases_lt p.partition parts)

    before_end : at < upto lt (places es) p
    before_end = let r = count_run p in let w = slot.within in let h = slot.place in omega arith

    -- ---- taken out

    module _ (v : V) (read : v ≡ get_or vs at v) where
      read-run : v ≡ get_or (run lt es p) i v
      read-run =
          let s = below lt (places es) p in
          let e = upto lt (places es) p in
          let w = before_end in
          let h = slot.place in
          let part : between s e (take n vs) ≡ run lt es p =
          subst (λ xs. between (below lt xs p) (upto lt xs p) (take n vs) ≡ run lt es p) front (run_is o (take n ks) (take n vs) p sorted_front same_front) in
          read ∙ sym (get_or-take n vs at v slot.reach) ∙ ap (λ k. get_or (take n vs) k v) slot.place ∙ sym (get_or-between (take n vs) s e i v (omega arith)) ∙ ap (λ ws. get_or ws i v) part

      abbrev ks_less : List (Place K)
      ks_less = cut ks n at (at + 1)

      abbrev vs_less : List V
      vs_less = cut vs n at (at + 1)

      less : live ks_less vs_less (n - 1) ≡ remove es (below lt (places es) p + i)
      less = live_out ks vs n in_keys in_values at slot.reach ∙ ap (remove es) slot.place

      take-gains : Gains lt (live ks_less vs_less (n - 1)) es p i v
      take-gains = subst (λ fs. Gains lt fs es p i v) (sym less) (loses o es p i v b.rising slot.within read-run)

      take-sorts : Sorts cmp ks_less vs_less cells (n - 1) parts
      take-sorts =
          let u = slot.reach in
          let h = known_here in
          let x = length_cut ks n at (at + 1) (omega arith) (omega arith) in_keys in
          let y = length_cut vs n at (at + 1) (omega arith) (omega arith) in_values in
          let w = b.few in
          let c = b.keys_fit in
          let d = b.values_fit in
          record {
            few = omega arith;
            keys_fit = omega arith;
            values_fit = omega arith;
            bound = b.bound;
            rising = subst (Rising lt) (sym less) (rising-out o es (below lt (places es) p + i) b.rising);
            inside = λ q k. ap length (sym (take-gains.there q (λ z. let u = ap (λ x. x.partition) z in omega arith))) ∙ b.inside q k;
          }

      take-does : TakeDone cmp (side_meaning ks vs cells n parts) (side_meaning ks_less vs_less cells (n - 1) parts) p i v
      take-does =
          let u = slot.reach in
          let w = b.few in
          let was = space-in p.partition known_here in
          let is : (side_meaning ks_less vs_less cells (n - 1) parts).space p.partition ≡ cells - (n - 1) = sym (cond_below p.partition parts (cells - (n - 1)) 0 known_here) in
          record { gains = take-gains; rises = omega arith; same_partitions = refl; same_assured = refl }

      abbrev Takes : List (Place K) → List V → ℕ → Type 0
      Takes us ws m = Sorts cmp us ws cells m parts × TakeDone cmp (side_meaning ks vs cells n parts) (side_meaning us ws cells m parts) p i v

      pub take_done : (us : List (Place K)) (ws : List V) (m : ℕ) → us ≡ ks_less → ws ≡ vs_less → m ≡ n - 1 → Takes us ws m
      take_done us ws m x y z = subst (λ a. Takes a ws m) (sym x) (subst (λ a. Takes ks_less a m) (sym y) (subst (Takes ks_less vs_less) (sym z) (take-sorts, take-does)))

    -- ---- replaced

    module _ (v : V) where
      abbrev vs= : List V
      vs= = set vs at v

      stands : get_or (take n ks) at p ≡ p
      stands = ap (λ xs. get_or xs at p) front ∙ key_at o (places es) b.rising p at (let h = slot.place in omega arith) before_end

      same-but : live ks vs= n ≡ set es (below lt (places es) p + i) (entry p v)
      same-but = live-set ks vs n in_keys in_values at p v slot.reach stands ∙ ap (λ k. set es k (entry p v)) slot.place

      set-sets : Sets lt es (live ks vs= n) p i v
      set-sets = subst (λ fs. Sets lt es fs p i v) (sym same-but) (replaces o es p i v b.rising slot.within).1

      set-sorts : Sorts cmp ks vs= cells n parts
      set-sorts =
          let h = known_here in
          let y = length-set vs at v in
          let d = b.values_fit in
          record {
            few = b.few;
            keys_fit = b.keys_fit;
            values_fit = omega arith;
            bound = b.bound;
            rising = subst (Rising lt) (sym same-but) (replaces o es p i v b.rising slot.within).0;
            inside = λ q k. ap length (set-sets.there q (λ z. let u = ap (λ x. x.partition) z in omega arith)) ∙ b.inside q k;
          }

      abbrev Replaces : List V → Type 0
      Replaces ws = Sorts cmp ks ws cells n parts × SetDone cmp (side_meaning ks vs cells n parts) (side_meaning ks ws cells n parts) p i v

      pub set-done : (ws : List V) → ws ≡ vs= → Replaces ws
      set-done ws x =
          subst Replaces (sym x) (set-sorts, record { sets = set-sets; same_space = λ q. refl; same_partitions = refl; same_assured = refl })

  -- ---- a run removed

  module _ (p : Place K) (s e : ℕ) (rs : Ranges cmp t p s e) where
    abbrev left : ℕ
    left = n - (e - s)

    abbrev ks0 : List (Place K)
    ks0 = cut ks n s e

    abbrev vs0 : List V
    vs0 = cut vs n s e

    gap : live ks0 vs0 left ≡ take s es ++ drop e es
    gap = live-cut ks vs n in_keys in_values s e rs.ordered rs.within

    clears : Clears lt es (live ks0 vs0 left) p
    clears =
        subst (λ fs. Clears lt es fs p)
        (sym (gap ∙ ap (λ m. take m es ++ drop e es) rs.start ∙ ap (λ m. take (below lt (places es) p) es ++ drop m es) rs.end))
        (clears-gap o es p b.rising)

    clear_inside : (q : Place K) → parts ≤ q.partition → length (run lt (live ks0 vs0 left) q) ≡ 0
    clear_inside q k =
        ⊎_elim
        (λ z. subst (λ x. length (run lt (live ks0 vs0 left) x) ≡ 0) (sym (same-is o q p z)) (ap length clears.here))
        (λ f. ap length (clears.there q (λ z. both_ways (same lt q p) f (ap (same lt q) (sym z) ∙ same_self o q))) ∙ b.inside q k)
        (cases_Bool (same lt q p))

    clear_sorts : Sorts cmp ks0 vs0 cells left parts
    clear_sorts =
        let x = length_cut ks n s e rs.ordered rs.within in_keys in
        let y = length_cut vs n s e rs.ordered rs.within in_values in
        let w = b.few in
        let c = b.keys_fit in
        let d = b.values_fit in
        record {
          few = omega arith;
          keys_fit = omega arith;
          values_fit = omega arith;
          bound = b.bound;
          rising = subst (Rising lt) (sym gap) (rising-gap o es s e rs.ordered b.rising);
          inside = clear_inside;
        }

    clear_rises : (side_meaning ks vs cells n parts).space p.partition + length (run lt es p) ≤ (side_meaning ks0 vs0 cells left parts).space p.partition
    clear_rises =
        let c = rs.count in
        let w = b.few in
        let u = rs.within in
        let d = rs.ordered in
        ⊎_elim
        (λ h.
        let was = space-in p.partition h in
        let is : (side_meaning ks0 vs0 cells left parts).space p.partition ≡ cells - left = sym (cond_below p.partition parts (cells - left) 0 h) in
        omega arith)
        (λ h.
        let was = space-out p.partition h in
        let z = b.inside p h in
        omega arith)
        (cases_lt p.partition parts)

    clear_idle : run lt es p ≡ [] → side_meaning ks0 vs0 cells left parts ≡ side_meaning ks vs cells n parts
    clear_idle h =
        let z = ap length h in
        let c = rs.count in
        let d = rs.ordered in
        let m : left ≡ n = omega arith in
        let w : e ≡ s = omega arith in
        let same : live ks0 vs0 left ≡ es = gap ∙ ap (λ k. take s es ++ drop k es) w ∙ take-append-drop s es in
        λ k. record { contents = same k; partitions = parts; space = λ q. cond (ltb q parts) (cells - m k) 0; assured = cells }

    abbrev Clearing : List (Place K) → List V → ℕ → Type 0
    Clearing us ws m = Sorts cmp us ws cells m parts × Removed cmp (side_meaning ks vs cells n parts) (side_meaning us ws cells m parts) p

    pub clear_done : (us : List (Place K)) (ws : List V) (m : ℕ) → us ≡ ks0 → ws ≡ vs0 → m ≡ left → Clearing us ws m
    clear_done us ws m x y z =
        subst (λ a. Clearing a ws m) (sym x)
        (subst (λ a. Clearing ks0 a m) (sym y)
        (subst (Clearing ks0 vs0) (sym z)
        (clear_sorts, record { clears = clears; rises = clear_rises; same_partitions = refl; same_assured = refl; idle = clear_idle })))
