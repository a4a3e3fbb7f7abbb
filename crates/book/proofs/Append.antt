-- What a value appended to a run adds to the counts. Assumes nothing.
use Rattle.std.proofs.Common.{◌≡◌, ℕ, ◌+◌, true, false, cond, List, [], ◌∷◌, length, Ordering, refl, ap, ◌∙◌, arith}
use Rattle.keys.specs.Order.{Lawful, before}
use Rattle.keys.specs.Orders.{place_order}
use Rattle.keys.specs.declared.place.Place.{Place}
use Rattle.keys.specs.Laws.{places_lawful}
use Rattle.keys.proofs.Tests.{total}
use Rattle.contents.specs.Entries.{none, keys, items}
use Rattle.contents.proofs.Laws.{keys-put, items-put}
use Rattle.store.specs.Meaning.{Meaning, Sound, PutDone, run_at}

none-at : {X : Type 0} (xs : List X) → length xs ≡ 0 → none xs ≡ true
none-at [] e = refl
none-at (x ∷ xs) e = absurd (omega arith)

some_at : {X : Type 0} (xs : List X) → (length xs ≡ 0 → ⊥) → none xs ≡ false
some_at [] e = absurd (e refl)
some_at (x ∷ xs) e = refl

module _ {K V : Type 0} {cmp : K → K → Ordering} (l : Lawful cmp) (m n : Meaning K V) (sm : Sound cmp m) (sn : Sound cmp n) (p : Place K) (i : ℕ) (v : V) (d : PutDone cmp m n p i v) where
  more_keys : keys (before (place_order cmp)) n.contents ≡ keys (before (place_order cmp)) m.contents + cond (none (run_at cmp m p)) 1 0
  more_keys = keys-put (total (places_lawful cmp l)) m.contents n.contents p i v sm.rising sn.rising d.gains

  pub more_items : items n.contents ≡ items m.contents + 1
  more_items = items-put (total (places_lawful cmp l)) m.contents n.contents p i v sm.rising sn.rising d.gains

  -- the first value of its run, and a later one
  pub keys_first : length (run_at cmp m p) ≡ 0 → keys (before (place_order cmp)) n.contents ≡ keys (before (place_order cmp)) m.contents + 1
  keys_first z = more_keys ∙ ap (λ x. keys (before (place_order cmp)) m.contents + cond x 1 0) (none-at (run_at cmp m p) z)

  pub keys_later : (length (run_at cmp m p) ≡ 0 → ⊥) → keys (before (place_order cmp)) n.contents ≡ keys (before (place_order cmp)) m.contents
  keys_later z = more_keys ∙ ap (λ x. keys (before (place_order cmp)) m.contents + cond x 1 0) (some_at (run_at cmp m p) z) ∙ omega arith
