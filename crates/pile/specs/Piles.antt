-- A pile as a value: what it means, and that it is sound. Assumes nothing.
use Rattle.std.specs.Prelude.{◌≡◌, ℕ, Ok, Err, Result}
use Rattle.std.specs.declared.cmp.Ord as Ord
use Rattle.std.specs.declared.cmp.PartialEq as PartialEq
use Rattle.std.specs.declared.cmp.PartialOrd as PartialOrd
use Rattle.keys.specs.Order.{Lawful}
use Rattle.keys.specs.Laws.{places_lawful}
use Rattle.keys.proofs.Tests.{total}
use Rattle.store.specs.declared.refusal.Refusal.{Refusal}
use Rattle.store.specs.declared.store.Store as Store
use Rattle.store.specs.Meaning.{Meaning, Sound, Windows}
use Rattle.joint.specs.Piled.{joint, live_or_void, Counted}
use Rattle.joint.proofs.Joint as Joint
use Rattle.pile.specs.Homes.{Lives, At}
use Rattle.pile.specs.declared.Home.{Home}
use Rattle.pile.specs.declared.Pile.{Pile}

-- of any windows W with the members w, and any side S with the members s
module _ {W S K V : Type 0} {w : Store.Ghosts W K V} {o : Ord.Ghosts K} {e : PartialEq.Ghosts K} {p : PartialOrd.Ghosts K} {s : Store.Ghosts S K V} where
  abbrev pub pile_meaning : Pile W S K V w o e p s → Meaning K V
  pile_meaning t = live_or_void o.cmp t.live (w.meaning t.windows) (s.meaning t.side)

  -- what it means while it is live
  abbrev pub live_meaning : Pile W S K V w o e p s → Meaning K V
  live_meaning t = joint o.cmp (w.meaning t.windows) (s.meaning t.side)

  -- what is known of its stores while it is live
  abbrev pub LivePile : Pile W S K V w o e p s → Type 0
  LivePile t = Lives o.cmp t.live (w.meaning t.windows) (s.meaning t.side)

  -- where the calls at partition q go
  abbrev pub HomeIs : Pile W S K V w o e p s → ℕ → Home → Type 0
  HomeIs t q r = At o.cmp t.live (w.meaning t.windows) (s.meaning t.side) q r

  -- what a put at partition q adds to the spills, from the pile t to u; a refused put adds nothing
  abbrev pub Spills : Pile W S K V w o e p s → Pile W S K V w o e p s → ℕ → Result Unit Refusal → Type 0
  Spills t u q (Ok _) = Counted (w.meaning t.windows) (s.meaning t.side) (s.meaning u.side) q t.spills u.spills
  Spills t u q (Err _) = u.spills ≡ t.spills

  pub pile_sound : Lawful o.cmp → ((x : W) → Sound o.cmp (w.meaning x)) → ((x : W) → Windows (w.meaning x)) → ((y : S) → Sound o.cmp (s.meaning y)) → (t : Pile W S K V w o e p s) → Sound o.cmp (pile_meaning t)
  pile_sound l a b c t =
      Joint.pile_sound o.cmp (total (places_lawful o.cmp l)) t.live (w.meaning t.windows) (s.meaning t.side)
      record { windows = a t.windows; side = c t.side; full = b t.windows } t.apiece
