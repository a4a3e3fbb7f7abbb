-- What the calls of a book answer and leave. Assumes nothing.
use Rattle.std.specs.Prelude.{◌≡◌, ℕ, ◌-◌, ◌^◌, ◌<◌, ◌≤◌, Bool, cond, ◌&&◌, ◌⊎◌, List, ◌++◌, length, drop, Some, None, Option, Ok, Err, Result, ◌==◌, nat_le, nat_lt}
use Rattle.std.specs.declared.cmp.Ordering.{Ordering}
use Rattle.keys.specs.Order.{before}
use Rattle.keys.specs.Orders.{place_order}
use Rattle.keys.specs.declared.place.Place.{Place}
use Rattle.contents.specs.Entries.{none, keys, items}
use Rattle.store.specs.Meaning.{Meaning, run_at, PutDone}
use Rattle.store.specs.declared.refusal.Refusal.{Refusal}
use Rattle.store.specs.declared.refusal.Refusal.TheVariants.{Unsound, NoSpace, FewSlots, PastEnd}
use Rattle.translate.specs.declared.prefix.Prefix.{Prefix}
use Rattle.book.specs.declared.counts.Counts.{Counts}

-- all of a book: prefix is P, or 0 where the opening was unsound
pub record State (T K V : Type 0) : Type 0 where
  pub label : ℕ
  pub prefix : ℕ
  pub translator : T
  pub store : Meaning K V

-- P is 1 to 3, the store has 256 ^ P partitions, is assured of some space, and is empty
abbrev pub sound : {K V : Type 0} → ℕ → Meaning K V → Bool
sound p m = nat_le 1 p && nat_le p 3 && m.partitions == 256 ^ p && nat_lt 0 m.assured && none m.contents

abbrev pub opened : {T K V : Type 0} → ℕ → ℕ → Meaning K V → T → State T K V
opened label p m t = record { label = label; prefix = cond (sound p m) p 0; translator = t; store = m }

-- P of a prefix, and 0 where there is none
abbrev pub bytes : Option Prefix → ℕ
bytes None = 0
bytes (Some p) = p.bytes

-- a book that was opened unsoundly refuses; any other answers what `by` reads as a
abbrev pub AnswersBy : {T K V A B : Type 0} → (B → A) → State T K V → A → Result B Refusal → Type 0
AnswersBy by s a (Ok r) = (0 < s.prefix) × (by r ≡ a)
AnswersBy by s a (Err e) = (e ≡ Unsound) × (s.prefix ≡ 0)

-- a book that was opened unsoundly refuses; any other answers a
abbrev pub Answers : {T K V A : Type 0} → State T K V → A → Result A Refusal → Type 0
Answers = AnswersBy (λ r. r)

module _ {T K V : Type 0} (cmp : K → K → Ordering) (s : State T K V) where
  abbrev pub counts : Counts
  counts = record { keys = keys (before (place_order cmp)) s.store.contents; items = items s.store.contents; pruned = 0 }

  -- v is appended to the run at p, and nothing else changes
  pub record Appended (t : State T K V) (p : Place K) (v : V) : Type 0 where
    pub open_soundly : 0 < s.prefix
    pub room : items s.store.contents < 2 ^ 64 - 1
    pub put : PutDone cmp s.store t.store p (length (run_at cmp s.store p)) v
    pub rest : t ≡ record { label = s.label; prefix = s.prefix; translator = s.translator; store = t.store }

  -- no space is also when the count of items is full
  abbrev pub WhyInsert : Place K → Refusal → Type 0
  WhyInsert p Unsound = s.prefix ≡ 0
  WhyInsert p NoSpace = (0 < s.prefix) × ((s.store.space p.partition ≡ 0) ⊎ (items s.store.contents ≡ 2 ^ 64 - 1))
  WhyInsert p FewSlots = ⊥
  WhyInsert p PastEnd = ⊥

  abbrev pub Insert : State T K V → Place K → V → Result Unit Refusal → Type 0
  Insert t p v (Ok _) = Appended t p v
  Insert t p v (Err e) = (t ≡ s) × WhyInsert p e

  abbrev pub WhyCopy : Place K → List V → Refusal → Type 0
  WhyCopy p slots Unsound = s.prefix ≡ 0
  WhyCopy p slots NoSpace = ⊥
  WhyCopy p slots FewSlots = (0 < s.prefix) × (length slots < length (run_at cmp s.store p))
  WhyCopy p slots PastEnd = ⊥

  -- the run at p is copied to the first slots, and the slots past it keep what they held
  abbrev pub Copy : Place K → List V → List V → Result ℕ Refusal → Type 0
  Copy p slots filled (Ok n) = (0 < s.prefix) × (n ≡ length (run_at cmp s.store p)) × (n ≤ length slots) × (filled ≡ run_at cmp s.store p ++ drop n slots)
  Copy p slots filled (Err e) = (filled ≡ slots) × WhyCopy p slots e
