-- The number of each refusal. Assumes nothing.
use Rattle.std.specs.Prelude.{ℕ}
use Rattle.store.specs.declared.refusal.Refusal.{Refusal}
use Rattle.store.specs.declared.refusal.Refusal.TheVariants.{Unsound, NoSpace, FewSlots, PastEnd}

abbrev pub number : Refusal → ℕ
number Unsound = 1  -- the book was opened unsoundly
number NoSpace = 6  -- a put is needed, and there is no space
number FewSlots = 8  -- too few slots for the run
number PastEnd = 9  -- a store's put past the end of a run
