-- What the stores of windows mean, and that it is sound. Assumes nothing.
use Rattle.std.specs.Prelude.{ℕ}
use Rattle.std.specs.declared.cmp.Ord as Ord
use Rattle.std.specs.declared.cmp.PartialEq as PartialEq
use Rattle.std.specs.declared.cmp.PartialOrd as PartialOrd
use Rattle.std.specs.Ordering.{nat_cmp}
use Rattle.keys.specs.Order.{Lawful}
use Rattle.keys.specs.Laws.{numbers_lawful}
use Rattle.store.specs.Meaning.{Meaning, Sound, Windows}
use Rattle.layout.specs.Windows.{cells_meaning}
use Rattle.layout.proofs.Steps as Steps
use Rattle.windows.specs.declared.pocket.Pocket.{Pocket}
use Rattle.windows.specs.declared.windows.WindowStore.{WindowStore}

module _ {K V : Type 0} {o : Ord.Ghosts K} {e : PartialEq.Ghosts K} {p : PartialOrd.Ghosts K} where
  abbrev pub windows_meaning : WindowStore K V o e p → Meaning K V
  windows_meaning s = cells_meaning s.keys.now s.values.now s.lengths.now s.layout.window s.layout.partitions

  pub windows_sound : Lawful o.cmp → (s : WindowStore K V o e p) → Sound o.cmp (windows_meaning s)
  windows_sound l s = Steps.sound l s.keys.now s.values.now s.lengths.now s.layout.window s.layout.partitions s.sorts

  pub windows_full : Lawful o.cmp → (s : WindowStore K V o e p) → Windows (windows_meaning s)
  windows_full l s = Steps.windows l s.keys.now s.values.now s.lengths.now s.layout.window s.layout.partitions s.sorts

abbrev pub pocket_meaning : Pocket → Meaning ℕ ℕ
pocket_meaning s = cells_meaning s.keys s.values s.lengths 4 256

pub pocket_sound : (s : Pocket) → Sound nat_cmp (pocket_meaning s)
pocket_sound s = Steps.sound numbers_lawful s.keys s.values s.lengths 4 256 s.sorts

pub pocket_full : (s : Pocket) → Windows (pocket_meaning s)
pocket_full s = Steps.windows numbers_lawful s.keys s.values s.lengths 4 256 s.sorts
