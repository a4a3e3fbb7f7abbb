-- What windows that are read mean. Assumes nothing.
use Rattle.std.specs.declared.cmp.Ord as Ord
use Rattle.std.specs.declared.cmp.PartialEq as PartialEq
use Rattle.std.specs.declared.cmp.PartialOrd as PartialOrd
use Rattle.store.specs.Meaning.{Meaning}
use Rattle.layout.specs.Windows.{cells_meaning}
use Rattle.layout.specs.declared.cells.Cells.{Cells}

abbrev pub meaning : {K V : Type 0} {o : Ord.Ghosts K} {e : PartialEq.Ghosts K} {p : PartialOrd.Ghosts K} → Cells K V o e p → Meaning K V
meaning s = cells_meaning s.keys.now s.values.now s.lengths.now s.layout.window s.layout.partitions
