-- How counts print. Assumes nothing.
use Rattle.std.specs.Prelude.{ℕ, List, ◌++◌, codes}
use Rattle.std.specs.Fmt.{decimal}
use Rattle.book.specs.declared.counts.Counts.{Counts}

-- each count in decimal digits, behind its name
abbrev pub counts_text : Counts → List ℕ
counts_text c = codes "keys " ++ decimal c.keys ++ codes " items " ++ decimal c.items ++ codes " pruned " ++ decimal c.pruned
