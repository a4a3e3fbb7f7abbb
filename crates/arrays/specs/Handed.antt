-- What is handed out of a chosen key. Assumes nothing.
use Rattle.std.specs.Prelude.{Bool, List, Some, None, Option}
use Rattle.contents.specs.Entries.{Entry, run}

-- the run of the chosen key, and none where no key is chosen
abbrev pub handed : {K V : Type 0} → (K → K → Bool) → List (Entry K V) → Option K → Option (List V)
handed lt es None = None
handed lt es (Some k) = Some (run lt es k)
