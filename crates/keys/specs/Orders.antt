-- The orders of bytes, labels and places; numbers have `nat_cmp`. Assumes nothing.
use Rattle.std.specs.Prelude.{ℕ, List}
use Rattle.std.specs.declared.cmp.Ordering.{Ordering}
use Rattle.std.specs.Ordering.{ordering_then, nat_cmp}
use Rattle.std.specs.Cmp.Lexicographic.{slice_cmp}
use Rattle.keys.specs.declared.label.Label.{Label}
use Rattle.keys.specs.declared.place.Place.{Place}

-- the first byte that differs decides; bytes that begin others are the earlier
abbrev pub bytes_order : List ℕ → List ℕ → Ordering
bytes_order = slice_cmp nat_cmp

abbrev pub label_order : Label → Label → Ordering
label_order x y = bytes_order x.bytes y.bytes

-- by the partition, then by the key
abbrev pub place_order : {K : Type 0} → (K → K → Ordering) → Place K → Place K → Ordering
place_order cmp x y = ordering_then (nat_cmp x.partition y.partition) (cmp x.key y.key)
