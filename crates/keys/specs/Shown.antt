-- How a label prints. Assumes nothing.
use Rattle.std.specs.Prelude.{ℕ, ◌/◌, ◌%◌, List, [], ◌∷◌, false, flat_map}
use Rattle.std.specs.Fmt.{digit_glyph}
use Rattle.keys.specs.declared.label.Label.{Label}

-- the two hexadecimal digits of a byte
abbrev pub byte_text : ℕ → List ℕ
byte_text b = digit_glyph false (b / 16) ∷ digit_glyph false (b % 16) ∷ []

-- its bytes, each in two hexadecimal digits in lower case
abbrev pub label_text : Label → List ℕ
label_text l = flat_map byte_text l.bytes
