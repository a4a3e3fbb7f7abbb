-- What a word is as a value. Assumes nothing.
use Rattle.std.specs.Prelude.{ℕ, Bool, List, length, ℤ, Ok, Err, Result, ◌==◌, nat_lt, if◌then◌else◌}
use Rattle.std.specs.List.{position_or_len, before_first, after_first}
use Rattle.words.specs.declared.reason.Reason.{Reason}
use Rattle.words.specs.declared.words.ValueWord.{ValueWord}
use Rattle.words.specs.declared.words.ValueWord.TheVariants.{Position, Weighing}
use Rattle.words.specs.Digits.{number_of, grams_of, ok_by}

-- a weighing, from its scale and its grams; a wrong scale is told first
abbrev pub weighing_of : Result ℕ Reason → Result ℤ Reason → Result ValueWord Reason
weighing_of (Err e) grams = Err e
weighing_of (Ok scale) (Err e) = Err e
weighing_of (Ok scale) (Ok grams) = Ok (Weighing scale grams)

-- b is a `:`
abbrev pub is_colon : ℕ → Bool
is_colon b = b == 58

-- what a word is as a value: with a `:` it is a weighing, of a scale before the first and grams behind
abbrev pub value_of : List ℕ → Result ValueWord Reason
value_of bs =
    if nat_lt (position_or_len is_colon bs) (length bs)
    then weighing_of (number_of 4294967295 (before_first is_colon bs)) (grams_of (after_first is_colon bs))
    else ok_by Position (number_of 18446744073709551615 bs)
