-- What a word is as the key of a place. Assumes nothing.
use Rattle.std.specs.Prelude.{◌≡◌, ℕ, true, ◌||◌, List, is_some, None, Option, Result, MatchResult}
use Rattle.std.specs.Result.{result_ok}
use Rattle.words.specs.declared.reason.Reason.{Reason}
use Rattle.words.specs.declared.words.SubkeyWord.{SubkeyWord}
use Rattle.words.specs.Digits.{number_of, label_of}

-- the number that a subkey's word writes, if it writes one
abbrev pub as_number : SubkeyWord → Option ℕ
as_number w = w.number

-- the label that it writes, if it writes one
abbrev pub as_label : SubkeyWord → Option (List ℕ)
as_label w = w.label

-- both readings of the word, or an error where it has neither
abbrev pub Reads : List ℕ → Result SubkeyWord Reason → Type 0
Reads bs r = MatchResult r (λ w. (as_number w ≡ result_ok (number_of 4294967295 bs)) × (as_label w ≡ label_of bs) × ((is_some (as_number w) || is_some (as_label w)) ≡ true)) (λ _. (result_ok (number_of 4294967295 bs) ≡ None) × (label_of bs ≡ None))
