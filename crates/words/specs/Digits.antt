-- What the bytes of a word write: numbers, grams, and bytes as pairs of hexadecimal digits. Assumes nothing.
use Rattle.std.specs.Prelude.{ℕ, ◌+◌, ◌-◌, ◌*◌, ◌%◌, Bool, cond, ◌&&◌, not, List, [], ◌∷◌, length, drop, ℤ, pos, neg_ℤ, Some, None, Ok, Err, fold, Option, Result, ◌==◌, nat_le, nat_lt, slice_index}
use Rattle.std.specs.Char.{is_ascii_digit, is_ascii_uppercase}
use Rattle.std.specs.List.{list_all, list_any}
use Rattle.std.specs.Option.{ok_or}
use Rattle.words.specs.declared.reason.Reason.{Reason}
use Rattle.words.specs.declared.reason.Reason.TheVariants.{MissingWord, OddDigit, WrongDigit, NotNumber, OutOfRange}

-- bs is decimal digits, one or more
abbrev pub is_numeral : List ℕ → Bool
is_numeral bs = nat_lt 0 (length bs) && list_all is_ascii_digit bs

-- the number that decimal digits write
abbrev pub decimal : List ℕ → ℕ
decimal bs = fold (λ n b. n * 10 + (b - 48)) 0 bs

-- what a word is as a number of at most `most`
abbrev pub number_of : ℕ → List ℕ → Result ℕ Reason
number_of most bs = cond (is_numeral bs) (cond (nat_le (decimal bs) most) (Ok (decimal bs)) (Err OutOfRange)) (Err NotNumber)

-- a Result's value, changed
abbrev pub ok_by : {T U : Type 0} → (T → U) → Result T Reason → Result U Reason
ok_by f (Ok x) = Ok (f x)
ok_by f (Err e) = Err e

-- what a word is as grams: behind a `-` at most 2 ^ 31, and else below 2 ^ 31
abbrev pub grams_of : List ℕ → Result ℤ Reason
grams_of bs = cond (slice_index bs 0 == 45) (ok_by (λ n. neg_ℤ (pos n)) (number_of 2147483648 (drop 1 bs))) (ok_by pos (number_of 2147483647 bs))

-- b is one of the bytes from lo to hi
abbrev pub within : ℕ → ℕ → ℕ → Bool
within lo hi b = nat_le lo b && nat_le b hi

-- the value of a hexadecimal digit in either case
abbrev pub digit : ℕ → Option ℕ
digit b = cond (within 48 57 b) (Some (b - 48)) (cond (within 97 102 b) (Some (b - 87)) (cond (within 65 70 b) (Some (b - 55)) None))

-- the byte that two digits write
abbrev pub byte_of : Option ℕ → Option ℕ → Option ℕ
byte_of None low = None
byte_of (Some high) None = None
byte_of (Some high) (Some low) = Some (high * 16 + low)

-- a byte before those that follow
abbrev pub before : Option ℕ → Option (List ℕ) → Option (List ℕ)
before None rest = None
before (Some b) None = None
before (Some b) (Some bs) = Some (b ∷ bs)

-- the bytes that pairs of digits write
abbrev pub pairs : List ℕ → Option (List ℕ)
pairs [] = Some []
pairs (high ∷ []) = None
pairs (high ∷ (low ∷ rest)) = before (byte_of (digit high) (digit low)) (pairs rest)

-- the bytes that a word of hexadecimal pairs writes
abbrev pub bytes_of : List ℕ → Result (List ℕ) Reason
bytes_of bs = cond (length bs % 2 == 0) (ok_or (pairs bs) WrongDigit) (Err OddDigit)

-- what a word is as a key: `-` alone is the empty one
abbrev pub key_of : List ℕ → Result (List ℕ) Reason
key_of [] = Err MissingWord
key_of (b ∷ bs) = cond (b == 45 && length bs == 0) (Ok []) (bytes_of (b ∷ bs))

-- what a word is as a label: 16 digits, of which none is in upper case
abbrev pub label_of : List ℕ → Option (List ℕ)
label_of bs = cond (length bs == 16 && not (list_any is_ascii_uppercase bs)) (pairs bs) None
