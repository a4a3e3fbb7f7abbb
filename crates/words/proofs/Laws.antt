-- The digits of a word, and the bytes that pairs of them write. Assumes nothing.
use Rattle.std.proofs.Common.{◌≡◌, ℕ, ◌+◌, ◌-◌, ◌*◌, ◌/◌, ◌%◌, ◌^◌, ◌<◌, ◌≤◌, true, List, [], ◌∷◌, length, get_or, Some, None, Ok, Err, fold, Option, Result, MatchResult, zero, suc, sym, refl, ap, ◌∙◌, arith, rules}
use Rattle.std.specs.Char.{is_ascii_digit}
use Rattle.std.specs.List.{list_all, AllZip}
use Rattle.std.specs.Str.{IsAscii}
use Rattle.std.specs.Str.Parse.{ParsesUnsigned}
use Rattle.std.proofs.lemmas.Str.Ascii.{IsAscii-nil, IsAscii-cons}
use Rattle.std.proofs.lemmas.Str.Parse.{IsNumeralModel, numerals_by_fold, parse_digits}
use Rattle.std.proofs.lemmas.Bool.Decides.{nat_tests}
use Rattle.std.specs.Simd.{first_chunks}
use Rattle.std.specs.Option.{ok_or}
use Rattle.words.specs.declared.reason.Reason.{Reason}
use Rattle.words.specs.Digits.{is_numeral, decimal, digit, byte_of, before, pairs}

-- a word of digits, as `parse` reads it
pub numerals : IsNumeralModel (λ ds. list_all is_ascii_digit ds ≡ true) decimal
numerals = numerals_by_fold _ (search rules) (fold (λ n b. n * 10 + (b - 48))) (search rules)

-- such a word is a text
pub IsAscii-from_digits : (bs : List ℕ) → list_all is_ascii_digit bs ≡ true → IsAscii bs
IsAscii-from_digits [] e = IsAscii-nil
IsAscii-from_digits (b ∷ bs) e = IsAscii-cons b bs (grind (arith, nat_tests)) (IsAscii-from_digits bs (grind arith))

-- what `parse` makes of such a word
pub read-numeral : {E : Type 0} (bs text : List ℕ) (r : Result ℕ E) → is_numeral bs ≡ true → text ≡ bs → ParsesUnsigned 64 10 text r → MatchResult r (λ n. n ≡ decimal bs) (λ _. 2 ^ 64 ≤ decimal bs)
read-numeral {E} bs text (Ok n) h e p =
    let digits : list_all is_ascii_digit bs ≡ true = grind arith in
    let read = parse_digits numerals {E = E} 64 bs (Ok n) (rw e at p) digits in
    read.1
read-numeral {E} bs text (Err d) h e p =
    let digits : list_all is_ascii_digit bs ≡ true = grind arith in
    let some : 0 < length bs = grind (arith, nat_tests) in
    let read = parse_digits numerals {E = E} 64 bs (Err d) (rw e at p) digits in
    let not_small : decimal bs < 2 ^ 64 → ⊥ = λ l. read (some, l) in
    omega arith

-- what `pair` answers says whether there is a byte
pub ok_some : (o : Option ℕ) (e : Reason) (b : ℕ) → Ok b ≡ ok_or o e → o ≡ Some b
ok_some None e b h = cc
ok_some (Some x) e b h = cc

pub err_none : (o : Option ℕ) (e d : Reason) → Err d ≡ ok_or o e → o ≡ None
err_none None e d h = refl
err_none (Some x) e d h = cc

-- the byte of a pair of digits
abbrev pub byte_at : List ℕ → Option ℕ
byte_at p = byte_of (digit (get_or p 0 0)) (digit (get_or p 1 0))

before-none : (b : Option ℕ) → before b None ≡ None
before-none None = refl
before-none (Some b) = refl

-- the bytes of pairs that stand apart
abbrev pub bytes_apart : List (List ℕ) → Option (List ℕ)
bytes_apart [] = Some []
bytes_apart (p ∷ ps) = before (byte_at p) (bytes_apart ps)

pub bytes_apart-chunks : (k : ℕ) (bs : List ℕ) → length bs ≡ 2 * k → bytes_apart (first_chunks 2 k bs) ≡ pairs bs
bytes_apart-chunks zero [] e = refl
bytes_apart-chunks zero (b ∷ bs) e = absurd (omega arith)
bytes_apart-chunks (suc k) [] e = absurd (omega arith)
bytes_apart-chunks (suc k) (b ∷ []) e = absurd (omega arith)
bytes_apart-chunks (suc k) (high ∷ low ∷ rest) e = ap (before (byte_of (digit high) (digit low))) (bytes_apart-chunks k rest (omega arith))

-- the pairs that `as_chunks` hands out
pub pairs-chunks : (bs : List ℕ) (ps : List (List ℕ)) → ps ≡ first_chunks 2 (length bs / 2) bs → length bs % 2 ≡ 0 → pairs bs ≡ bytes_apart ps
pairs-chunks bs ps e even = sym (ap bytes_apart e ∙ bytes_apart-chunks (length bs / 2) bs (omega arith))

-- where each pair writes a byte, as R says
pub bytes_apart-all : (R : List ℕ → ℕ → Type 0) → ((p : List ℕ) (b : ℕ) → R p b → byte_at p ≡ Some b) → (ps : List (List ℕ)) (ys : List ℕ) → AllZip R ps ys → bytes_apart ps ≡ Some ys
bytes_apart-all R f [] [] h = refl
bytes_apart-all R f [] (y ∷ ys) h = absurd h
bytes_apart-all R f (p ∷ ps) [] h = absurd h
bytes_apart-all R f (p ∷ ps) (y ∷ ys) h = rw (f p y h.0, bytes_apart-all R f ps ys h.1)

-- where one of them writes none
pub bytes_apart-none : (ps : List (List ℕ)) (i : ℕ) (d : List ℕ) → i < length ps → byte_at (get_or ps i d) ≡ None → bytes_apart ps ≡ None
bytes_apart-none [] i d l e = absurd (omega arith)
bytes_apart-none (p ∷ ps) zero d l e = rw e
bytes_apart-none (p ∷ ps) (suc i) d l e = rw (bytes_apart-none ps i d (omega arith) e) (before-none (byte_at p))
