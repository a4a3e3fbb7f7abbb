-- A word that is all digits is a text.
use Rattle.std.proofs.Common.{◌≡◌, true, rules, tests, arith}
use Rattle.std.specs.Char.{is_ascii_digit}
use Rattle.std.specs.List.{list_all}
use Rattle.std.proofs.lemmas.Bool.Decides.{nat_tests}
use Rattle.std.proofs.lemmas.Str.{IsUtf8-from_ascii}
use Rattle.std.proofs.lemmas.Iterator.{YieldsList-from_slice}
use Rattle.std.proofs.lemmas.Iterator.Search.{all_from_yields_List}
use Rattle.words.proofs.Laws.{IsAscii-from_digits}
use Rattle.words.proofs.digits.digits_of.Goals as goal

pub returns : goal.returns
returns c =
    let bs = c.args.word.now in
    let all : c.all.result ≡ list_all is_ascii_digit bs = all_from_yields_List is_ascii_digit _ _ _ c.all.ensures.ran (YieldsList-from_slice bs cc) (λ x b q k. search (rules, tests)) in
    let digits : list_all is_ascii_digit bs ≡ true = grind arith in
    let text = IsUtf8-from_ascii bs (IsAscii-from_digits bs digits) in
    grind (arith, nat_tests)
