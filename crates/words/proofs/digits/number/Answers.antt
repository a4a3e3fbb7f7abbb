-- `parse` reads a word that is all digits.
use Rattle.std.proofs.Common.{arith}
use Rattle.std.proofs.lemmas.Bool.Decides.{nat_tests}
use Rattle.std.proofs.lemmas.Option.{MatchOption-at_some}
use Rattle.words.proofs.Laws.{read-numeral}
use Rattle.words.proofs.digits.number.Goals as goal

pub returns : goal.returns
returns c =
    let word = MatchOption-at_some _ _ _ c.in_ok-digits.ensures.ok_part c.digits_of.ensures in
    let read = read-numeral c.args.word.now c.in_ok-digits.digits.now c.parse.result word.1 word.0 c.parse.ensures.value.0 in
    grind (arith, nat_tests)
