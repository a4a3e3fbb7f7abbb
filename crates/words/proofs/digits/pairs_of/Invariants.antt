-- Each pair so far has written its byte.
use Rattle.std.proofs.Common.{◌≡◌, Some, take, vec_items}
use Rattle.std.specs.List.{AllZip}
use Rattle.words.proofs.Laws.{byte_at}
use Rattle.words.proofs.digits.pairs_of.Given as goal

abbrev pub invariant-loop-digits : goal.invariant-loop-digits
invariant-loop-digits l = AllZip (λ p b. byte_at p ≡ Some b) (take l.digits-index l.pairs) (vec_items l.bytes)
