-- The pairs' bytes are the word's.
use Rattle.std.proofs.Common.{rules, arith, ◌≡◌, Some, None, length, take, get_or, ◌%◌, [], vec_items}
use Rattle.std.proofs.lemmas.List.{take_more, take_all}
use Rattle.std.proofs.lemmas.Slice.Zip.{all_zipped_more}
use Rattle.std.proofs.lemmas.Bool.Decides.{nat_tests}
use Rattle.words.specs.declared.reason.Reason.TheVariants.{WrongDigit}
use Rattle.words.proofs.Laws.{byte_at, ok_some, err_none, pairs-chunks, bytes_apart-all, bytes_apart-none}
use Rattle.words.proofs.digits.pairs_of.Goals as goal

pub returns-in_err-pair : goal.returns-in_err-pair
returns-in_err-pair c =
    let ps = c.as_chunks.result.0.now in
    let even : length c.args.word.now % 2 ≡ 0 = omega arith in
    let apart = pairs-chunks c.args.word.now ps c.as_chunks.ensures.front even in
    let none : byte_at (get_or ps c.loop-digits.digits-index []) ≡ None = err_none _ WrongDigit c.in_err-pair.field-0.0 (search rules) in
    let stop = bytes_apart-none ps _ _ c.loop-digits-test.true none in
    grind (arith, nat_tests)

pub loop-digits-preserved : goal.loop-digits-preserved
loop-digits-preserved c =
    let ps = c.as_chunks.result.0.now in
    let i = c.loop-digits.digits-index in
    let some : byte_at (get_or ps i []) ≡ Some c.in_ok-pair.field-0 = ok_some _ WrongDigit _ (search rules) in
    let more = all_zipped_more (λ p b. byte_at p ≡ Some b) (take i ps) (vec_items c.loop-digits.bytes) _ _ c.loop-digits.invariant some in
    rw (take_more ps i [] c.loop-digits-test.true, c.in_ok-push.ensures.items) more

pub returns : goal.returns
returns c =
    let ps = c.as_chunks.result.0.now in
    let even : length c.args.word.now % 2 ≡ 0 = omega arith in
    let apart = pairs-chunks c.args.word.now ps c.as_chunks.ensures.front even in
    let all = bytes_apart-all _ (λ p b e. e) _ _ c.loop-digits.invariant in
    let whole = take_all c.loop-digits.digits-index ps c.loop-digits-test.false in
    grind (arith, nat_tests)
