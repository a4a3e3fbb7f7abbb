-- The pairs' bytes are the word's.
use Rattle.std.proofs.Common.{◌≡◌, ℕ, ◌/◌, false, List, length, Some, None, Ok, Err, Result, IfOk, IfErr, rules, tests, arith, sym, ◌∙◌, ap}
use Rattle.std.specs.Char.{is_ascii_uppercase}
use Rattle.std.specs.List.{list_any}
use Rattle.std.specs.Result.{result_ok}
use Rattle.std.specs.Simd.{first_chunks}
use Rattle.words.specs.Digits.{pairs, label_of}
use Rattle.std.proofs.lemmas.Iterator.{YieldsList-from_slice}
use Rattle.std.proofs.lemmas.Iterator.Search.{any_from_yields_List}
use Rattle.std.proofs.lemmas.Result.{IfOk-weaker, IfErr-weaker}
use Rattle.words.specs.declared.reason.Reason.TheVariants.{WrongDigit}
use Rattle.words.proofs.Laws.{ok_some, err_none, byte_at, bytes_apart, bytes_apart-all, bytes_apart-none, pairs-chunks}
use Rattle.words.proofs.digits.label_bytes.Goals as goal

label-from : {E : Type 0} (bs : List ℕ) (r : Result (List ℕ) E) → length bs ≡ 16 → list_any is_ascii_uppercase bs ≡ false → IfOk r (λ ys. pairs bs ≡ Some ys) → IfErr r (λ _. pairs bs ≡ None) → result_ok r ≡ label_of bs
label-from bs (Ok ys) far lower all none = rw (far, lower, all)
label-from bs (Err e) far lower all none = rw (far, lower, none)

pub returns : goal.returns
returns c =
    let bs = c.args.word.now in
    let whole = c.in_ok-as_array.ensures.cases in
    let ps = c.in_ok-bytes.bytes.now in
    let any : c.any.result ≡ list_any is_ascii_uppercase bs = any_from_yields_List is_ascii_uppercase _ _ _ c.any.ensures.ran (YieldsList-from_slice bs cc) (λ x b q k. search (rules, tests)) in
    let chunks : ps ≡ first_chunks 2 (length bs / 2) bs = c.in_ok-bytes.ensures.cases.same ∙ rw whole.same at c.as_chunks.ensures.front in
    let apart : pairs bs ≡ bytes_apart ps = pairs-chunks bs ps chunks (omega (arith, whole.long)) in
    let all = IfOk-weaker c.try_map.result _ (λ ys. pairs bs ≡ Some ys) (λ ys z. apart ∙ bytes_apart-all _ (λ p b k. ok_some _ WrongDigit _ (search rules)) ps ys z.whole) c.try_map.ensures.ok in
    let none = IfErr-weaker c.try_map.result _ (λ _. pairs bs ≡ None) (λ e k. apart ∙ bytes_apart-none ps k.1.0 k.0 k.1.1.0 (ap byte_at (sym k.1.1.1) ∙ err_none _ WrongDigit e (search rules))) c.try_map.ensures.err in
    c.ok.ensures.value ∙ label-from bs c.try_map.result whole.long (sym any ∙ c.if-any.false) all none
