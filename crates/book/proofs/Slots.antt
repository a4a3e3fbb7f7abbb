-- A run copied to the first slots, value by value. Assumes nothing.
use Rattle.std.proofs.Common.{◌≡◌, ℕ, zero, suc, ◌+◌, ◌<◌, List, [], ◌∷◌, length, get_or, set, Some, sym, refl, ap, ◌∙◌, arith}
use Rattle.std.specs.List.{slice_get}
use lib.Seq.{paste}
use Rattle.std.proofs.lemmas.List.Edits.{paste_more}

read : {X : Type 0} (xs : List X) (i : ℕ) (x : X) → Some x ≡ slice_get xs i → get_or xs i x ≡ x
read [] i x e = refl
read (y ∷ xs) zero x e = let at : x ≡ y = cc in sym at
read (y ∷ xs) (suc i) x e = read xs i x e

module _ {X : Type 0} (slots run : List X) where
  pub copied_more : (now : List X) (i : ℕ) (x : X) → i < length slots → i < length run → now ≡ paste slots 0 run i → Some x ≡ slice_get run i → set now i x ≡ paste slots 0 run (i + 1)
  copied_more now i x a b e r =
      let z : i ≡ 0 + i = omega arith in
      ap (λ ys. set ys i x) e
      ∙ ap (λ k. set (paste slots 0 run i) k x) z
      ∙ ap (set (paste slots 0 run i) (0 + i)) (sym (read run i x r))
      ∙ paste_more slots 0 run i x (omega arith) b
