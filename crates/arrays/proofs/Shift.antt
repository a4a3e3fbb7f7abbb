-- The shift in `insert_at`: the part from the place on, turned by one, and the value written over its first. Assumes nothing.
use Rattle.std.proofs.Common.{◌≡◌, ℕ, ◌+◌, ◌-◌, ◌<◌, ◌≤◌, List, [], ◌∷◌, ◌++◌, length, get_or, take, drop, set, sym, ap, ◌∙◌, arith}
use Rattle.std.proofs.lemmas.List.{drop_more, drop_all, drop-drop, append_assoc, set_at, length-take-le, length-drop, take-take}
use Rattle.std.proofs.lemmas.Slice.{between_is}
use Rattle.arrays.specs.Cells.{put_at}
use borrow.Rule.Slice.PartMut.{put_mid, mid_of}

module _ {X : Type 0} (xs : List X) (len i : ℕ) (x : X) (ys : List X) (le : i ≤ len) (room : len < length xs) where
  abbrev part : List X
  part = mid_of i (len + 1 - i) xs

  pub rotated-put : ys ≡ drop (length part - 1) part ++ take (length part - 1) part → set (put_mid i (len + 1 - i) xs ys) i x ≡ put_at xs len i x
  rotated-put turned =
      let l = length-drop i xs in
      let n : length part ≡ len + 1 - i = length-take-le (len + 1 - i) (drop i xs) (omega arith) in
      let m : length part - 1 ≡ len - i = omega arith in
      let y : X = get_or part (length part - 1) x in
      let last : drop (length part - 1) part ≡ y ∷ [] = drop_more part (length part - 1) x (omega arith) ∙ ap (λ zs. y ∷ zs) (drop_all (length part - 1 + 1) part (omega arith)) in
      let kept : take (length part - 1) part ≡ drop i (take len xs) =
      ap (λ k. take k part) m ∙ take-take (len - i) (len + 1 - i) (drop i xs) (omega arith) ∙ between_is xs i len in
      let rest : drop (len + 1 - i) (drop i xs) ≡ drop (len + 1) xs = drop-drop (len + 1 - i) i xs ∙ ap (λ k. drop k xs) (omega arith) in
      ap (λ zs. set (put_mid i (len + 1 - i) xs zs) i x) (turned ∙ ap (λ zs. zs ++ take (length part - 1) part) last)
      ∙ set_at (take i xs) y (take (length part - 1) part ++ drop (len + 1 - i) (drop i xs)) x i (length-take-le i xs (omega arith))
      ∙ ap (λ zs. take i xs ++ x ∷ (zs ++ drop (len + 1 - i) (drop i xs))) kept
      ∙ ap (λ zs. take i xs ++ x ∷ (drop i (take len xs) ++ zs)) rest
      ∙ ap (λ zs. zs ++ x ∷ (drop i (take len xs) ++ drop (len + 1) xs)) (sym (take-take i len xs le))
      ∙ sym (append_assoc (take i (take len xs)) (x ∷ drop i (take len xs)) (drop (len + 1) xs))
