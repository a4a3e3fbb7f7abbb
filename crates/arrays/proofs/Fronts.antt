-- The cells in use after a change. Assumes nothing.
use Rattle.std.proofs.Common.{◌≡◌, ℕ, zero, suc, ◌+◌, ◌-◌, ◌<◌, ◌≤◌, List, [], ◌∷◌, ◌++◌, length, take, drop, set, sym, refl, ap, ◌∙◌, add-one, arith}
use Rattle.std.specs.List.{insert, remove, between}
use Rattle.std.proofs.lemmas.List.{take_at, take-take, length-take-le, length-drop, length-append}
use Rattle.std.proofs.lemmas.Slice.{between_is}
use Rattle.std.proofs.lemmas.List.Edits.{length-insert}
use Rattle.arrays.specs.Cells.{put_at, cut}
use Rattle.arrays.proofs.Close.{length-kept}

module _ {X : Type 0} (xs : List X) (len : ℕ) where
  module _ (i : ℕ) (x : X) (le : i ≤ len) (room : len < length xs) where
    length-in : length (insert (take len xs) i x) ≡ len + 1
    length-in =
        let m = length-take-le len xs (omega arith) in
        length-insert (take len xs) i x (omega arith) ∙ ap (λ n. n + 1) m

    pub length-put : length (put_at xs len i x) ≡ length xs
    length-put =
        length-append (insert (take len xs) i x) (drop (len + 1) xs) ∙ omega (arith, length-in, length-drop (len + 1) xs)

    pub front_put : take (len + 1) (put_at xs len i x) ≡ insert (take len xs) i x
    front_put = take_at (insert (take len xs) i x) (drop (len + 1) xs) (len + 1) length-in

  module _ (s e : ℕ) (le : s ≤ e) (within : e ≤ len) (room : len ≤ length xs) where
    pub length_cut : length (cut xs len s e) ≡ length xs
    length_cut =
        length-append (take s xs ++ between e len xs) (drop (len - (e - s)) xs)
        ∙ omega (arith, length-kept xs s e le len within room, length-drop (len - (e - s)) xs)

    pub front_cut : take (len - (e - s)) (cut xs len s e) ≡ take s (take len xs) ++ drop e (take len xs)
    front_cut =
        take_at (take s xs ++ between e len xs) (drop (len - (e - s)) xs) (len - (e - s)) (length-kept xs s e le len within room)
        ∙ ap (λ ys. ys ++ between e len xs) (sym (take-take s len xs (omega arith)))
        ∙ ap (λ ys. take s (take len xs) ++ ys) (between_is xs e len)

  -- one cell taken out
  pub front_cut_one : (i : ℕ) → i < len → len ≤ length xs → take (len - 1) (cut xs len i (i + 1)) ≡ remove (take len xs) i
  front_cut_one i lt room =
      let one : len - 1 ≡ len - (i + 1 - i) = omega arith in
      ap (λ n. take n (cut xs len i (i + 1))) one
      ∙ front_cut i (i + 1) (omega arith) (omega arith) room
      ∙ ap (λ n. take i (take len xs) ++ drop n (take len xs)) (add-one i)

pub front_set : {X : Type 0} (len : ℕ) (xs : List X) (i : ℕ) (x : X) → i < len → take len (set xs i x) ≡ set (take len xs) i x
front_set zero xs i x l = absurd (omega arith)
front_set (suc len) [] i x l = refl
front_set (suc len) (y ∷ xs) zero x l = refl
front_set (suc len) (y ∷ xs) (suc i) x l = ap (λ ys. y ∷ ys) (front_set len xs i x (omega arith))
