-- How many cells stand before those that a removal keeps. Assumes nothing.
use Rattle.std.proofs.Common.{◌≡◌, ℕ, ◌-◌, ◌≤◌, List, ◌++◌, length, take, ◌∙◌, arith}
use Rattle.std.specs.List.{between}
use Rattle.std.proofs.lemmas.List.{length-append, length-take-le}
use Rattle.std.proofs.lemmas.List.Edits.{length-between}

module _ {X : Type 0} (xs : List X) (s e : ℕ) (le : s ≤ e) where
  -- how many cells stand before those that keep what they held
  pub length-kept : (i : ℕ) → e ≤ i → i ≤ length xs → length (take s xs ++ between e i xs) ≡ i - (e - s)
  length-kept i from room =
      let a = length-take-le s xs (omega arith) in
      let b = length-between xs e i room in
      length-append (take s xs) (between e i xs) ∙ omega (arith, a, b)
