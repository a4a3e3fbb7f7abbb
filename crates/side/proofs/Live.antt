-- The entries in use, and what a change of both arrays does to them. Assumes nothing.
use Rattle.std.proofs.Common.{◌≡◌, ℕ, ◌+◌, ◌-◌, ◌<◌, ◌≤◌, List, ◌++◌, length, get_or, take, drop, set, sym, ap, ◌∙◌, arith}
use Rattle.std.specs.List.{insert, remove}
use Rattle.std.proofs.lemmas.List.{length-take-le}
use Rattle.contents.specs.Entries.{entry, entries, places}
use Rattle.contents.proofs.Alongside.{length-entries, places-entries, entries-in, entries-out, entries-gap, entries-set}
use Rattle.arrays.specs.Cells.{put_at, cut}
use Rattle.arrays.proofs.Fronts.{front_put, front_cut, front_cut_one, front_set}
use Rattle.side.specs.Table.{live}

module _ {P V : Type 0} (ks : List P) (vs : List V) (n : ℕ) where
  module _ (a : n ≤ length ks) (b : n ≤ length vs) where
    pub same_length : length (take n ks) ≡ length (take n vs)
    same_length = length-take-le n ks a ∙ sym (length-take-le n vs b)

    pub length-live : length (live ks vs n) ≡ n
    length-live = length-entries (take n ks) (take n vs) same_length ∙ length-take-le n ks a

    pub places-live : places (live ks vs n) ≡ take n ks
    places-live = places-entries (take n ks) (take n vs) same_length

    pub live_out : (i : ℕ) → i < n → live (cut ks n i (i + 1)) (cut vs n i (i + 1)) (n - 1) ≡ remove (live ks vs n) i
    live_out i l =
        ap (λ xs. entries xs (take (n - 1) (cut vs n i (i + 1)))) (front_cut_one ks n i l a)
        ∙ ap (entries (remove (take n ks) i)) (front_cut_one vs n i l b)
        ∙ entries-out i (take n ks) (take n vs) same_length

    pub live-cut : (s e : ℕ) → s ≤ e → e ≤ n → live (cut ks n s e) (cut vs n s e) (n - (e - s)) ≡ take s (live ks vs n) ++ drop e (live ks vs n)
    live-cut s e le w =
        ap (λ xs. entries xs (take (n - (e - s)) (cut vs n s e))) (front_cut ks n s e le w a)
        ∙ ap (entries (take s (take n ks) ++ drop e (take n ks))) (front_cut vs n s e le w b)
        ∙ entries-gap s e (take n ks) (take n vs) le same_length

    pub live-set : (i : ℕ) (p : P) (v : V) → i < n → get_or (take n ks) i p ≡ p → live ks (set vs i v) n ≡ set (live ks vs n) i (entry p v)
    live-set i p v l r =
        let m = length-take-le n ks a in
        ap (entries (take n ks)) (front_set n vs i v l) ∙ entries-set i (take n ks) (take n vs) p v same_length (omega arith) r

  pub live-put : (i : ℕ) (p : P) (v : V) → i ≤ n → n < length ks → n < length vs → live (put_at ks n i p) (put_at vs n i v) (n + 1) ≡ insert (live ks vs n) i (entry p v)
  live-put i p v le a b =
      ap (λ xs. entries xs (take (n + 1) (put_at vs n i v))) (front_put ks n i p le a)
      ∙ ap (entries (insert (take n ks) i p)) (front_put vs n i v le b)
      ∙ entries-in i (take n ks) (take n vs) p v (same_length (omega arith) (omega arith))
