-- A run that is taken out value by value. Assumes nothing.
use Rattle.std.proofs.Common.{◌≡◌, ◌+◌, ◌<◌, ◌≤◌, length, Ok, Err, Result, Ordering, sym, refl, ap, ◌∙◌, arith}
use Rattle.std.proofs.lemmas.List.{nil_from_length}
use Rattle.keys.specs.declared.place.Place.{Place}
use Rattle.contents.proofs.Laws.{length-in}
use Rattle.store.specs.declared.refusal.Refusal.{Refusal}
use Rattle.store.specs.declared.refusal.Refusal.TheVariants.{Unsound, NoSpace, FewSlots, PastEnd}
use Rattle.store.specs.Meaning.{Meaning, run_at, Take, Removed}

-- some values of the run at p are gone
pub record Thins {K V : Type 0} (cmp : K → K → Ordering) (m n : Meaning K V) (p : Place K) : Type 0 where
  pub there : (q : Place K) → (q ≡ p → ⊥) → run_at cmp n q ≡ run_at cmp m q
  pub less : length (run_at cmp n p) ≤ length (run_at cmp m p)
  pub rises : m.space p.partition + length (run_at cmp m p) ≤ n.space p.partition + length (run_at cmp n p)
  pub same_partitions : n.partitions ≡ m.partitions
  pub same_assured : n.assured ≡ m.assured
  pub idle : length (run_at cmp m p) ≤ length (run_at cmp n p) → n ≡ m

module _ {K V : Type 0} (cmp : K → K → Ordering) where
  pub thin_none : (m : Meaning K V) (p : Place K) → Thins cmp m m p
  thin_none m p = record { there = λ q ne. refl; less = omega arith; rises = omega arith; same_partitions = refl; same_assured = refl; idle = λ e. refl }

  pub thin_all : (m n : Meaning K V) (p : Place K) → Thins cmp m n p → length (run_at cmp n p) ≤ 0 → Removed cmp m n p
  thin_all m n p t e = record {
    clears = record { here = nil_from_length (run_at cmp n p) (omega arith); there = t.there };
    rises = omega (arith, t.rises);
    same_partitions = t.same_partitions;
    same_assured = t.same_assured;
    idle = λ none. t.idle (omega (arith, ap length none));
  }

  pub thin_more : (m n k : Meaning K V) (p : Place K) (r : Result V Refusal) → Thins cmp m n p → 0 < length (run_at cmp n p) → Take cmp n k p 0 r → Thins cmp m k p × (length (run_at cmp k p) < length (run_at cmp n p))
  thin_more m n k p (Ok v) t pos d =
      let a = ap length d.gains.here ∙ length-in 0 (run_at cmp k p) v in
      let b = t.rises in
      let c = d.rises in
      let l = t.less in (
        record {
          there = λ q ne. sym (d.gains.there q ne) ∙ t.there q ne;
          less = omega arith;
          rises = omega arith;
          same_partitions = d.same_partitions ∙ t.same_partitions;
          same_assured = d.same_assured ∙ t.same_assured;
          idle = λ e. absurd (omega arith);
        },
        omega arith,
      )
  thin_more m n k p (Err Unsound) t pos d = absurd d.1
  thin_more m n k p (Err NoSpace) t pos d = absurd d.1
  thin_more m n k p (Err FewSlots) t pos d = absurd d.1
  thin_more m n k p (Err PastEnd) t pos d = let e = d.1 in absurd (omega arith)
