use Rattle.std.proofs.Common.{◌≡◌, ℕ, ◌<◌, List, get_or, replicate, arith}
use Rattle.std.proofs.lemmas.List.{get_or-replicate, length-replicate}
use Rattle.std.specs.Ordering.{nat_cmp}
use Rattle.layout.proofs.Opens.{opens_bare, opens_sorted}
use Rattle.windows.proofs.pocket.Pocket.open.Goals as goal

blank : ℕ → List ℕ
blank n = replicate n 0

zeros : (q : ℕ) → q < 256 → ◌≡◌ {A = ℕ} (get_or (blank 256) q 0) 0
unfolding blank
zeros q h = get_or-replicate 256 q 0 0 h

pub invariant_of-result : goal.invariant_of-result
unfolding blank
invariant_of-result c =
    let z : ℕ = 0 in
    let a = length-replicate 256 z in
    let b = length-replicate 1024 z in
    record { sorts = opens_sorted nat_cmp (blank 1024) (blank 1024) (blank 256) 4 256 zeros (omega arith) (omega arith) (omega arith) (omega arith) (omega arith) }

pub returns : goal.returns
unfolding blank
returns c = opens_bare nat_cmp (blank 1024) (blank 1024) (blank 256) 4 256 zeros
