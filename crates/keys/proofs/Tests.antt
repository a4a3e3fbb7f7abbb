-- A lawful order by its test. Assumes nothing.
use Rattle.std.proofs.Common.{◌≡◌, true, false, Ordering, Less, Equal, Greater, sym, refl, ap, ◌∙◌, true≢false}
use Rattle.std.specs.Ordering.{ordering_reverse, is_lt}
use Rattle.keys.specs.Order.{Lawful, before, Total}

is_less : (r : Ordering) → is_lt r ≡ true → r ≡ Less
is_less Less e = refl
is_less Equal e = absurd (true≢false (sym e))
is_less Greater e = absurd (true≢false (sym e))

not_itself : (r : Ordering) → r ≡ ordering_reverse r → is_lt r ≡ false
not_itself Less e = absurd (true≢false (ap is_lt e))
not_itself Equal e = refl
not_itself Greater e = refl

neither : (r : Ordering) → is_lt r ≡ false → is_lt (ordering_reverse r) ≡ false → r ≡ Equal
neither Less e f = absurd (true≢false e)
neither Equal e f = refl
neither Greater e f = absurd (true≢false f)

pub total : {K : Type 0} {cmp : K → K → Ordering} → Lawful cmp → Total (before cmp)
total {K} {cmp} l = record {
  irrefl = λ x. not_itself (cmp x x) (l.turned x x);
  trans = λ x y z e f. ap is_lt (l.carries x y z (is_less (cmp x y) e) (is_less (cmp y z) f));
  total = λ x y e f. l.same x y (neither (cmp x y) e (ap is_lt (sym (l.turned y x)) ∙ f));
}
