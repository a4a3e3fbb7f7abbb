use Rattle.std.proofs.Common.{[], ◌∷◌, refl, ap, true≢false, lit<}
use Rattle.std.specs.Ordering.{is_lt}
use Rattle.translate.proofs.fold.fold_reverses.Goals as goal

pub returns-clause-unkept : goal.returns-clause-unkept
returns-clause-unkept c k = k [] (0 ∷ []) tt (lit< tt, tt) (λ e. true≢false (ap is_lt e)) refl
