use Rattle.std.proofs.Common.{◌∙◌, true, refl, zero-le, true≢false, arith}
use Rattle.keys.proofs.Tests.{total}
use Rattle.arrays.proofs.Handing.{first-handed}
use Rattle.arrays.proofs.runs.Runs.first_values.Goals as goal

pub returns : goal.returns
returns g c =
    let s = c.args.self.now in
    c.run_from.ensures
    ∙ first-handed (total g.met.K.Key.lawful) s.keys.keys.now s.values.now s.keys.sorted s.alongside (λ _. true) 0 0 refl
    (record { within = zero-le; before = λ k d l. absurd (omega arith); after = λ k d l m. refl }) (λ x y f h. absurd (true≢false f))
