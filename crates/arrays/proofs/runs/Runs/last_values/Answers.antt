use Rattle.std.proofs.Common.{◌∙◌, true, length, sym, refl, true≢false, arith}
use Rattle.keys.proofs.Tests.{total}
use Rattle.arrays.proofs.Handing.{last-handed}
use Rattle.arrays.proofs.runs.Runs.last_values.Goals as goal

pub returns : goal.returns
returns g c =
    let s = c.args.self.now in
    c.run_before.ensures
    ∙ last-handed (total g.met.K.Key.lawful) s.keys.keys.now s.values.now s.keys.sorted s.alongside (λ _. true) (length s.keys.keys.now) (length s.values.now)
    (sym s.alongside) (record { within = omega arith; before = λ k d l. refl; after = λ k d l m. absurd (omega arith) }) (λ x y h f. absurd (true≢false f))
