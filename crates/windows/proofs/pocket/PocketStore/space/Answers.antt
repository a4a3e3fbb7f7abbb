use Rattle.std.proofs.Common.{ap, ◌∙◌}
use Rattle.windows.proofs.pocket.PocketStore.space.Goals as goal

pub returns : goal.returns
returns c = c.space.ensures ∙ ap (λ m. m.space c.args.partition) c.cells.ensures
