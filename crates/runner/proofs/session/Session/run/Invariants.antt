use Rattle.std.proofs.Common.{length}
use Rattle.runner.proofs.session.Session.run.Given as goal

abbrev pub decreases-loop-self : goal.decreases-loop-self
decreases-loop-self l = length l.self.lines.now
