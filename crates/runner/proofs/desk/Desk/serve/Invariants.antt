use Rattle.std.proofs.Common.{length}
use Rattle.runner.specs.Lines.{Behind}
use Rattle.runner.proofs.desk.Desk.serve.Given as goal

abbrev pub invariant-loop-session : goal.invariant-loop-session
invariant-loop-session g l = Behind l.initial.session.lines.now l.session.lines.now

abbrev pub decreases-loop-session : goal.decreases-loop-session
decreases-loop-session g l = length l.session.lines.now
