-- When a report says that a line was wrong. Assumes nothing.
use Rattle.std.specs.Prelude.{Bool, true, Ok, Err, Result}
use Rattle.runner.specs.declared.fault.Fault.{Fault}
use Rattle.runner.specs.declared.fault.Fault.TheVariants.{Refused, Wrong, Text}

-- the mark after a line, by the mark before it
abbrev pub marked : Bool → Fault → Bool
marked wrong (Refused why) = wrong
marked wrong (Wrong why) = true
marked wrong (Text why) = wrong

abbrev pub told : {A : Type 0} → Bool → Result A Fault → Bool
told wrong (Ok answer) = wrong
told wrong (Err why) = marked wrong why
