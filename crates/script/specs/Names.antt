-- What a word names where a book is opened. Assumes nothing.
use Rattle.std.specs.Prelude.{ℕ, List, Ok, Err, Result, codes, if◌then◌else◌}
use Rattle.std.specs.Str.{bytes_eq}
use Rattle.words.specs.declared.reason.Reason.{Reason}
use Rattle.words.specs.declared.reason.Reason.TheVariants.{UnknownTranslator, UnknownValues}
use Rattle.script.specs.declared.opening.TranslatorName.{TranslatorName}
use Rattle.script.specs.declared.opening.TranslatorName.TheVariants.{Cap, Label, Fold}
use Rattle.script.specs.declared.opening.ValuesName.{ValuesName}
use Rattle.script.specs.declared.opening.ValuesName.TheVariants.{Position, Weighing}

-- the translator that a word names
abbrev pub translator_of : List ℕ → Result TranslatorName Reason
translator_of bs =
    if bytes_eq bs (codes "cap") then Ok Cap
    else if bytes_eq bs (codes "label") then Ok Label
    else if bytes_eq bs (codes "fold") then Ok Fold
    else Err UnknownTranslator

-- the kind of values that a word names
abbrev pub values_of : List ℕ → Result ValuesName Reason
values_of bs =
    if bytes_eq bs (codes "position") then Ok Position
    else if bytes_eq bs (codes "weighing") then Ok Weighing
    else Err UnknownValues
