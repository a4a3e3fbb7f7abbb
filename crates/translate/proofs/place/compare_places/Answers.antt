use Rattle.translate.specs.Keeping.{place_keeps}
use Rattle.translate.proofs.place.compare_places.Goals as goal

pub returns-clause-keeps : goal.returns-clause-keeps
returns-clause-keeps g c =
    place_keeps g.T.Key.Ord.cmp c.args.prefix.now.bytes (g.T.Translator.meaning c.args.translator.now) (g.met.T.OrderedTranslator.keeps c.args.translator.now)
