use Rattle.translate.specs.Keeping.{place_keeps}
use Rattle.book.specs.Calls.{bytes}
use Rattle.book.proofs.Near.{first-all}
use Rattle.book.proofs.book.Book.first.Goals as goal

pub returns : goal.returns
returns g c =
    let b = c.args.self.now in
    record {
      place = (c.in_ok-opened.ensures.0, first-all (g.S.Store.meaning b.store) c.first_from.result c.first_from.ensures);
      keeps = place_keeps g.S.Key.Ord.cmp (bytes b.prefix) (g.T.Translator.meaning b.translator) (g.met.T.OrderedTranslator.keeps b.translator);
    }
