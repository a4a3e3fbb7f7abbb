-- A book's state. Assumes nothing.
use Rattle.std.specs.declared.cmp.Ord as Ord
use Rattle.std.specs.declared.cmp.PartialEq as PartialEq
use Rattle.std.specs.declared.cmp.PartialOrd as PartialOrd
use Rattle.store.specs.declared.store.Store as Store
use Rattle.book.specs.Calls.{State, bytes}
use Rattle.book.specs.declared.book.Book.{Book}

-- of a book over any store S with the members s
module _ {S T K V : Type 0} {s : Store.Ghosts S K V} {o : Ord.Ghosts K} {e : PartialEq.Ghosts K} {p : PartialOrd.Ghosts K} where
  abbrev pub state : Book S T K V s o e p → State T K V
  state b = record { label = b.label; prefix = bytes b.prefix; translator = b.translator; store = s.meaning b.store }
