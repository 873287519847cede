-- The book that a sealed view looks at, and when it is a cleared one.
use Rattle.std.specs.Prelude.{◌≡◌, ◌%◌, Bool, true, false, length}
use Rattle.rules.specs.Book.{Book, Limits, WithoutNot}
use Rattle.books.specs.declared.book.Book.{Book as View}
use Rattle.books.specs.Drafts.{drafted}
use Rattle.books.specs.Sealing.{counts}

abbrev pub viewed : View → Book
viewed view = drafted view.draft

-- what it is sealed for
abbrev pub view_limits : View → Limits
view_limits view = counts view.patterns view.numbers

-- a book in the form that clearing gives: no row is a `not`, and the count of definitions is even
abbrev pub ClearForm : Book → Type 0
ClearForm book = WithoutNot book × (length book.definitions % 2 ≡ 0)

-- a test tells whether P holds
abbrev pub Told : Bool → Type 0 → Type 0
Told true P = P
Told false P = P → ⊥
