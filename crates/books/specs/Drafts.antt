-- What a draft and its limits stand for.
use Rattle.numbers.specs.Kinds.{Kind}
use Rattle.rules.specs.Book.{Book, Limits as BookLimits, limits_of}
use Rattle.books.specs.declared.draft.Draft.{Draft}
use Rattle.books.specs.declared.limits.Limits.{Limits}
use Rattle.books.specs.Guard.{book_of}

-- the book that a draft is
abbrev pub drafted : Draft → Book
drafted draft = book_of draft.rows.now draft.definitions.now

-- the limits that these numbers and this count of patterns set
abbrev pub limits_in : {K : Type 0} → Kind K → Limits K → BookLimits
limits_in kind limits = limits_of kind limits.patterns limits.numbers.now
