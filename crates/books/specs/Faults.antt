-- The number, place and layer of each fault of a rule book.
use Rattle.std.specs.Prelude.{ℕ}
use Rattle.faults.specs.declared.Layer.{Layer}
use Rattle.faults.specs.declared.Layer.TheVariants.{Kind, Book}
use Rattle.faults.specs.declared.Refusal.{Refusal}
use Rattle.books.specs.declared.fault.BookFault.{BookFault}
use Rattle.books.specs.declared.fault.BookFault.TheVariants.{FileTooLong, UnknownTag, WrongLength, NotAllowed, BadNumber, NotAboveZero, Missing, Unguarded, NoDefinition, TooMany}

abbrev pub refused : ℕ → ℕ → Layer → Refusal
refused n at layer = record { number = n; place = at; layer = layer }

abbrev pub refusal_of : BookFault → Refusal
refusal_of FileTooLong = refused 31 0 Book
refusal_of (UnknownTag place) = refused 21 place Book
refusal_of (WrongLength place) = refused 22 place Book
refusal_of (NotAllowed place) = refused 23 place Book
refusal_of (BadNumber place cause) = refused 24 place Kind
refusal_of (NotAboveZero place) = refused 25 place Book
refusal_of (Missing place) = refused 26 place Book
refusal_of (Unguarded row) = refused 27 row Book
refusal_of (NoDefinition place) = refused 28 place Book
refusal_of (TooMany place) = refused 34 place Book
