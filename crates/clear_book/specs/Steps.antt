-- What the steps from the files to the cleared book hand on.
use Rattle.std.specs.Prelude.{◌≡◌, ℕ, List, Ok, Err, Result}
use Rattle.numbers.specs.Kinds.{Kind}
use Rattle.rules.specs.Book.{Book}
use Rattle.rules.specs.Clear.{clear}
use Rattle.books.specs.Drafts.{drafted}
use Rattle.books.specs.declared.fault.BookFault.{BookFault}
use Rattle.book_files.specs.Drafts.{Draft, Room, numbers, book}
use Rattle.book_files.specs.Files.{ComesTo}
use Rattle.clearing.specs.Outcomes.{RowsFit, DefinitionsFit}
use Rattle.clearing.specs.declared.fault.ClearFault.{ClearFault}
use Rattle.clear_book.specs.declared.fault.Fault.{Fault}
use Rattle.clear_book.specs.declared.limited.LimitedBook.{LimitedBook}
use Rattle.clear_book.specs.Files.{End, Unfit, Settled}

-- a cleared book with its numbers, as it stands in memory, or a fault
abbrev pub shown_of : {K : Type 0} → Result (LimitedBook K) Fault → End K
shown_of (Ok limited) = Ok (record { numbers = limited.limits.numbers.now; cleared = drafted limited.draft })
shown_of (Err fault) = Err fault

-- this is the book that a file stands for, with its numbers, for so many patterns
pub record StandsFor {K : Type 0} (patterns : ℕ) (limited : LimitedBook K) (draft : Draft K) : Type 0 where
  pub numbers_are : limited.limits.numbers.now ≡ numbers draft
  pub patterns_are : limited.limits.patterns ≡ patterns
  pub book_is : drafted limited.draft ≡ book draft

-- what a book's file comes to is handed on
abbrev pub HandsOn : {K : Type 0} → ℕ → Result (Draft K) BookFault → Result (LimitedBook K) BookFault → Type 0
HandsOn patterns (Ok draft) r = (limited : LimitedBook _) × (r ≡ Ok limited) × StandsFor patterns limited draft
HandsOn patterns (Err fault) r = r ≡ Err fault

-- the book's file comes to one thing, which is handed on
pub record ReadsFile {K : Type 0} (kind : Kind K) (patterns : ℕ) (room : Room) (file : List ℕ) (r : Result (LimitedBook K) BookFault) : Type 0 where
  pub outcome : Result (Draft K) BookFault
  pub settled : Settled (ComesTo kind patterns room file) outcome
  pub hands_on : HandsOn patterns outcome r

-- the book is cleared, within the same limits; or that does not fit
abbrev pub Clears : {K : Type 0} → LimitedBook K → Book → Result (LimitedBook K) ClearFault → Type 0
Clears whole memory (Ok cleared) =
    RowsFit (drafted whole.draft) memory × DefinitionsFit (drafted whole.draft) memory × (drafted cleared.draft ≡ clear (drafted whole.draft)) × (cleared.limits ≡ whole.limits)
Clears whole memory (Err fault) = Unfit (drafted whole.draft) memory fault
