-- What the files `names`, `masks` and `book` come to, and what is printed then.
use Rattle.std.specs.Prelude.{◌≡◌, ℕ, ◌⊎◌, List, Ok, Err, Result}
use Rattle.dialects.specs.Dialects.{pair_count}
use Rattle.dialects.specs.Files.{Outcome, room as part_room}
use Rattle.dialects.specs.declared.fault.PatternFault.{PatternFault}
use Rattle.numbers.specs.Kinds.{Kind}
use Rattle.rules.specs.Book.{Book}
use Rattle.rules.specs.Clear.{clear}
use Rattle.book_files.specs.Drafts.{Draft, Room, room_of, held, numbers, book}
use Rattle.book_files.specs.Files.{ComesTo}
use Rattle.clearing.specs.Outcomes.{RowsFit, DefinitionsFit, memory_of}
use Rattle.clearing.specs.declared.fault.ClearFault.{ClearFault}
use Rattle.clearing.specs.declared.fault.ClearFault.TheVariants.{TooManyRows, TooManyDefinitions}
use Rattle.book_lines.specs.Lines.{book_text}
use Rattle.clear_book.specs.declared.fault.Fault.{Fault}
use Rattle.clear_book.specs.declared.fault.Fault.TheVariants.{Patterns, Book as BookRefused, Clearing}
use Rattle.clear_book.specs.declared.files.Files.{Files}
use Rattle.clear_book.specs.declared.files.Memory.{Memory}
use Rattle.clear_book.specs.Faults.{refused_line}

-- how many patterns names and masks have side by side, or the first refusal of the two files
abbrev pub Counts : (most : ℕ) → (names masks : List ℕ) → Result ℕ PatternFault → Type 0
Counts most names masks (Ok p) = (n : ℕ) × (m : ℕ) × Outcome 4 most names (Ok n) × Outcome 5 most masks (Ok m) × (p ≡ pair_count n m)
Counts most names masks (Err fault) = Outcome 4 most names (Err fault) ⊎ ((n : ℕ) × Outcome 4 most names (Ok n) × Outcome 5 most masks (Err fault))

-- a cleared book and its numbers
pub record Shown (K : Type 0) : Type 0 where
  pub numbers : List K
  pub cleared : Book

abbrev pub End : Type 0 → Type 0
End K = Result (Shown K) Fault

abbrev pub shown : {K : Type 0} → Draft K → Shown K
shown draft = record { numbers = numbers draft; cleared = clear (book draft) }

-- why the cleared book does not fit into its memory, or within the most that a book may have
abbrev pub Unfit : Book → Book → ClearFault → Type 0
Unfit whole memory TooManyRows = RowsFit whole memory → ⊥
Unfit whole memory TooManyDefinitions = RowsFit whole memory × (DefinitionsFit whole memory → ⊥)

module _ {K : Type 0} (kind : Kind K) (room : Room) (memory : Book) (file : List ℕ) where
  -- what the book's file comes to, where there are p patterns: it is refused; or it is read and does not fit, cleared; or it does
  abbrev pub BookComes : ℕ → End K → Type 0
  BookComes p (Err (Patterns fault)) = ⊥
  BookComes p (Err (BookRefused fault)) = ComesTo kind p room file (Err fault)
  BookComes p (Err (Clearing fault)) = (draft : Draft K) × ComesTo kind p room file (Ok draft) × Unfit (book draft) memory fault
  BookComes p (Ok s) =
      (draft : Draft K) × ComesTo kind p room file (Ok draft) × RowsFit (book draft) memory × DefinitionsFit (book draft) memory × (s ≡ shown draft)

  -- The files of patterns are refused; or they have p patterns, and the book's file comes to something.
  abbrev pub Comes : (most : ℕ) → (names masks : List ℕ) → End K → Type 0
  Comes most names masks end =
      ((fault : PatternFault) × (end ≡ Err (Patterns fault)) × Counts most names masks (Err fault))
      ⊎ ((p : ℕ) × Counts most names masks (Ok p) × BookComes p end)

-- what the three files come to, with this memory
abbrev pub FilesCome : {K : Type 0} → Kind K → Files → Memory K → End K → Type 0
FilesCome kind files memory =
    Comes kind (room_of (held memory.book)) (memory_of memory.cleared) files.book.now (part_room memory.parts.now) files.names.now files.masks.now

-- it comes to this, and to nothing else
abbrev pub Settled : {E : Type 0} → (E → Type 0) → E → Type 0
Settled {E} To end = To end × ((other : E) → To other → other ≡ end)

-- the line of a refusal, or the lines of the cleared book
abbrev pub text : {K : Type 0} → Kind K → End K → List ℕ
text kind (Ok s) = book_text kind s.numbers s.cleared
text kind (Err fault) = refused_line fault

-- the files come to one thing, and its text is printed
pub record Prints {K : Type 0} (kind : Kind K) (To : End K → Type 0) (out : List ℕ) : Type 0 where
  pub end : End K
  pub settled : Settled To end
  pub printed : out ≡ text kind end
