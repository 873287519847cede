-- What the steps of the reading call promise each other.
use Rattle.std.specs.Prelude.{◌≡◌, ℕ, ◌+◌, ◌-◌, ◌*◌, not, ◌⊎◌, List, length, Ok, Err, Result, ◌==◌}
use Rattle.std.specs.Result.{result_and}
use Rattle.numbers.specs.Kinds.{Kind}
use Rattle.rules.specs.declared.row.Row.{Row}
use Rattle.rules.specs.Book.{Limits}
use Rattle.books.specs.Guard.{book_of}
use Rattle.books.specs.Sealing.{ComesTo as ComesTested}
use Rattle.books.specs.Tests.{Tested, passes, ask, variable_test, first_refused}
use Rattle.books.specs.declared.fault.BookFault.{BookFault}
use Rattle.books.specs.declared.fault.BookFault.TheVariants.{NoDefinition}
use Rattle.book_files.specs.declared.reading.BookCounts.{BookCounts}
use Rattle.book_files.specs.Drafts.{Draft, Memory, room_of, file, counts_of}
use Rattle.book_files.specs.Files.{Fits, Filled, ReadsTo, ComesTo}

-- all fields of the file are read, and it is not yet tested as a whole; or one of them is refused
pub record AllRead {K : Type 0} (kind : Kind K) (patterns : ℕ) (bytes : List ℕ) (before after : Memory K) (counts : BookCounts) : Type 0 where
  pub draft : Draft K
  pub written : bytes ≡ file draft
  pub fits : Fits kind patterns (room_of before) draft
  pub counted : counts ≡ counts_of draft
  pub filled : Filled draft before after

abbrev pub Fills : {K : Type 0} → Kind K → ℕ → List ℕ → Memory K → Memory K → Result BookCounts BookFault → Type 0
Fills kind patterns bytes before after (Ok counts) = AllRead kind patterns bytes before after counts
Fills kind patterns bytes before after (Err e) = ReadsTo kind patterns (room_of before) bytes (Err e)

-- what is tested at the end of a file of so many bytes: there is a definition, and the variables' definitions are there
abbrev pub end_of : ℕ → List Row → List ℕ → Tested
end_of size rows bodies =
    result_and (ask (not (length bodies == 0)) (NoDefinition size))
    (first_refused (λ r row. variable_test (length bodies) (size - 13 * length rows - 5 * length bodies + 13 * r) row) 0 rows)

-- then the book is tested as one in memory is
abbrev pub TestsEnd : Limits → ℕ → List Row → List ℕ → Tested → Type 0
TestsEnd within size rows bodies (Ok u) = (end_of size rows bodies ≡ passes) × ComesTested within (book_of rows bodies) (Ok u)
TestsEnd within size rows bodies (Err e) = (end_of size rows bodies ≡ Err e) ⊎ ((end_of size rows bodies ≡ passes) × ComesTested within (book_of rows bodies) (Err e))

-- what the file comes to, and where it stands for something, what is answered and left
pub record GrantedRead {K : Type 0} (kind : Kind K) (patterns : ℕ) (bytes : List ℕ) (before after : Memory K) (counts : BookCounts) : Type 0 where
  pub draft : Draft K
  pub comes : ComesTo kind patterns (room_of before) bytes (Ok draft)
  pub counted : counts ≡ counts_of draft
  pub filled : Filled draft before after

abbrev pub ReadsWhole : {K : Type 0} → Kind K → ℕ → List ℕ → Memory K → Memory K → Result BookCounts BookFault → Type 0
ReadsWhole kind patterns bytes before after (Ok counts) = GrantedRead kind patterns bytes before after counts
ReadsWhole kind patterns bytes before after (Err e) = ComesTo kind patterns (room_of before) bytes (Err e)
