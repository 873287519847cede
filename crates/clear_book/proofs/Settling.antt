-- Each way out is one thing that the files come to, and there is no other.
use Rattle.std.proofs.Common.{◌≡◌, ℕ, List, Ok, Err, Result, sym, refl, ap, ◌∙◌, subst, inl, inr}
use Rattle.dialects.specs.declared.fault.PatternFault.{PatternFault}
use Rattle.numbers.specs.Kinds.{Kind}
use Rattle.rules.specs.Book.{Book}
use Rattle.books.specs.declared.fault.BookFault.{BookFault}
use Rattle.book_files.specs.Drafts.{Draft, Room, book}
use Rattle.book_files.specs.Files.{ComesTo}
use Rattle.clearing.specs.Outcomes.{RowsFit, DefinitionsFit}
use Rattle.clearing.specs.declared.fault.ClearFault.{ClearFault}
use Rattle.clearing.specs.declared.fault.ClearFault.TheVariants.{TooManyRows, TooManyDefinitions}
use Rattle.clear_book.specs.declared.fault.Fault.TheVariants.{Patterns, Book as BookRefused, Clearing}
use Rattle.clear_book.specs.Files.{Counts, End, shown, Unfit, BookComes, Comes, Settled}
use Rattle.clear_book.proofs.Results.{never, same_ok, same_err}

-- what fits is not refused, and what is refused is so for one reason
fit_or_not : (whole memory : Book) (f : ClearFault) → Unfit whole memory f → RowsFit whole memory → DefinitionsFit whole memory → ⊥
fit_or_not whole memory TooManyRows u rows definitions = u rows
fit_or_not whole memory TooManyDefinitions u rows definitions = u.1 definitions

one_reason : (whole memory : Book) (f g : ClearFault) → Unfit whole memory f → Unfit whole memory g → g ≡ f
one_reason whole memory TooManyRows TooManyRows u v = refl
one_reason whole memory TooManyRows TooManyDefinitions u v = absurd (u v.0)
one_reason whole memory TooManyDefinitions TooManyRows u v = absurd (v u.0)
one_reason whole memory TooManyDefinitions TooManyDefinitions u v = refl

module _ {K : Type 0} (kind : Kind K) (room : Room) (memory : Book) (file : List ℕ) (p : ℕ) where
  abbrev ToBook : End K → Type 0
  ToBook = BookComes kind room memory file p

  abbrev Read : Result (Draft K) BookFault → Type 0
  Read = ComesTo kind p room file

  only_refused : (e : BookFault) → Settled Read (Err e) → (other : End K) → ToBook other → other ≡ Err (BookRefused e)
  only_refused e read (Ok s) h = never (read.1 (Ok h.0) h.1)
  only_refused e read (Err (Patterns f)) h = absurd h
  only_refused e read (Err (BookRefused f)) h = ap (λ x. Err (BookRefused x)) (same_err (read.1 (Err f) h))
  only_refused e read (Err (Clearing f)) h = never (read.1 (Ok h.0) h.1)

  pub book_refused : (e : BookFault) → Settled Read (Err e) → Settled ToBook (Err (BookRefused e))
  book_refused e read = (read.0, only_refused e read)

  only_unfit : (draft : Draft K) (f : ClearFault) → Settled Read (Ok draft) → Unfit (book draft) memory f → (other : End K) → ToBook other → other ≡ Err (Clearing f)
  only_unfit draft f read u (Ok s) h =
      let fit : RowsFit (book draft) memory × DefinitionsFit (book draft) memory =
      subst (λ d. RowsFit (book d) memory × DefinitionsFit (book d) memory) (same_ok (read.1 (Ok h.0) h.1)) (h.2, h.3) in
      absurd (fit_or_not (book draft) memory f u fit.0 fit.1)
  only_unfit draft f read u (Err (Patterns g)) h = absurd h
  only_unfit draft f read u (Err (BookRefused g)) h = never (sym (read.1 (Err g) h))
  only_unfit draft f read u (Err (Clearing g)) h =
      ap (λ x. Err (Clearing x)) (one_reason (book draft) memory f g u (subst (λ d. Unfit (book d) memory g) (same_ok (read.1 (Ok h.0) h.1)) h.2))

  pub book_unfit : (draft : Draft K) (f : ClearFault) → Settled Read (Ok draft) → Unfit (book draft) memory f → Settled ToBook (Err (Clearing f))
  book_unfit draft f read u = ((draft, read.0, u), only_unfit draft f read u)

  only_cleared : (draft : Draft K) → Settled Read (Ok draft) → RowsFit (book draft) memory → DefinitionsFit (book draft) memory → (other : End K) → ToBook other → other ≡ Ok (shown draft)
  only_cleared draft read rows definitions (Ok s) h = ap Ok (h.4 ∙ ap shown (same_ok (read.1 (Ok h.0) h.1)))
  only_cleared draft read rows definitions (Err (Patterns g)) h = absurd h
  only_cleared draft read rows definitions (Err (BookRefused g)) h = never (sym (read.1 (Err g) h))
  only_cleared draft read rows definitions (Err (Clearing g)) h =
      absurd (fit_or_not (book draft) memory g (subst (λ d. Unfit (book d) memory g) (same_ok (read.1 (Ok h.0) h.1)) h.2) rows definitions)

  pub book_cleared : (draft : Draft K) → Settled Read (Ok draft) → RowsFit (book draft) memory → DefinitionsFit (book draft) memory → Settled ToBook (Ok (shown draft))
  book_cleared draft read rows definitions = ((draft, read.0, rows, definitions, refl), only_cleared draft read rows definitions)

module _ {K : Type 0} (kind : Kind K) (room : Room) (memory : Book) (file : List ℕ) (most : ℕ) (names masks : List ℕ) where
  abbrev ToAll : End K → Type 0
  ToAll = Comes kind room memory file most names masks

  only_patterns : (f : PatternFault) → Settled (Counts most names masks) (Err f) → (other : End K) → ToAll other → other ≡ Err (Patterns f)
  only_patterns f counts other (inl h) = h.1 ∙ ap (λ x. Err (Patterns x)) (same_err (counts.1 (Err h.0) h.2))
  only_patterns f counts other (inr h) = never (counts.1 (Ok h.0) h.1)

  pub patterns_refused : (f : PatternFault) → Settled (Counts most names masks) (Err f) → Settled ToAll (Err (Patterns f))
  patterns_refused f counts = (inl (f, refl, counts.0), only_patterns f counts)

  only_book : (p : ℕ) (end : End K) → Settled (Counts most names masks) (Ok p) → Settled (BookComes kind room memory file p) end → (other : End K) → ToAll other → other ≡ end
  only_book p end counts book-end other (inl h) = never (sym (counts.1 (Err h.0) h.2))
  only_book p end counts book-end other (inr h) =
      book-end.1 other (subst (λ q. BookComes kind room memory file q other) (same_ok (counts.1 (Ok h.0) h.1)) h.2)

  pub then_book : (p : ℕ) (end : End K) → Settled (Counts most names masks) (Ok p) → Settled (BookComes kind room memory file p) end → Settled ToAll end
  then_book p end counts book-end = (inr (p, counts.0, book-end.0), only_book p end counts book-end)
