-- What the steps hand on is what the files come to.
use Rattle.std.proofs.Common.{◌≡◌, ℕ, List, Ok, Err, Result, sym, refl, ap, ◌∙◌, subst}
use Rattle.std.specs.Result.{IsErrAnd}
use Rattle.dialects.specs.Files.{room}
use Rattle.dialects.specs.declared.fault.PatternFault.{PatternFault}
use Rattle.numbers.specs.Kinds.{Kind}
use Rattle.rules.specs.Book.{limits_of, Sealed}
use Rattle.rules.specs.Clear.{clear}
use Rattle.books.specs.Drafts.{drafted, limits_in}
use Rattle.books.specs.declared.fault.BookFault.{BookFault}
use Rattle.book_files.specs.Drafts.{Draft, Memory as BookRoom, Room, room_of, held, numbers, book}
use Rattle.book_files.specs.Files.{ComesTo}
use Rattle.book_files.proofs.Whole.{comes_file}
use Rattle.clearing.specs.Outcomes.{RowsFit, DefinitionsFit, memory_of}
use Rattle.clearing.specs.declared.fault.ClearFault.{ClearFault}
use Rattle.clear_book.specs.declared.fault.Fault.{Fault}
use Rattle.clear_book.specs.declared.fault.Fault.TheVariants.{Patterns, Book as BookRefused, Clearing}
use Rattle.clear_book.specs.declared.files.Files.{Files}
use Rattle.clear_book.specs.declared.files.Memory.{Memory}
use Rattle.clear_book.specs.declared.limited.LimitedBook.{LimitedBook}
use Rattle.clear_book.specs.Files.{Counts, End, Shown, shown, Unfit, BookComes, FilesCome, Settled}
use Rattle.clear_book.specs.Steps.{shown_of, StandsFor, HandsOn, ReadsFile, Clears}
use Rattle.clear_book.proofs.Results.{never, same_ok, same_err}
use Rattle.clear_book.proofs.Settling.{book_refused, book_unfit, book_cleared, patterns_refused, then_book}

module _ {K : Type 0} (p : ℕ) where
  -- a book that is handed on is what the file stands for
  handed : (o : Result (Draft K) BookFault) (limited : LimitedBook K) → HandsOn p o (Ok limited) → (draft : Draft K) × (o ≡ Ok draft) × StandsFor p limited draft
  handed (Ok draft) limited h = (draft, refl, subst (λ l. StandsFor p l draft) (sym (same_ok h.1)) h.2)
  handed (Err f) limited h = never h

  -- a fault that is handed on is why the file is refused
  handed_fault : (o : Result (Draft K) BookFault) (f : BookFault) → HandsOn p o (Err f) → o ≡ Err f
  handed_fault (Ok draft) f h = never (sym h.1)
  handed_fault (Err e) f h = ap Err (sym (same_err h))

-- what is handed on by a `?`
handed_on : {K : Type 0} (To : End K → Type 0) (f : Fault) (r : Result (LimitedBook K) Fault) → IsErrAnd r (λ e. e ≡ f) → Settled To (Err f) → Settled To (shown_of r)
handed_on To f (Ok limited) is settled = absurd is
handed_on To f (Err e) is settled = subst (λ x. Settled To (Err x)) (sym is) settled

module _ {K : Type 0} (kind : Kind K) (p : ℕ) (room : Room) (file : List ℕ) (limited : LimitedBook K) (reads : ReadsFile kind p room file (Ok limited)) where
  found : (draft : Draft K) × (reads.outcome ≡ Ok draft) × StandsFor p limited draft
  found = handed p reads.outcome limited reads.hands_on

  settled : Settled (ComesTo kind p room file) (Ok found.0)
  settled = subst (Settled (ComesTo kind p room file)) found.1 reads.settled

-- a book that is handed on is sealed
file_sealed : {K : Type 0} (kind : Kind K) (p : ℕ) (memory : BookRoom K) (file : List ℕ) (limited : LimitedBook K) →
    ReadsFile kind p (room_of memory) file (Ok limited) → Sealed (limits_in kind limited.limits) (drafted limited.draft)
file_sealed kind p memory file limited reads =
    let is = (found kind p (room_of memory) file limited reads).2 in
    let draft = (found kind p (room_of memory) file limited reads).0 in
    let sealed : Sealed (limits_of kind p (numbers draft)) (book draft) = (comes_file kind p memory file draft (settled kind p (room_of memory) file limited reads).0).sealed in
    subst (λ q. Sealed (limits_of kind q limited.limits.numbers.now) (drafted limited.draft)) (sym is.patterns_are)
    (subst (λ ns. Sealed (limits_of kind p ns) (drafted limited.draft)) (sym is.numbers_are) (subst (Sealed (limits_of kind p (numbers draft))) (sym is.book_is) sealed))

module _ {K : Type 0} (kind : Kind K) (files : Files) (memory : Memory K) where
  abbrev To : End K → Type 0
  To = FilesCome kind files memory

  abbrev To_counts : Result ℕ PatternFault → Type 0
  To_counts = Counts (room memory.parts.now) files.names.now files.masks.now

  abbrev Reads : ℕ → Result (LimitedBook K) BookFault → Type 0
  Reads p = ReadsFile kind p (room_of (held memory.book)) files.book.now

  pub ends_patterns : (f : PatternFault) (r : Result (LimitedBook K) Fault) → Settled To_counts (Err f) → IsErrAnd r (λ e. e ≡ Patterns f) → Settled To (shown_of r)
  ends_patterns f r counts is =
      handed_on To (Patterns f) r is
      (patterns_refused kind (room_of (held memory.book)) (memory_of memory.cleared) files.book.now (room memory.parts.now) files.names.now files.masks.now f counts)

  module _ (p : ℕ) (counts : Settled To_counts (Ok p)) where
    abbrev ToBook : End K → Type 0
    ToBook = BookComes kind (room_of (held memory.book)) (memory_of memory.cleared) files.book.now p

    all : (end : End K) → Settled ToBook end → Settled To end
    all end settled =
        then_book kind (room_of (held memory.book)) (memory_of memory.cleared) files.book.now (room memory.parts.now) files.names.now files.masks.now p end counts settled

    pub ends_book : (f : BookFault) (r : Result (LimitedBook K) Fault) → Reads p (Err f) → IsErrAnd r (λ e. e ≡ BookRefused f) → Settled To (shown_of r)
    ends_book f r reads is =
        let refused = subst (Settled (ComesTo kind p (room_of (held memory.book)) files.book.now)) (handed_fault p reads.outcome f reads.hands_on) reads.settled in
        handed_on To (BookRefused f) r is (all (Err (BookRefused f)) (book_refused kind (room_of (held memory.book)) (memory_of memory.cleared) files.book.now p f refused))

    module _ (limited : LimitedBook K) (reads : Reads p (Ok limited)) where
      abbrev draft : Draft K
      draft = (found kind p (room_of (held memory.book)) files.book.now limited reads).0

      is : StandsFor p limited draft
      is = (found kind p (room_of (held memory.book)) files.book.now limited reads).2

      read : Settled (ComesTo kind p (room_of (held memory.book)) files.book.now) (Ok draft)
      read = settled kind p (room_of (held memory.book)) files.book.now limited reads

      pub book_sealed : Sealed (limits_in kind limited.limits) (drafted limited.draft)
      book_sealed = file_sealed kind p (held memory.book) files.book.now limited reads

      pub ends_unfit : (f : ClearFault) (r : Result (LimitedBook K) Fault) → Clears limited (memory_of memory.cleared) (Err f) → IsErrAnd r (λ e. e ≡ Clearing f) → Settled To (shown_of r)
      ends_unfit f r clears ends =
          let unfit = subst (λ b. Unfit b (memory_of memory.cleared) f) is.book_is clears in
          handed_on To (Clearing f) r ends (all (Err (Clearing f)) (book_unfit kind (room_of (held memory.book)) (memory_of memory.cleared) files.book.now p draft f read unfit))

      pub ends_cleared : (cleared : LimitedBook K) → Clears limited (memory_of memory.cleared) (Ok cleared) → Settled To (shown_of {K = K} (Ok cleared))
      ends_cleared cleared clears =
          let fits = subst (λ b. RowsFit b (memory_of memory.cleared) × DefinitionsFit b (memory_of memory.cleared) × (drafted cleared.draft ≡ clear b) × (cleared.limits ≡ limited.limits)) is.book_is clears in
          let same : ◌≡◌ {A = Shown K} (shown draft) (record { numbers = cleared.limits.numbers.now; cleared = drafted cleared.draft }) =
          ap (λ ns. record { numbers = ns; cleared = clear (book draft) }) (sym (ap (λ l. l.numbers.now) clears.3 ∙ is.numbers_are))
          ∙ ap (λ b. record { numbers = cleared.limits.numbers.now; cleared = b }) (sym fits.2) in
          subst (λ s. Settled To (Ok s)) same
          (all (Ok (shown draft)) (book_cleared kind (room_of (held memory.book)) (memory_of memory.cleared) files.book.now p draft read fits.0 fits.1))
