-- Clearing, sealing and viewing one after another.
use Rattle.std.proofs.Common.{◌≡◌, ℕ, ◌*◌, List, length, take, Ok, subst}
use Rattle.numbers.specs.Kinds.{Kind}
use Rattle.rules.specs.Book.{Book, limits_of, Sealed}
use Rattle.rules.specs.Clear.{clear}
use Rattle.books.specs.declared.book.Book.{Book as View}
use Rattle.books.specs.Guard.{book_of}
use Rattle.books.specs.Views.{Views}
use Rattle.clearing.specs.declared.cleared.Cleared.{Cleared}
use Rattle.clearing.specs.Views.{viewed, ClearForm}
use Rattle.clearing.specs.Outcomes.{Outcome}
use Rattle.clearing.proofs.Forms.{views_clear}

-- the view is one of the cleared book, with the counts as the calls answer them
pub seen : {K : Type 0} (kind : Kind K) (patterns p : ℕ) (numbers : List K) (book before after : Book) (n : ℕ) (definitions : List ℕ) (view : View) (c : Cleared) →
    p ≡ patterns → definitions ≡ book.definitions → Sealed (limits_of kind patterns numbers) book → Outcome book before after (Ok n) →
    (Sealed (limits_of kind p numbers) (book_of (take n after.rows) (take (2 * length definitions) after.definitions)) →
    Views view (take n after.rows) (take (2 * length definitions) after.definitions) (length numbers) p) →
    (ClearForm (viewed view) → c.book ≡ view) → Views c.book (clear book).rows (clear book).definitions (length numbers) patterns
seen {K = K} kind patterns p numbers book before after n definitions view c of_patterns of_definitions sealed outcome same kept =
    let same_count = subst (λ q. Sealed (limits_of kind q numbers) (book_of (take n after.rows) (take (2 * length definitions) after.definitions)) →
    Views view (take n after.rows) (take (2 * length definitions) after.definitions) (length numbers) q) of_patterns same in
    let the_same = subst (λ ds. Sealed (limits_of kind patterns numbers) (book_of (take n after.rows) (take (2 * length ds) after.definitions)) →
    Views view (take n after.rows) (take (2 * length ds) after.definitions) (length numbers) patterns) of_definitions same_count in
    views_clear K kind patterns numbers book before after n view c sealed outcome the_same kept
