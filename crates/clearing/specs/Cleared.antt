-- What a view of a cleared book looks at.
use Rattle.std.specs.Prelude.{◌≡◌, ℕ, ◌*◌, ◌<◌, true, false, List, [], ◌∷◌, length, Ok}
use Rattle.numbers.specs.Kinds.{Kind}
use Rattle.rules.specs.declared.row.Row.TheVariants.{True, False}
use Rattle.rules.specs.Book.{Book, body_at, limits_of, Sealed}
use Rattle.rules.specs.Meaning.{World, Verdicts, Lawful}
use Rattle.rules.specs.Clear.{clear}
use Rattle.books.specs.declared.book.Book.{Book as View}
use Rattle.books.specs.Views.{Views}
use Rattle.clearing.specs.declared.cleared.Cleared.{Cleared}
use Rattle.clearing.specs.Views.{viewed, ClearForm}
use Rattle.clearing.specs.Outcomes.{Outcome, front_book}

-- the cleared book that accepts nothing: a definition whose body is a row that is false, and its complement
abbrev pub Nothing : Cleared → Type 0
Nothing c = Views c.book (False ∷ True ∷ []) (0 ∷ 1 ∷ []) 0 0

-- by every lawful table of it definition 0 accepts no value, and definition 1 each
abbrev pub AcceptsNothing : Type 0 → Type 0
AcceptsNothing K = (world : World K) (c : Cleared) (V : Verdicts) →
    let book = viewed c.book in
    Nothing c → Lawful world book V → (n : ℕ) → n < length world.doc → (V (body_at book 0) n ≡ false) × (V (body_at book 1) n ≡ true)

-- What is sealed of the front of the memory, after a book was cleared into it, is cleared as it stands: the view is one of the cleared book.
abbrev pub ViewsClear : Type 0 → Type 0
ViewsClear K = (kind : Kind K) (patterns : ℕ) (numbers : List K) (book before after : Book) (n : ℕ) (view : View) (c : Cleared) →
    let limits = limits_of kind patterns numbers in
    let front = front_book n (2 * length book.definitions) after in
    Sealed limits book → Outcome book before after (Ok n) →
    (Sealed limits front → Views view front.rows front.definitions (length numbers) patterns) → (ClearForm (viewed view) → c.book ≡ view) →
    Views c.book (clear book).rows (clear book).definitions (length numbers) patterns
