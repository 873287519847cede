-- What stands in a field, or what refuses it.
use Rattle.std.specs.Prelude.{◌≡◌, ℕ, ◌+◌, ◌*◌, Bool, cond, List, [], ◌∷◌, ◌++◌, length, drop, Some, None, Ok, Err, Option, Result, ◌==◌, nat_lt, slice_index}
use Rattle.std.specs.Result.{result_and}
use Rattle.numbers.specs.Kinds.{Kind}
use Rattle.kinds.specs.Causes.{outcome}
use Rattle.kinds.specs.declared.number.Cause.{Cause}
use Rattle.lists.specs.Lists.{memory_of, values_of, spare_of}
use Rattle.lists.specs.declared.lent.LentList.{LentList}
use Rattle.rules.specs.Book.{Limits}
use Rattle.rules.specs.declared.row.Row.{Row}
use Rattle.rows.specs.Rows.{row_of}
use Rattle.books.specs.Tests.{Tested, row_test}
use Rattle.books.specs.declared.fault.BookFault.{BookFault}
use Rattle.books.specs.declared.fault.BookFault.TheVariants.{TooMany, NotAllowed, BadNumber, Missing, WrongLength}

-- one more than there is room for is refused, whatever it is
abbrev pub if_room : {A : Type 0} → Bool → (place : ℕ) → Result A BookFault → Result A BookFault
if_room full place r = cond full (Err (TooMany place)) r

-- a number outside the kind is refused with the kind's cause
abbrev pub with_cause : {K : Type 0} → (place : ℕ) → Result K Cause → Result K BookFault
with_cause place (Ok x) = Ok x
with_cause place (Err cause) = Err (BadNumber place cause)

abbrev pub number_from : {K : Type 0} → Kind K → Bool → (place : ℕ) → List ℕ → Result K BookFault
number_from kind full place token = if_room full place (with_cause place (outcome kind token))

-- bytes that are no row's are refused as a row is that may not stand in the book
abbrev pub tested : Limits → (at place : ℕ) → Option Row → Result Row BookFault
tested limits at place None = Err (NotAllowed place)
tested limits at place (Some row) = result_and (row_test limits at place row) (Ok row)

abbrev pub row_from : Limits → Bool → (at place : ℕ) → List ℕ → Result Row BookFault
row_from limits full at place bytes = if_room full place (tested limits at place (row_of bytes))

-- the row that two bytes name, the high one first
abbrev pub named : List ℕ → ℕ
named bytes = slice_index bytes 0 * 256 + slice_index bytes 1

abbrev pub body_row : (place rows : ℕ) → List ℕ → Result ℕ BookFault
body_row place rows bytes = cond (length bytes == 2) (cond (nat_lt (named bytes) rows) (Ok (named bytes)) (Err (Missing place))) (Err (WrongLength place))

abbrev pub definition_from : Bool → (place rows : ℕ) → List ℕ → Result ℕ BookFault
definition_from full place rows bytes = if_room full place (body_row place rows bytes)

-- the item stands behind the others, and memory past it is as it was; or it is refused, and nothing changed
abbrev pub Puts : {A : Type 0} → Result A BookFault → (before after : LentList A) → Tested → Type 0
Puts {A} item before after (Ok u) = (x : A) × (item ≡ Ok x) × (values_of after ≡ values_of before ++ x ∷ []) × (spare_of after ≡ drop 1 (spare_of before))
Puts item before after (Err e) = (item ≡ Err e) × (after.count ≡ before.count) × (memory_of after ≡ memory_of before)
