-- How many rows a row adds, and how many a cleared book has.
use Rattle.std.specs.Prelude.{◌≡◌, ℕ, ◌<◌, ◌≤◌, Bool, true, false, List, length, is_some, Some, None, Option, nat_lt, slice_index_or}
use Rattle.rules.specs.declared.row.Range.{Range}
use Rattle.rules.specs.declared.row.Bounds.{Bounds}
use Rattle.rules.specs.declared.row.Row.{Row}
use Rattle.rules.specs.declared.row.Row.TheVariants.{True, False, OfType, BooleanIs, Pattern, NotPattern, Length, Between, StrictlyBetween, Multiple, NotMultiple, EveryMember, SomeMember, Members, EveryElement, SomeElement, Count, And, Or, Not, Variable}
use Rattle.rules.specs.Clear.{clearing, begun}
use Rattle.clearing.specs.Adding.{Plain}

-- a row with these sides
abbrev pub sides : Bool → Bool → ℕ
sides false false = 1
sides true false = 3
sides false true = 3
sides true true = 5

abbrev pub range_length : Range → ℕ
range_length range = sides (nat_lt 0 range.lower) (is_some range.upper)

abbrev pub bounds_length : Bounds → ℕ
bounds_length bounds = sides (is_some bounds.lower) (is_some bounds.upper)

abbrev pub added_length : Row → ℕ
added_length True = 0
added_length False = 0
added_length (OfType t) = 4
added_length (BooleanIs b) = 3
added_length (Pattern p) = 3
added_length (NotPattern p) = 3
added_length (Length range) = range_length range
added_length (Between bounds) = bounds_length bounds
added_length (StrictlyBetween bounds) = bounds_length bounds
added_length (Multiple q) = 3
added_length (NotMultiple q) = 3
added_length (EveryMember p o) = 3
added_length (SomeMember p o) = 3
added_length (Members range) = range_length range
added_length (EveryElement o) = 3
added_length (SomeElement o) = 3
added_length (Count o range) = range_length range
added_length (And a b) = 2
added_length (Or a b) = 2
added_length (Not o) = 0
added_length (Variable v) = 2

-- not too many rows, and each can be cleared
abbrev pub AllPlain : ℕ → List Row → Type 0
AllPlain d rows = (length rows ≤ 2048) × ((r : ℕ) → r < length rows → Plain d (slice_index_or rows r False))

-- what is answered for all rows of a book of d definitions
abbrev pub RowsCount : ℕ → List Row → Option ℕ → Type 0
RowsCount d rows None = AllPlain d rows → ⊥
RowsCount d rows (Some n) = AllPlain d rows × (n ≡ length (clearing d begun rows).written)
