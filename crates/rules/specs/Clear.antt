-- Clearing: a book without `not` that says of each row and of its complement what the book says.
use Rattle.std.specs.Prelude.{ℕ, zero, suc, ◌+◌, cond, not, List, [], ◌∷◌, ◌++◌, map, length, Some, None, Option, nat_lt, slice_index_or}
use Rattle.rules.specs.declared.row.ValueType.{ValueType}
use Rattle.rules.specs.declared.row.ValueType.TheVariants.{Null, Boolean, Number, Text, List as Listed, Object}
use Rattle.rules.specs.declared.row.Range.{Range}
use Rattle.rules.specs.declared.row.Bounds.{Bounds}
use Rattle.rules.specs.declared.place.Place.{Place}
use Rattle.rules.specs.declared.row.Row.{Row}
use Rattle.rules.specs.declared.row.Row.TheVariants.{True, False, OfType, BooleanIs, Pattern, NotPattern, Length, Between, StrictlyBetween, Multiple, NotMultiple, EveryMember, SomeMember, Members, EveryElement, SomeElement, Count, And, Or, Not, Variable}
use Rattle.rules.specs.Value.{type_index}
use Rattle.rules.specs.Book.{Book}

-- the rows that every cleared book begins with
abbrev pub fixed : List Row
fixed = OfType Null ∷ OfType Boolean ∷ OfType Number ∷ OfType Text ∷ OfType Listed ∷ OfType Object ∷ True ∷ False ∷ []

-- where the positive row and the complement of a row stand
abbrev pub place : ℕ → ℕ → Place
place p n = record { positive = p; negative = n }

-- the rows that a row adds, and where it then stands
pub record Added : Type 0 where
  pub rows : List Row
  pub stands : Place

abbrev pub added : List Row → ℕ → ℕ → Added
added rows p n = record { rows = rows; stands = place p n }

-- the k-th type in ascending order, t left out
abbrev pub other_type : ValueType → ℕ → ℕ
other_type t k = cond (nat_lt k (type_index t)) k (k + 1)

-- the row and, for values of its type, the turned row: from s on
abbrev pub turn : ValueType → ℕ → Row → Row → Added
turn t s row turned_row = added (row ∷ turned_row ∷ And (type_index t) (s + 1) ∷ []) s (s + 2)

-- the row and, for values of its type, the sides that it leaves out: from s on
abbrev pub outside : ValueType → ℕ → Row → Option Row → Option Row → Added
outside t s row None None = added (row ∷ []) s 7
outside t s row (Some low) None = added (row ∷ low ∷ And (type_index t) (s + 1) ∷ []) s (s + 2)
outside t s row None (Some high) = added (row ∷ high ∷ And (type_index t) (s + 1) ∷ []) s (s + 2)
outside t s row (Some low) (Some high) = added (row ∷ low ∷ high ∷ Or (s + 1) (s + 2) ∷ And (type_index t) (s + 3) ∷ []) s (s + 4)

-- the counts below a lower end, and above an upper one
abbrev pub below : ℕ → Option Range
below zero = None
below (suc n) = Some (record { lower = 0; upper = Some n })

abbrev pub above : Option ℕ → Option Range
above None = None
above (Some n) = Some (record { lower = n + 1; upper = None })

-- the numbers below a lower bound, and above an upper one
abbrev pub under : Option ℕ → Option Bounds
under None = None
under (Some i) = Some (record { lower = None; upper = Some i })

abbrev pub over : Option ℕ → Option Bounds
over None = None
over (Some i) = Some (record { lower = Some i; upper = None })

-- a row for what is left out on one side, if anything is
abbrev pub side : {A : Type 0} → (A → Row) → Option A → Option Row
side row None = None
side row (Some x) = Some (row x)

-- the sides of a range under an operator on counts, and of bounds under an operator on numbers
abbrev pub around_range : ValueType → ℕ → (Range → Row) → Range → Added
around_range t s row range = outside t s (row range) (side row (below range.lower)) (side row (above range.upper))

abbrev pub around_bounds : ℕ → (Bounds → Row) → (Bounds → Row) → Bounds → Added
around_bounds s row turned_row bounds = outside Number s (row bounds) (side turned_row (under bounds.lower)) (side turned_row (over bounds.upper))

-- What a row adds: `places` tells where the rows before it stand, s is the next free row, d the count of definitions.
abbrev pub adds : (ℕ → Place) → ℕ → ℕ → Row → Added
adds places d s True = added [] 6 7
adds places d s False = added [] 7 6
adds places d s (OfType t) =
    added (Or (other_type t 0) (other_type t 1) ∷ Or s (other_type t 2) ∷ Or (s + 1) (other_type t 3) ∷ Or (s + 2) (other_type t 4) ∷ []) (type_index t) (s + 3)
adds places d s (BooleanIs b) = turn Boolean s (BooleanIs b) (BooleanIs (not b))
adds places d s (Pattern p) = turn Text s (Pattern p) (NotPattern p)
adds places d s (NotPattern p) = turn Text s (NotPattern p) (Pattern p)
adds places d s (Length range) = around_range Text s Length range
adds places d s (Between bounds) = around_bounds s Between StrictlyBetween bounds
adds places d s (StrictlyBetween bounds) = around_bounds s StrictlyBetween Between bounds
adds places d s (Multiple q) = turn Number s (Multiple q) (NotMultiple q)
adds places d s (NotMultiple q) = turn Number s (NotMultiple q) (Multiple q)
adds places d s (EveryMember p o) = turn Object s (EveryMember p (places o).positive) (SomeMember p (places o).negative)
adds places d s (SomeMember p o) = turn Object s (SomeMember p (places o).positive) (EveryMember p (places o).negative)
adds places d s (Members range) = around_range Object s Members range
adds places d s (EveryElement o) = turn Listed s (EveryElement (places o).positive) (SomeElement (places o).negative)
adds places d s (SomeElement o) = turn Listed s (SomeElement (places o).positive) (EveryElement (places o).negative)
adds places d s (Count o range) = around_range Listed s (Count (places o).positive) range
adds places d s (And a b) = added (And (places a).positive (places b).positive ∷ Or (places a).negative (places b).negative ∷ []) s (s + 1)
adds places d s (Or a b) = added (Or (places a).positive (places b).positive ∷ And (places a).negative (places b).negative ∷ []) s (s + 1)
adds places d s (Not o) = added [] (places o).negative (places o).positive
adds places d s (Variable v) = added (Variable v ∷ Variable (d + v) ∷ []) s (s + 1)

-- a clearing under way: the rows written, and the places of the rows read
pub record Clearing : Type 0 where
  pub written : List Row
  pub places : List Place

-- the place of a row that was read
abbrev pub look_up : List Place → ℕ → Place
look_up places r = slice_index_or places r (place 0 0)

-- one row more
abbrev pub next : ℕ → Clearing → Row → Clearing
next d c row =
    let new = adds (look_up c.places) d (length c.written) row in
    record { written = c.written ++ new.rows; places = c.places ++ (new.stands ∷ []) }

-- the rows, one after another
abbrev pub clearing : ℕ → Clearing → List Row → Clearing
clearing d c [] = c
clearing d c (row ∷ rows) = clearing d (next d c row) rows

abbrev pub begun : Clearing
begun = record { written = fixed; places = [] }

abbrev pub cleared : Book → Clearing
cleared book = clearing (length book.definitions) begun book.rows

-- where row r of the book stands in the cleared one, and where its complement
abbrev pub place_of : Book → ℕ → Place
place_of book r = look_up (cleared book).places r

abbrev pub positive_row : Book → ℕ → ℕ
positive_row book r = (place_of book r).positive

abbrev pub complement_row : Book → ℕ → ℕ
complement_row book r = (place_of book r).negative

-- definition k goes to where its body stands, definition d + k to the complement
abbrev pub clear : Book → Book
clear book = record {
  rows = (cleared book).written;
  definitions = map (positive_row book) book.definitions ++ map (complement_row book) book.definitions;
}
