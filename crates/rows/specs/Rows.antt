-- The fields of each row, and the row that fields are read as.
use Rattle.std.specs.Prelude.{◌≡◌, ℕ, Bool, true, false, cond, not, ◌&&◌, List, [], ◌∷◌, is_some, Some, None, Option, ◌==◌, ◌≢◌, slice_index_or}
use Rattle.std.specs.Option.{option_map, option_flatten}
use Rattle.std.specs.Bool.{then_some}
use Rattle.std.specs.List.{slice_get}
use Rattle.rules.specs.Book.{Ended}
use Rattle.rules.specs.Types.{types, is_short}
use Rattle.rules.specs.Value.{type_index}
use Rattle.rules.specs.declared.row.Bounds.{Bounds}
use Rattle.rules.specs.declared.row.Range.{Range}
use Rattle.rules.specs.declared.row.Row.{Row}
use Rattle.rules.specs.declared.row.Row.TheVariants.{True, False, OfType, BooleanIs, Pattern, NotPattern, Length, Between, StrictlyBetween, Multiple, NotMultiple, EveryMember, SomeMember, Members, EveryElement, SomeElement, Count, And, Or, Not, Variable}
use Rattle.rows.specs.declared.fields.Ends.{Ends}
use Rattle.rows.specs.declared.fields.Fields.{Fields}
use Rattle.rows.specs.Fields.{fields, no_ends, range_ends, bounds_ends, bytes_of, fields_from}

-- The fields of a row: the operator's number, first, second and the ends. What an operator does not use is 0, or absent.
abbrev pub fields_of : Row → Fields
fields_of True = fields 1 0 0 no_ends
fields_of False = fields 2 0 0 no_ends
fields_of (OfType t) = fields 3 (type_index t) 0 no_ends
fields_of (BooleanIs b) = fields 4 (cond b 1 0) 0 no_ends
fields_of (Pattern p) = fields 5 p 0 no_ends
fields_of (NotPattern p) = fields 6 p 0 no_ends
fields_of (Length range) = fields 7 0 0 (range_ends range)
fields_of (Between bounds) = fields 8 0 0 (bounds_ends bounds)
fields_of (StrictlyBetween bounds) = fields 9 0 0 (bounds_ends bounds)
fields_of (Multiple q) = fields 10 q 0 no_ends
fields_of (NotMultiple q) = fields 11 q 0 no_ends
fields_of (EveryMember p o) = fields 12 p o no_ends
fields_of (SomeMember p o) = fields 13 p o no_ends
fields_of (Members range) = fields 14 0 0 (range_ends range)
fields_of (EveryElement o) = fields 15 0 o no_ends
fields_of (SomeElement o) = fields 16 0 o no_ends
fields_of (Count o range) = fields 17 0 o (range_ends range)
fields_of (And a b) = fields 18 a b no_ends
fields_of (Or a b) = fields 19 a b no_ends
fields_of (Not o) = fields 20 0 o no_ends
fields_of (Variable v) = fields 21 v 0 no_ends

-- the ten bytes of a row
abbrev pub row_bytes : Row → List ℕ
row_bytes row = bytes_of (fields_of row)

-- the ranges of the row that bytes can hold: an upper end is at most 65,534
abbrev pub WellEnded : Row → Type 0
WellEnded True = Unit {0}
WellEnded False = Unit {0}
WellEnded (OfType t) = Unit {0}
WellEnded (BooleanIs b) = Unit {0}
WellEnded (Pattern p) = Unit {0}
WellEnded (NotPattern p) = Unit {0}
WellEnded (Length range) = Ended range
WellEnded (Between bounds) = Unit {0}
WellEnded (StrictlyBetween bounds) = Unit {0}
WellEnded (Multiple q) = Unit {0}
WellEnded (NotMultiple q) = Unit {0}
WellEnded (EveryMember p o) = Unit {0}
WellEnded (SomeMember p o) = Unit {0}
WellEnded (Members range) = Ended range
WellEnded (EveryElement o) = Unit {0}
WellEnded (SomeElement o) = Unit {0}
WellEnded (Count o range) = Ended range
WellEnded (And a b) = Unit {0}
WellEnded (Or a b) = Unit {0}
WellEnded (Not o) = Unit {0}
WellEnded (Variable v) = Unit {0}

-- Bytes are read as the row whose bytes they are: there is one only, or there is none.
abbrev pub ReadsRow : List ℕ → Option Row → Type 0
ReadsRow bytes (Some row) =
    (bytes ≡ row_bytes row) × WellEnded row × ((other : Row) → WellEnded other → bytes ≡ row_bytes other → other ≡ row)
ReadsRow bytes None = (other : Row) → WellEnded other → bytes ≢ row_bytes other

-- booleans in the order of their numbers
abbrev pub booleans : List Bool
booleans = false ∷ true ∷ []

abbrev pub unended : Ends → Bool
unended e = not (is_some e.lower) && not (is_some e.upper)

-- the range of two ends: the lower is present, the upper at most 65,534
abbrev pub range_between : Option ℕ → Option ℕ → Option Range
range_between None upper = None
range_between (Some lower) upper = then_some (is_short upper) (record { lower = lower; upper = upper })

abbrev pub range_from : Ends → Option Range
range_from e = range_between e.lower e.upper

-- what fields hold if nothing else is used
abbrev pub alone : Row → Fields → Option Row
alone row f = then_some (f.first == 0 && (f.second == 0 && unended f.ends)) row

abbrev pub first_alone : Fields → Option ℕ
first_alone f = then_some (f.second == 0 && unended f.ends) f.first

abbrev pub second_alone : Fields → Option ℕ
second_alone f = then_some (f.first == 0 && unended f.ends) f.second

abbrev pub pair_alone : (ℕ → ℕ → Row) → Fields → Option Row
pair_alone row f = then_some (unended f.ends) (row f.first f.second)

abbrev pub range_alone : Fields → Option Range
range_alone f = cond (f.first == 0 && f.second == 0) (range_from f.ends) None

abbrev pub bounds_alone : Fields → Option Bounds
bounds_alone f = then_some (f.first == 0 && f.second == 0) (record { lower = f.ends.lower; upper = f.ends.upper })

abbrev pub range_and_second : Fields → Option Range
range_and_second f = cond (f.first == 0) (range_from f.ends) None

-- what each operator reads, in the order of their numbers
abbrev pub readers : List (Fields → Option Row)
readers =
    (λ f. None)
    ∷ alone True
    ∷ alone False
    ∷ (λ f. option_map OfType (option_flatten (option_map (slice_get types) (first_alone f))))
    ∷ (λ f. option_map BooleanIs (option_flatten (option_map (slice_get booleans) (first_alone f))))
    ∷ (λ f. option_map Pattern (first_alone f))
    ∷ (λ f. option_map NotPattern (first_alone f))
    ∷ (λ f. option_map Length (range_alone f))
    ∷ (λ f. option_map Between (bounds_alone f))
    ∷ (λ f. option_map StrictlyBetween (bounds_alone f))
    ∷ (λ f. option_map Multiple (first_alone f))
    ∷ (λ f. option_map NotMultiple (first_alone f))
    ∷ pair_alone EveryMember
    ∷ pair_alone SomeMember
    ∷ (λ f. option_map Members (range_alone f))
    ∷ (λ f. option_map EveryElement (second_alone f))
    ∷ (λ f. option_map SomeElement (second_alone f))
    ∷ (λ f. option_map (Count f.second) (range_and_second f))
    ∷ pair_alone And
    ∷ pair_alone Or
    ∷ (λ f. option_map Not (second_alone f))
    ∷ (λ f. option_map Variable (first_alone f))
    ∷ []

-- the row that fields are read as
abbrev pub row_from : Fields → Option Row
row_from f = slice_index_or readers f.operator (λ _. None) f

abbrev pub row_from_any : Option Fields → Option Row
row_from_any None = None
row_from_any (Some f) = row_from f

-- the row that bytes are read as
abbrev pub row_of : List ℕ → Option Row
row_of bytes = row_from_any (fields_from bytes)
