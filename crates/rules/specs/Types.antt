-- The numbers of types, and the ends of ranges.
use Rattle.std.specs.Prelude.{◌≡◌, ℕ, Bool, true, List, [], ◌∷◌, Some, None, Ok, Err, Option, Result, nat_lt}
use Rattle.std.specs.List.{slice_get}
use Rattle.rules.specs.declared.row.ValueType.{ValueType}
use Rattle.rules.specs.declared.row.ValueType.TheVariants.{Null, Boolean, Number, Text, List as Listed, Object}
use Rattle.rules.specs.declared.row.UnknownType.{UnknownType}

-- the types in the order of their numbers
abbrev pub types : List ValueType
types = Null ∷ Boolean ∷ Number ∷ Text ∷ Listed ∷ Object ∷ []

-- a number is that of a type, or of none
abbrev pub NamesType : ℕ → Result ValueType UnknownType → Type 0
NamesType n (Ok t) = slice_get types n ≡ Some t
NamesType n (Err unknown) = (slice_get types n ≡ None) × (unknown.0 ≡ n)

-- an upper end is at most 65,534
abbrev pub is_short : Option ℕ → Bool
is_short None = true
is_short (Some u) = nat_lt u 65535
