-- The fields of a row, how ten bytes hold them, and how they are read.
use Rattle.std.specs.Prelude.{◌≡◌, ℕ, ◌+◌, ◌*◌, ◌/◌, ◌%◌, cond, ◌&&◌, List, [], ◌∷◌, length, Some, None, Option, ◌==◌, ◌≢◌, slice_index}
use Rattle.rules.specs.declared.row.Bounds.{Bounds}
use Rattle.rules.specs.declared.row.Range.{Range}
use Rattle.rows.specs.declared.fields.Ends.{Ends}
use Rattle.rows.specs.declared.fields.Fields.{Fields}

abbrev pub ends : Option ℕ → Option ℕ → Ends
ends lower upper = record { lower = lower; upper = upper }

-- no end is present
abbrev pub no_ends : Ends
no_ends = ends None None

abbrev pub range_ends : Range → Ends
range_ends range = ends (Some range.lower) range.upper

abbrev pub bounds_ends : Bounds → Ends
bounds_ends bounds = ends bounds.lower bounds.upper

abbrev pub fields : ℕ → ℕ → ℕ → Ends → Fields
fields operator first second e = record { operator = operator; first = first; second = second; ends = e }

-- an end's bit: whether it is present
abbrev pub bit : Option ℕ → ℕ
bit None = 0
bit (Some x) = 1

-- an end's bytes hold it, and 0 where it is absent
abbrev pub held : Option ℕ → ℕ
held None = 0
held (Some x) = x

-- the byte that tells which ends are present: bit 0 the lower, bit 1 the upper
abbrev pub present : Ends → ℕ
present e = bit e.lower + 2 * bit e.upper

-- The ten bytes: the operator, the ends' presence, then first, second, lower and upper, each with its high byte first.
abbrev pub bytes_of : Fields → List ℕ
bytes_of f =
    f.operator ∷ present f.ends
    ∷ f.first / 256 ∷ f.first % 256 ∷ f.second / 256 ∷ f.second % 256
    ∷ held f.ends.lower / 256 ∷ held f.ends.lower % 256 ∷ held f.ends.upper / 256 ∷ held f.ends.upper % 256 ∷ []

-- the ends, read: what is present is so by its bit, and what is absent holds 0
abbrev pub ends_from : ℕ → ℕ → ℕ → Option Ends
ends_from bits lower upper =
    cond (bits == 0 && (lower == 0 && upper == 0)) (Some (ends None None))
    (cond (bits == 1 && upper == 0) (Some (ends (Some lower) None))
    (cond (bits == 2 && lower == 0) (Some (ends None (Some upper)))
    (cond (bits == 3) (Some (ends (Some lower) (Some upper))) None)))

abbrev pub with_ends : ℕ → ℕ → ℕ → Option Ends → Option Fields
with_ends operator first second None = None
with_ends operator first second (Some e) = Some (fields operator first second e)

-- the two bytes at a place, the high one first
abbrev pub word_at : List ℕ → ℕ → ℕ
word_at bytes i = slice_index bytes i * 256 + slice_index bytes (i + 1)

-- the fields, read
abbrev pub fields_from : List ℕ → Option Fields
fields_from bytes =
    cond (length bytes == 10)
    (with_ends (slice_index bytes 0) (word_at bytes 2) (word_at bytes 4) (ends_from (slice_index bytes 1) (word_at bytes 6) (word_at bytes 8)))
    None

-- the fields whose bytes these are, if there are any
abbrev pub ReadsFields : List ℕ → Option Fields → Type 0
ReadsFields bytes (Some f) = bytes ≡ bytes_of f
ReadsFields bytes None = (f : Fields) → bytes ≢ bytes_of f
