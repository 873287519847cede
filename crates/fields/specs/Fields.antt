-- What a field is: one byte of tag, two bytes of length with the high byte first, then a body of that many bytes.
use Rattle.std.specs.Prelude.{◌≡◌, ℕ, ◌+◌, ◌*◌, ◌/◌, ◌%◌, ◌<◌, ◌≤◌, List, ◌∷◌, length, take, drop, Ok, Err, Result, slice_index}
use Rattle.fields.specs.declared.field.Field.{Field}
use Rattle.fields.specs.declared.field.CutShort.{CutShort}
use Rattle.fields.specs.declared.field.CutShort.TheVariants.{Head, Body}

-- the bytes of a field, written out
abbrev pub field_bytes : ℕ → List ℕ → List ℕ
field_bytes tag body = tag ∷ length body / 256 ∷ length body % 256 ∷ body

-- the tag that bytes begin with
abbrev pub tag_of : List ℕ → ℕ
tag_of bytes = slice_index bytes 0

-- the length of the body, as the two bytes after the tag state it
abbrev pub stated_length : List ℕ → ℕ
stated_length bytes = slice_index bytes 1 * 256 + slice_index bytes 2

-- what taking the first field off comes to
abbrev pub Splits : List ℕ → Result Field CutShort → Type 0
Splits bytes (Ok f) =
    (3 + stated_length bytes ≤ length bytes) × (f.tag ≡ tag_of bytes)
    × (f.body.now ≡ take (stated_length bytes) (drop 3 bytes)) × (f.rest.now ≡ drop (3 + stated_length bytes) bytes)
Splits bytes (Err Head) = length bytes < 3
Splits bytes (Err (Body tag)) = (3 ≤ length bytes) × (length bytes < 3 + stated_length bytes) × (tag ≡ tag_of bytes)
