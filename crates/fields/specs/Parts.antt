-- What a part of a row of bytes is.
use Rattle.std.specs.Prelude.{ℕ, List, take, drop}
use Rattle.fields.specs.declared.part.Part.{Part}

abbrev pub part : ℕ → ℕ → Part
part from count = record { start = from; length = count }

-- the bytes from the start on, as many as the length says and there are
abbrev pub part_bytes : List ℕ → Part → List ℕ
part_bytes bytes p = take p.length (drop p.start bytes)
