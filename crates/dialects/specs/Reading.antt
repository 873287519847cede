-- What the steps of the reading call promise each other.
use Rattle.std.specs.Prelude.{◌≡◌, ℕ, ◌+◌, ◌≤◌, Bool, false, List, ◌++◌, length, take, drop, Some, None, Ok, Err, Result}
use Rattle.fields.specs.Fields.{stated_length}
use Rattle.fields.specs.declared.field.Field.{Field}
use Rattle.fields.specs.declared.part.Part.{Part}
use Rattle.dialects.specs.declared.fault.PatternFault.{PatternFault}
use Rattle.dialects.specs.Files.{file, Short, places, room, refuses, Outcome}

-- the field that is taken, or what refuses it, whether there is room for one more or not
abbrev pub Takes : (tag place : ℕ) → List ℕ → Result Field PatternFault → Type 0
Takes tag place bytes (Ok field) =
    (refuses tag false place bytes ≡ None)
    × (field.body.now ≡ take (stated_length bytes) (drop 3 bytes)) × (field.rest.now ≡ drop (3 + stated_length bytes) bytes)
Takes tag place bytes (Err e) = (full : Bool) → refuses tag full place bytes ≡ Some e

-- what has been filled in when reading ends
abbrev pub Fills : (tag : ℕ) (bytes : List ℕ) (before after : List Part) → Result ℕ PatternFault → Type 0
Fills tag bytes before after (Ok n) =
    (length bytes ≤ 65535)
    × (ps : List (List ℕ)) × (bytes ≡ file tag ps) × Short ps × (length ps ≤ room before) × (n ≡ length ps) × (after ≡ places 0 ps ++ drop n before)
Fills tag bytes before after (Err e) = Outcome tag (room before) bytes (Err e)
