-- What a file of patterns is, and what reading it comes to.
use Rattle.std.specs.Prelude.{◌≡◌, ℕ, ◌+◌, ◌<◌, ◌≤◌, min, Bool, cond, not, ◌||◌, List, [], ◌∷◌, ◌++◌, map, length, take, drop, replicate, Some, None, Ok, Err, Option, Result, ◌==◌, nat_le, nat_lt}
use Rattle.fields.specs.Fields.{field_bytes, tag_of, stated_length}
use Rattle.fields.specs.Parts.{part, part_bytes}
use Rattle.fields.specs.declared.part.Part.{Part}
use Rattle.dialects.specs.declared.fault.PatternFault.{PatternFault}
use Rattle.dialects.specs.declared.fault.PatternFault.TheVariants.{FileTooLong, UnknownTag, WrongLength, TooMany}

-- the bytes of a file with these patterns: a field for each, all of one tag
abbrev pub file : ℕ → List (List ℕ) → List ℕ
file tag [] = []
file tag (p ∷ ps) = field_bytes tag p ++ file tag ps

-- each pattern has at most 255 bytes
abbrev pub Short : List (List ℕ) → Type 0
Short [] = Unit {0}
Short (p ∷ ps) = (length p ≤ 255) × Short ps

-- where the patterns of a file stand, if the first of their fields is at this offset
abbrev pub places : ℕ → List (List ℕ) → List Part
places at [] = []
places at (p ∷ ps) = part (at + 3) (length p) ∷ places (at + 3 + length p) ps

-- how many patterns a memory takes
abbrev pub room : List Part → ℕ
room memory = min (length memory) 65535

-- What refuses the field that bytes begin with, if anything does. In this order: too few bytes for a head,
-- another tag, a body that is cut short or longer than a pattern, no room for one more.
abbrev pub refuses : (tag : ℕ) (full : Bool) (place : ℕ) → List ℕ → Option PatternFault
refuses tag full place bytes =
    cond (nat_lt (length bytes) 3) (Some (WrongLength place))
    (cond (not (tag_of bytes == tag)) (Some (UnknownTag place))
    (cond (nat_lt (length bytes) (3 + stated_length bytes) || nat_lt 255 (stated_length bytes)) (Some (WrongLength place))
    (cond full (Some (TooMany place)) None)))

-- reading ends at these bytes, which stand at this place after this many patterns
abbrev pub Stops : (tag room count place : ℕ) → List ℕ → Result ℕ PatternFault → Type 0
Stops tag most count place rest (Ok n) = (rest ≡ []) × (n ≡ count)
Stops tag most count place rest (Err e) = (0 < length rest) × (refuses tag (nat_le most count) place rest ≡ Some e)

-- a file is read from the left, pattern by pattern, up to its end or the first field that is refused
pub record ReadsTo (tag most : ℕ) (bytes : List ℕ) (o : Result ℕ PatternFault) : Type 0 where
  pub patterns : List (List ℕ)
  pub rest : List ℕ
  pub cut : bytes ≡ file tag patterns ++ rest
  pub short : Short patterns
  pub fit : length patterns ≤ most
  pub stop : Stops tag most (length patterns) (length (file tag patterns)) rest o

-- what reading a file comes to
abbrev pub Outcome : (tag most : ℕ) → List ℕ → Result ℕ PatternFault → Type 0
Outcome tag most bytes o = (65535 < length bytes → o ≡ Err FileTooLong) × (length bytes ≤ 65535 → ReadsTo tag most bytes o)

-- Nothing else is an outcome.
abbrev pub Only : (tag most : ℕ) → List ℕ → Result ℕ PatternFault → Type 0
Only tag most bytes o = (other : Result ℕ PatternFault) → Outcome tag most bytes other → other ≡ o

-- The memory after reading: the parts of the patterns, each its pattern's bytes, in front of what was there;
-- after a refusal nothing but parts of 0.
abbrev pub After : (tag : ℕ) (bytes : List ℕ) (before after : List Part) → Result ℕ PatternFault → Type 0
After tag bytes before after (Ok n) =
    (n ≤ length before)
    × ((ps : List (List ℕ)) → bytes ≡ file tag ps → (after ≡ places 0 ps ++ drop n before) × (map (part_bytes bytes) (take n after) ≡ ps))
After tag bytes before after (Err e) = after ≡ replicate (length before) (part 0 0)
