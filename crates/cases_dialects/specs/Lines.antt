-- The sorts of case, and what a line of each comes to.
use Rattle.std.specs.Prelude.{◌≡◌, ℕ, ◌+◌, ◌≤◌, min, List, [], ◌∷◌, map, length, take, drop, Some, Ok, Err, codes, Result}
use Rattle.fields.specs.Parts.{part_bytes}
use Rattle.fields.specs.declared.part.Part.{Part}
use Rattle.cases.specs.Outcomes.{number_first}
use Rattle.cases.specs.declared.outcome.Refused.{Refused}
use Rattle.cases_runs.specs.Words.{bytes_first}
use Rattle.dialects.specs.Dialects.{answer, part_count, name_holds, masked, pair_count, pair_holds}
use Rattle.dialects.specs.Files.{Outcome, file, room}
use Rattle.dialects.specs.declared.fault.PatternFault.{PatternFault}
use Rattle.cases_dialects.specs.Bits.{bits}
use Rattle.cases_dialects.specs.Expected.{Expects, came_of, outcome_text}
use Rattle.cases_dialects.specs.declared.sorts.FileSort.{FileSort}
use Rattle.cases_dialects.specs.declared.sorts.FileSort.TheVariants.{Names, Masks}
use Rattle.cases_dialects.specs.declared.sorts.PatternSort.{PatternSort}
use Rattle.cases_dialects.specs.declared.sorts.PatternSort.TheVariants.{File, Match}

abbrev pub sorts : List PatternSort
sorts = File Names ∷ File Masks ∷ Match ∷ []

abbrev pub sort_word : PatternSort → List ℕ
sort_word (File Names) = codes "names"
sort_word (File Masks) = codes "masks"
sort_word Match = codes "match"

-- the tag of a file's fields
abbrev pub tag : FileSort → ℕ
tag Names = 4
tag Masks = 5

-- the texts of two outcomes, which differ wherever the outcomes do
pub record Compares (stated read : Result ℕ Refused) (expected came : List ℕ) : Type 0 where
  pub says : expected ≡ outcome_text stated
  pub is : came ≡ outcome_text read
  pub apart : expected ≡ came → stated ≡ read

-- `MEMORY BYTES OUTCOME`: a file is read into memory for so many patterns, of which no file fills more than 21,845
pub record ReadsFile (sort : FileSort) (words : List (List ℕ)) (expected came : List ℕ) : Type 0 where
  pub memory : ℕ
  pub bytes : List ℕ
  pub stated : Result ℕ Refused
  pub read : Result ℕ PatternFault
  pub sized : number_first words ≡ Some memory
  pub filed : bytes_first (drop 1 words) ≡ Some bytes
  pub states : Expects (drop 2 words) stated
  pub reads : Outcome (tag sort) (min memory 21845) bytes read
  pub compared : Compares stated (came_of read) expected came

-- the parts of a file's patterns: as many as reading counts, and each with its pattern's bytes
pub record PartsOf (tag most : ℕ) (bytes : List ℕ) (parts : List Part) : Type 0 where
  pub reads : Outcome tag most bytes (Ok (length parts))
  pub each : (ps : List (List ℕ)) → bytes ≡ file tag ps → map (part_bytes bytes) parts ≡ ps

-- reading names and then masks refuses one of the files
pub data RefusesOne (name_room mask_room : ℕ) (names masks : List ℕ) (e : PatternFault) : Type 0 where
  no_names : Outcome 4 name_room names (Err e) → RefusesOne name_room mask_room names masks e
  no_masks : (n : ℕ) → Outcome 4 name_room names (Ok n) → Outcome 5 mask_room masks (Err e) → RefusesOne name_room mask_room names masks e

-- what reading both comes to, and what it leaves in their memory
abbrev pub ReadsBoth : (names masks : List ℕ) (name_parts new_names mask_parts new_masks : List Part) → Result (ℕ × ℕ) PatternFault → Type 0
ReadsBoth names masks name_parts new_names mask_parts new_masks (Ok counts) =
    (counts.0 ≤ length new_names) × (counts.1 ≤ length new_masks)
    × PartsOf 4 (room name_parts) names (take counts.0 new_names) × PartsOf 5 (room mask_parts) masks (take counts.1 new_masks)
ReadsBoth names masks name_parts new_names mask_parts new_masks (Err e) = RefusesOne (room name_parts) (room mask_parts) names masks e

-- the bits of names before masks about a string
abbrev pub answered : List ℕ → List Part → List ℕ → List Part → List ℕ → List ℕ
answered names name_parts masks mask_parts text =
    let before : ℕ = part_count name_parts in
    let count : ℕ = pair_count before (part_count mask_parts) in
    bits (λ k. answer count (pair_holds before (name_holds names name_parts) (masked masks mask_parts)) k text) (count + 2)

-- what is told of names before masks about a string: a bit for each number, or the refusal of a file
pub data Told (name_room mask_room : ℕ) (names masks text came : List ℕ) : Type 0 where
  refuses : (e : PatternFault) → RefusesOne name_room mask_room names masks e → came ≡ outcome_text (came_of (Err e)) → Told name_room mask_room names masks text came
  answers : (name_parts mask_parts : List Part) → PartsOf 4 name_room names name_parts → PartsOf 5 mask_room masks mask_parts
      → came ≡ answered names name_parts masks mask_parts text → Told name_room mask_room names masks text came

-- `NAMES MASKS STRING BITS`
pub record Asks (words : List (List ℕ)) (expected came : List ℕ) : Type 0 where
  pub names : List ℕ
  pub masks : List ℕ
  pub text : List ℕ
  pub named : bytes_first words ≡ Some names
  pub masked : bytes_first (drop 1 words) ≡ Some masks
  pub asked : bytes_first (drop 2 words) ≡ Some text
  pub says : drop 3 words ≡ expected ∷ []
  pub told : Told 21845 21845 names masks text came

abbrev pub Comes : PatternSort → List (List ℕ) → List ℕ → List ℕ → Type 0
Comes (File sort) = ReadsFile sort
Comes Match = Asks
