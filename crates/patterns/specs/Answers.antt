-- What the program prints, by its files and its input.
use Rattle.std.specs.Prelude.{◌≡◌, ℕ, ◌+◌, ◌-◌, Bool, cond, List, [], ◌∷◌, ◌++◌, length, Vec, Ok, Err, Result, IfOk, nat_lt, slice_index_or}
use Rattle.dialects.specs.Dialects.{answer, part_count, pair_count, pair_holds, name_holds, masked}
use Rattle.fields.specs.declared.part.Part.{Part}
use Rattle.dialects.specs.Faults.{refusal_of}
use Rattle.dialects.specs.Files.{file, Outcome}
use Rattle.dialects.specs.Masks.{mask_holds}
use Rattle.dialects.specs.declared.fault.PatternFault.{PatternFault}
use Rattle.faults.specs.Refusals.{refusal_line}
use Rattle.std.specs.Global.{Global}
use Rattle.std.specs.declared.alloc.AllocError.{AllocError}
use Rattle.std.specs.Str.{bytes_eq}
use Rattle.patterns.specs.declared.stop.Stop.{Stop}
use Rattle.patterns.specs.declared.stop.Stop.TheVariants.{Refused, OutOfMemory}
use Rattle.patterns.specs.Report.{report}

-- whether pattern k matches a text: names come first, each its own bytes, then masks
abbrev pub matches : (names masks : List (List ℕ)) → ℕ → List ℕ → Bool
matches names masks k text = cond (nat_lt k (length names)) (bytes_eq (slice_index_or names k []) text) (mask_holds (slice_index_or masks (k - length names) []) text)

-- the same by the parts of two files
abbrev pub side_by_side : List ℕ → List Part → List ℕ → List Part → List ℕ → List ℕ
side_by_side names name_parts masks mask_parts input =
    let count = pair_count (part_count name_parts) (part_count mask_parts) in
    report count (answer count (pair_holds (part_count name_parts) (name_holds names name_parts) (masked masks mask_parts))) input

abbrev pub refused_line : PatternFault → List ℕ
refused_line fault = refusal_line (refusal_of fault) ++ 10 ∷ []

-- The first refusal alone, or else a line for each text of the input. `most` and `most'` are how many
-- patterns the memory takes of each file.
pub record Prints (most most' : ℕ) (names masks input out : List ℕ) : Type 0 where
  pub names_refused : (fault : PatternFault) → Outcome 4 most names (Err fault) → out ≡ refused_line fault
  pub masks_refused : (n : ℕ) (fault : PatternFault) → Outcome 4 most names (Ok n) → Outcome 5 most' masks (Err fault) → out ≡ refused_line fault
  pub answered : (n m : ℕ) (ps qs : List (List ℕ)) → Outcome 4 most names (Ok n) → Outcome 5 most' masks (Ok m) →
      names ≡ file 4 ps → masks ≡ file 5 qs → out ≡ report (length ps + length qs) (matches ps qs) input

-- the answers are printed, or the line of the refusal in their place
abbrev pub Tells : (List ℕ → Type 0) → Result (Vec ℕ Global) Stop → Type 0
Tells IsPrinted (Ok answers) = IsPrinted answers.items
Tells IsPrinted (Err (Refused fault)) = IsPrinted (refused_line fault)
Tells IsPrinted (Err (OutOfMemory error)) = Unit {0}

-- a refusal has a line; without memory there is none
abbrev pub ToldAs : Stop → Result (Vec ℕ Global) AllocError → Type 0
ToldAs (Refused fault) told = IfOk told (λ v. v.items ≡ refused_line fault)
ToldAs (OutOfMemory error) told = told ≡ Err error
