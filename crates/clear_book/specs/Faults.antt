-- The number, place and layer of each fault of the program, and its line.
use Rattle.std.specs.Prelude.{ℕ, List, [], ◌∷◌, ◌++◌}
use Rattle.faults.specs.Refusals.{refusal_line}
use Rattle.faults.specs.declared.Refusal.{Refusal}
use Rattle.dialects.specs.Faults.{refusal_of as pattern_refusal}
use Rattle.books.specs.Faults.{refusal_of as book_refusal}
use Rattle.clearing.specs.Faults.{refusal_of as clearing_refusal}
use Rattle.clear_book.specs.declared.fault.Fault.{Fault}
use Rattle.clear_book.specs.declared.fault.Fault.TheVariants.{Patterns, Book, Clearing}

abbrev pub refusal_of : Fault → Refusal
refusal_of (Patterns fault) = pattern_refusal fault
refusal_of (Book fault) = book_refusal fault
refusal_of (Clearing fault) = clearing_refusal fault

-- `refused N at P`
abbrev pub refused_line : Fault → List ℕ
refused_line fault = refusal_line (refusal_of fault) ++ 10 ∷ []
