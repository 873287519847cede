-- The number, place and layer of each fault of a pattern file.
use Rattle.std.specs.Prelude.{ℕ}
use Rattle.faults.specs.declared.Layer.TheVariants.{Dialect}
use Rattle.faults.specs.declared.Refusal.{Refusal}
use Rattle.dialects.specs.declared.fault.PatternFault.{PatternFault}
use Rattle.dialects.specs.declared.fault.PatternFault.TheVariants.{FileTooLong, UnknownTag, WrongLength, TooMany}

abbrev pub refused : ℕ → ℕ → Refusal
refused n at = record { number = n; place = at; layer = Dialect }

abbrev pub refusal_of : PatternFault → Refusal
refusal_of FileTooLong = refused 31 0
refusal_of (UnknownTag place) = refused 21 place
refusal_of (WrongLength place) = refused 22 place
refusal_of (TooMany place) = refused 34 place
