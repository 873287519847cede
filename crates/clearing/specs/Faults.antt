-- The number, place and layer of each fault of a clearing.
use Rattle.std.specs.Prelude.{ℕ}
use Rattle.faults.specs.declared.Layer.TheVariants.{Book}
use Rattle.faults.specs.declared.Refusal.{Refusal}
use Rattle.clearing.specs.declared.fault.ClearFault.{ClearFault}
use Rattle.clearing.specs.declared.fault.ClearFault.TheVariants.{TooManyRows, TooManyDefinitions}

abbrev pub refused : ℕ → Refusal
refused n = record { number = n; place = 0; layer = Book }

abbrev pub refusal_of : ClearFault → Refusal
refusal_of TooManyRows = refused 35
refusal_of TooManyDefinitions = refused 36
