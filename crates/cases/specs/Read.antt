-- What comes of reading bytes.
use Rattle.std.specs.Prelude.{◌≡◌, ℕ, List, Some, None, Ok, Err, vec_items, Option, Result, Vec}
use Rattle.cases.specs.Bytes.{limited}
use Rattle.cases.specs.declared.fault.LineFault.{LineFault}
use Rattle.cases.specs.declared.fault.LineFault.TheVariants.{Unreadable, OutOfMemory}
use Rattle.std.specs.declared.alloc.Global.{Global}

-- the bytes come where they are meant, and the word is unreadable where none are; memory may always run out
abbrev pub Reads : Option (List ℕ) → Result (Vec ℕ Global) LineFault → Type 0
Reads meant (Ok v) = meant ≡ Some (vec_items v)
Reads meant (Err Unreadable) = meant ≡ None
Reads meant (Err OutOfMemory) = Unit {0}

-- the same of bytes that grow to what is meant, within the limit
abbrev pub Grows : Option (List ℕ) → Result (Unit {0}) LineFault → Vec ℕ Global → Type 0
Grows meant (Ok done) grown = limited meant ≡ Some (vec_items grown)
Grows meant (Err Unreadable) grown = limited meant ≡ None
Grows meant (Err OutOfMemory) grown = Unit {0}
