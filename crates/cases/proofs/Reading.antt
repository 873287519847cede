-- A word that can't be read.
use Rattle.std.proofs.Common.{◌≡◌, ℕ, List, None, Err, Option}
use Rattle.std.specs.Option.{ok_or}
use Rattle.cases.specs.Read.{Reads}
use Rattle.cases.specs.declared.fault.LineFault.{LineFault}
use Rattle.cases.specs.declared.fault.LineFault.TheVariants.{Unreadable}

-- where nothing came, nothing is meant
pub refused :
    {T : Type 0} (meant : Option (List ℕ)) (came : Option T) (e : LineFault) → Err e ≡ ok_or came Unreadable → came ≡ None → meant ≡ None
    → Reads meant (Err e)
refused meant came e value none is = let same : e ≡ Unreadable = (let w = rw none at value in cc) in rw same is
