-- The numbers of the causes, and what reading a token comes to.
use Rattle.std.specs.Prelude.{◌≡◌, ℕ, cond, List, length, Some, None, Ok, Err, Option, Result, nat_lt}
use Rattle.kinds.specs.declared.number.Cause.{Cause}
use Rattle.kinds.specs.declared.number.NumberFault.{NumberFault}
use Rattle.kinds.specs.declared.number.Cause.TheVariants.{TooLong, Unsuited}
use Rattle.numbers.specs.Grammar.{Token}
use Rattle.numbers.specs.Kinds.{Kind}

abbrev pub cause_number : Cause → ℕ
cause_number TooLong = 1
cause_number Unsuited = 2

-- what has no value is unsuited
abbrev pub suited : {K : Type 0} → Option K → Result K Cause
suited None = Err Unsuited
suited (Some x) = Ok x

-- a token longer than the longest is too long, any other is read by the kind
abbrev pub outcome : {K : Type 0} → Kind K → List ℕ → Result K Cause
outcome kind token = cond (nat_lt kind.longest (length token)) (Err TooLong) (suited (kind.read token))

-- the same, with the place of the token in the fault
abbrev pub outcome_at : {K : Type 0} → (place : ℕ) → Result K Cause → Result K NumberFault
outcome_at place (Ok x) = Ok x
outcome_at place (Err cause) = Err (record { place = place; cause = cause })

-- a value that was read, written, is a JSON number token that reads as itself
abbrev pub ReadsBack : {K : Type 0} → Kind K → Result K Cause → Type 0
ReadsBack kind (Ok x) = Token (kind.written x) × (outcome kind (kind.written x) ≡ Ok x)
ReadsBack kind (Err cause) = Unit {0}
