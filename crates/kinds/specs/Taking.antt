-- What taking a token apart answers.
use Rattle.std.specs.Prelude.{◌≡◌, ℕ, Bool, List, Some, None, Option}
use Rattle.kinds.specs.declared.token.Plain.{Plain}
use Rattle.numbers.specs.Reading.{Plain as Parted, plain, with_rest, after_minus, taken_apart}

-- the parts that an answer refers to
abbrev pub seen : Option Plain → Option Parted
seen None = None
seen (Some p) = Some (plain p.minus p.int.now p.places.now)

abbrev pub TakesRest : Bool → List ℕ → List ℕ → Option Plain → Type 0
TakesRest minus int rest r = seen r ≡ with_rest minus int rest

abbrev pub TakesAfter : Bool → List ℕ → Option Plain → Type 0
TakesAfter minus bytes r = seen r ≡ after_minus minus bytes

abbrev pub TakesApart : List ℕ → Option Plain → Type 0
TakesApart bytes r = seen r ≡ taken_apart bytes
