-- What a row adds, as the code has it.
use Rattle.std.specs.Prelude.{◌≡◌, ℕ, ◌<◌, ◌≤◌, List, [], None, Option}
use Rattle.std.specs.List.{AllByRecursion}
use Rattle.rules.specs.declared.place.Place.{Place}
use Rattle.rules.specs.declared.row.Row.{Row}
use Rattle.rules.specs.declared.row.Row.TheVariants.{True, False, OfType, BooleanIs, Pattern, NotPattern, Length, Between, StrictlyBetween, Multiple, NotMultiple, EveryMember, SomeMember, Members, EveryElement, SomeElement, Count, And, Or, Not, Variable}
use Rattle.rules.specs.Book.{IfThere, variables}
use Rattle.rules.specs.Clear as clear
use Rattle.clearing.specs.declared.added.Added.{Added}
use Rattle.clearing.specs.declared.added.NewRows.{NewRows}
use Rattle.clearing.specs.declared.added.NewRows.TheVariants.{None as NoRows, One, Two, Three, Four, Five}

-- one more than an upper end is still an end
abbrev pub EndsBelow : Option ℕ → Type 0
EndsBelow upper = IfThere upper (λ u. u ≤ 65534)

-- the upper end of a row's range
abbrev pub upper_end : Row → Option ℕ
upper_end True = None
upper_end False = None
upper_end (OfType t) = None
upper_end (BooleanIs b) = None
upper_end (Pattern p) = None
upper_end (NotPattern p) = None
upper_end (Length range) = range.upper
upper_end (Between bounds) = None
upper_end (StrictlyBetween bounds) = None
upper_end (Multiple q) = None
upper_end (NotMultiple q) = None
upper_end (EveryMember p o) = None
upper_end (SomeMember p o) = None
upper_end (Members range) = range.upper
upper_end (EveryElement o) = None
upper_end (SomeElement o) = None
upper_end (Count o range) = range.upper
upper_end (And a b) = None
upper_end (Or a b) = None
upper_end (Not o) = None
upper_end (Variable v) = None

-- a row whose complement can be written down, where there are d definitions
abbrev pub Plain : ℕ → Row → Type 0
Plain d row = EndsBelow (upper_end row) × AllByRecursion (λ v. v < d) (variables row)

abbrev pub nowhere : Place
nowhere = clear.place 0 0

-- the rows that are added, as a list
abbrev pub rows_of : NewRows → List Row
rows_of NoRows = []
rows_of (One rows) = rows
rows_of (Two rows) = rows
rows_of (Three rows) = rows
rows_of (Four rows) = rows
rows_of (Five rows) = rows

abbrev pub listed : Added → clear.Added
listed new = record { rows = rows_of new.rows; stands = new.stands }

-- whatever a closure answers is what this function gives
abbrev pub Gives : {A B : Type 0} → (A → B → Type 0) → (A → B) → Type 0
Gives {A = A} {B = B} answers f = (x : A) (y : B) → answers x y → y ≡ f x
