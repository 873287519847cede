-- What each row and each definition is tested for, and by which fault it is refused.
use Rattle.std.specs.Prelude.{◌≡◌, ℕ, ◌+◌, ◌<◌, Bool, true, cond, ◌&&◌, List, [], ◌∷◌, length, Some, None, Ok, Err, Option, Result, nat_le, nat_lt}
use Rattle.std.specs.Result.{result_and}
use Rattle.rules.specs.Book.{Limits, Reach, nothing, inner, both, negated, body, reach}
use Rattle.rules.specs.Types.{is_short}
use Rattle.rules.specs.declared.row.Range.{Range}
use Rattle.rules.specs.declared.row.Row.{Row}
use Rattle.rules.specs.declared.row.Row.TheVariants.{True, False, OfType, BooleanIs, Pattern, NotPattern, Length, Between, StrictlyBetween, Multiple, NotMultiple, EveryMember, SomeMember, Members, EveryElement, SomeElement, Count, And, Or, Not, Variable}
use Rattle.books.specs.declared.fault.BookFault.{BookFault}
use Rattle.books.specs.declared.fault.BookFault.TheVariants.{NotAllowed, NotAboveZero, Missing, TooMany}

-- one more than the upper end is still an end
abbrev pub is_ended : Range → Bool
is_ended range = nat_le range.lower 65535 && is_short range.upper

-- a bound that is present is one of the numbers
abbrev pub is_there : ℕ → Option ℕ → Bool
is_there numbers None = true
is_there numbers (Some i) = nat_lt i numbers

-- the fields of row number `at`: its patterns and numbers are there, its ends in range, its row operands below it
abbrev pub row_fits : (patterns numbers at : ℕ) → Row → Bool
row_fits patterns numbers at True = true
row_fits patterns numbers at False = true
row_fits patterns numbers at (OfType t) = true
row_fits patterns numbers at (BooleanIs b) = true
row_fits patterns numbers at (Pattern p) = nat_lt p patterns
row_fits patterns numbers at (NotPattern p) = nat_lt p patterns
row_fits patterns numbers at (Length range) = is_ended range
row_fits patterns numbers at (Between bounds) = is_there numbers bounds.lower && is_there numbers bounds.upper
row_fits patterns numbers at (StrictlyBetween bounds) = is_there numbers bounds.lower && is_there numbers bounds.upper
row_fits patterns numbers at (Multiple q) = nat_lt q numbers
row_fits patterns numbers at (NotMultiple q) = nat_lt q numbers
row_fits patterns numbers at (EveryMember p o) = nat_lt p patterns && nat_lt o at
row_fits patterns numbers at (SomeMember p o) = nat_lt p patterns && nat_lt o at
row_fits patterns numbers at (Members range) = is_ended range
row_fits patterns numbers at (EveryElement o) = nat_lt o at
row_fits patterns numbers at (SomeElement o) = nat_lt o at
row_fits patterns numbers at (Count o range) = nat_lt o at && is_ended range
row_fits patterns numbers at (And a b) = nat_lt a at && nat_lt b at
row_fits patterns numbers at (Or a b) = nat_lt a at && nat_lt b at
row_fits patterns numbers at (Not o) = nat_lt o at
row_fits patterns numbers at (Variable v) = true

-- the number that a row takes multiples of is above zero
abbrev pub row_above : Limits → Row → Bool
row_above limits True = true
row_above limits False = true
row_above limits (OfType t) = true
row_above limits (BooleanIs b) = true
row_above limits (Pattern p) = true
row_above limits (NotPattern p) = true
row_above limits (Length range) = true
row_above limits (Between bounds) = true
row_above limits (StrictlyBetween bounds) = true
row_above limits (Multiple q) = limits.above_zero q
row_above limits (NotMultiple q) = limits.above_zero q
row_above limits (EveryMember p o) = true
row_above limits (SomeMember p o) = true
row_above limits (Members range) = true
row_above limits (EveryElement o) = true
row_above limits (SomeElement o) = true
row_above limits (Count o range) = true
row_above limits (And a b) = true
row_above limits (Or a b) = true
row_above limits (Not o) = true
row_above limits (Variable v) = true

-- what a test comes to: it passes, or it names the fault
abbrev pub Tested : Type 0
Tested = Result (Unit {0}) BookFault

abbrev pub passes : Tested
passes = Ok tt

-- a condition, or else a fault
abbrev pub ask : Bool → BookFault → Tested
ask b fault = cond b passes (Err fault)

-- row number `at`, which stands at a place: first its fields, then the number that it takes multiples of
abbrev pub row_test : Limits → (at place : ℕ) → Row → Tested
row_test limits at place row =
    result_and (ask (row_fits limits.patterns limits.numbers at row) (NotAllowed place)) (ask (row_above limits row) (NotAboveZero place))

-- a row in memory, where there are at most 2,048
abbrev pub counted_row : Limits → ℕ → Row → Tested
counted_row limits at row = result_and (ask (nat_lt at 2048) (TooMany at)) (row_test limits at at row)

-- definition number k, of at most 128: its body row is there
abbrev pub definition_test : (rows k : ℕ) → ℕ → Tested
definition_test rows k row = result_and (ask (nat_lt k 128) (TooMany k)) (ask (nat_lt row rows) (Missing k))

-- the definition that a row calls is there
abbrev pub call_test : (definitions place : ℕ) → Reach → Tested
call_test definitions place nothing = passes
call_test definitions place (inner o) = passes
call_test definitions place (both a b) = passes
call_test definitions place (negated o) = passes
call_test definitions place (body v) = ask (nat_lt v definitions) (Missing place)

abbrev pub variable_test : (definitions place : ℕ) → Row → Tested
variable_test definitions place row = call_test definitions place (reach row)

-- the first of numbered items that is refused, if any
abbrev pub first_refused : {A : Type 0} → (ℕ → A → Tested) → ℕ → List A → Tested
first_refused test i [] = passes
first_refused test i (x ∷ xs) = result_and (test i x) (first_refused test (i + 1) xs)

-- what calls give at numbered items is what this test says
abbrev pub Agrees : {A : Type 0} → (ℕ → A → Tested → Type 0) → List A → (ℕ → A → Tested) → Type 0
Agrees {A} gives xs test = (i : ℕ) (x : A) (t : Tested) → i < length xs → gives i x t → t ≡ test i x

-- calls at one item after another, up to the first that is refused
abbrev pub StopsAtFirst : {A : Type 0} → (ℕ → A → Tested → Type 0) → List A → Tested → Type 0
StopsAtFirst {A} gives xs r = (test : ℕ → A → Tested) → Agrees gives xs test → r ≡ first_refused test 0 xs
