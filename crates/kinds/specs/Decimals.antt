-- Decimals as a number kind.
use Rattle.kinds.specs.declared.decimal.Decimal.{Decimal}
use Rattle.numbers.specs.Kinds.{Kind, held}
use Rattle.numbers.specs.Reading.{fixed}
use Rattle.numbers.specs.Values.{Fixed}

abbrev pub a_decimal : Fixed → Decimal
a_decimal x = record { millionths = x.millionths; places = x.places }

abbrev pub as_fixed : Decimal → Fixed
as_fixed d = record { millionths = d.millionths; places = d.places }

abbrev pub decimal_kind : Kind Decimal
decimal_kind = held fixed a_decimal as_fixed
