-- Whole numbers as a number kind.
use Rattle.std.specs.Prelude.{ℤ}
use Rattle.kinds.specs.declared.whole.Whole.{Whole}
use Rattle.numbers.specs.Kinds.{Kind, held}
use Rattle.numbers.specs.Reading.{whole}

abbrev pub a_whole : ℤ → Whole
a_whole z = record { value = z }

abbrev pub value : Whole → ℤ
value w = w.value

abbrev pub whole_kind : Kind Whole
whole_kind = held whole a_whole value
