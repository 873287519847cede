-- The laws of both kinds, from those of the values that they hold.
use Rattle.std.specs.Prelude.{refl}
use Rattle.numbers.specs.Laws.{Lawful}
use Rattle.numbers.specs.Reading.{whole, fixed}
use Rattle.numbers.proofs.Held.{held_lawful}
use Rattle.numbers.proofs.Wholes.{whole_lawful}
use Rattle.numbers.proofs.Decimals.{decimal_lawful}
use Rattle.kinds.specs.Wholes.{a_whole, value, whole_kind}
use Rattle.kinds.specs.Decimals.{a_decimal, as_fixed, decimal_kind}

pub whole_laws : Lawful whole_kind
whole_laws = held_lawful whole a_whole value (λ z. refl) whole_lawful

pub decimal_laws : Lawful decimal_kind
decimal_laws = held_lawful fixed a_decimal as_fixed (λ x. refl) decimal_lawful
