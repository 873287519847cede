-- The two comparisons of numbers, one around the other.
use Rattle.std.proofs.Common.{rules}
use Rattle.rules.specs.declared.row.Row.TheVariants.{Between, StrictlyBetween}
use Rattle.clearing.proofs.adding.adds.Goals as goal

pub returns-in-Between : goal.returns-in-Between
returns-in-Between c = rw c.in-Between.is (c.around_bounds.ensures Between StrictlyBetween (λ x r p. search rules) (λ x r p. search rules))

pub returns-in-StrictlyBetween : goal.returns-in-StrictlyBetween
returns-in-StrictlyBetween c =
    rw c.in-StrictlyBetween.is (c.around_bounds-in-StrictlyBetween.ensures StrictlyBetween Between (λ x r p. search rules) (λ x r p. search rules))
