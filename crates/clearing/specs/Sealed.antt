-- What clearing a sealed book answers, and what it makes.
use Rattle.std.specs.Prelude.{◌≡◌, ℕ, Ok, Err, Result}
use Rattle.rules.specs.Book.{Book, Limits}
use Rattle.clearing.specs.declared.fault.ClearFault.{ClearFault}
use Rattle.clearing.specs.declared.fault.ClearFault.TheVariants.{TooManyRows, TooManyDefinitions}
use Rattle.clearing.specs.Outcomes.{RowsFit, DefinitionsFit, Writes, WritesCleared}

-- The cleared book is written and its rows are counted; or it does not fit, and nothing is changed. A sealed book can be cleared always.
abbrev pub ViewOutcome : Book → Book → Book → Result ℕ ClearFault → Type 0
ViewOutcome book before after (Ok n) = Writes book before after n
ViewOutcome book before after (Err TooManyRows) = (RowsFit book before → ⊥) × (after ≡ before)
ViewOutcome book before after (Err TooManyDefinitions) = RowsFit book before × (DefinitionsFit book before → ⊥) × (after ≡ before)

-- what a clearing that is not refused has made
abbrev pub MakesCleared : Limits → Book → Book → Result ℕ ClearFault → Type 0
MakesCleared limits book after (Ok n) = WritesCleared limits book after n
MakesCleared limits book after (Err e) = Unit {0}
