-- The parts that are left to take.
use Rattle.std.specs.Prelude.{ℕ, List, [], Some, None, Option}
use Rattle.std.specs.Borrow.{Bor}
use Rattle.cases.specs.Splits.{split}
use Rattle.cases.specs.declared.parts.Parts.{Parts}

abbrev pub split_rest : ℕ → Option (Bor (List ℕ)) → List (List ℕ)
split_rest mark None = []
split_rest mark (Some bytes) = split mark bytes.now

abbrev pub parts_left : Parts → List (List ℕ)
parts_left p = split_rest p.mark p.rest
