-- When a cleared book fits into memory.
use Rattle.rules.specs.Book.{Book}
use Rattle.clearing.specs.Outcomes.{RowsFit, DefinitionsFit}

abbrev pub Fits : Book → Book → Type 0
Fits book memory = RowsFit book memory × DefinitionsFit book memory
