-- The numbers of the layers, and the line of a refusal.
use Rattle.std.specs.Prelude.{ℕ, List, ◌++◌, codes, decimal}
use Rattle.faults.specs.declared.Layer.{Layer}
use Rattle.faults.specs.declared.Layer.TheVariants.{Kind, Text, Book, Dialect, Board}
use Rattle.faults.specs.declared.Refusal.{Refusal}

abbrev pub layer_number : Layer → ℕ
layer_number Kind = 1
layer_number Text = 2
layer_number Book = 3
layer_number Dialect = 4
layer_number Board = 5

-- `refused N at P`
abbrev pub refusal_line : Refusal → List ℕ
refusal_line r = codes "refused " ++ (decimal r.number ++ (codes " at " ++ decimal r.place))
