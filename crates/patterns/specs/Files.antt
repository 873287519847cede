-- What is printed, by the files and the memory that is lent.
use Rattle.std.specs.Prelude.{ℕ, List}
use Rattle.dialects.specs.Files.{room}
use Rattle.patterns.specs.declared.Files.{Files}
use Rattle.patterns.specs.declared.Memory.{Memory}
use Rattle.patterns.specs.Answers.{Prints}

abbrev pub PrintsFiles : Files → Memory → List ℕ → Type 0
PrintsFiles files memory = Prints (room memory.names.now) (room memory.masks.now) files.names.now files.masks.now files.input.now
