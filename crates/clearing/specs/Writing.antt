-- What is written into memory.
use Rattle.std.specs.Prelude.{◌≡◌, ℕ, ◌≤◌, List, ◌++◌, map, length, take, drop}
use Rattle.rules.specs.declared.place.Place.{Place}
use Rattle.rules.specs.declared.row.Row.{Row}
use Rattle.rules.specs.Clear.{look_up, clearing, begun}
use Rattle.clearing.specs.Counting.{AllPlain}

-- a memory whose front part is written over
abbrev pub written_over : {A : Type 0} → List A → List A → List A
written_over new before = new ++ drop (length new) before

-- the bodies of the cleared definitions, by the places of the rows
abbrev pub bodies : List Place → List ℕ → List ℕ
bodies places definitions = map (λ b. (look_up places b).positive) definitions ++ map (λ b. (look_up places b).negative) definitions

-- the rows can be cleared, and what they are cleared to fits
pub record Writable (d : ℕ) (rows out : List Row) (places : List Place) : Type 0 where
  pub plain : AllPlain d rows
  pub few_definitions : d ≤ 64
  pub few_rows : length (clearing d begun rows).written ≤ 2048
  pub room : length (clearing d begun rows).written ≤ length out
  pub places_room : length rows ≤ length places

pub record WrittenRows (d : ℕ) (rows before after : List Row) (places : List Place) : Type 0 where
  pub written : after ≡ written_over (clearing d begun rows).written before
  pub placed : take (length rows) places ≡ (clearing d begun rows).places
