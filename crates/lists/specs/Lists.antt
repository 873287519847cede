-- What a list over lent memory holds, and what its calls come to.
use Rattle.std.specs.Prelude.{◌≡◌, ℕ, ◌<◌, ◌≤◌, min, List, [], ◌∷◌, ◌++◌, length, take, drop, Some, None, Option}
use Rattle.lists.specs.declared.lent.LentList.{LentList}

module _ {T : Type 0} where
  -- the memory that is lent
  abbrev pub memory_of : LentList T → List T
  memory_of l = l.slots.now

  -- the values, at the front of the memory
  abbrev pub values_of : LentList T → List T
  values_of l = take l.count (memory_of l)

  -- the memory past them
  abbrev pub spare_of : LentList T → List T
  spare_of l = drop l.count (memory_of l)

  -- how many values there is room for
  abbrev pub room : LentList T → ℕ
  room l = min (length (memory_of l)) l.most

  -- the same memory is lent, as long as it was, and the maximum stands
  pub record Lent (before after : LentList T) : Type 0 where
    pub memory : after.slots.ghost_name ≡ before.slots.ghost_name
    pub length : length (memory_of after) ≡ length (memory_of before)
    pub most : after.most ≡ before.most

  -- A value stands after the others, its place is answered, and memory past it is as it was; or the list is full, and nothing changed.
  abbrev pub Pushes : T → LentList T → LentList T → Option ℕ → Type 0
  Pushes x before after (Some at) =
      (at ≡ length (values_of before)) × (at < room before) × (values_of after ≡ values_of before ++ (x ∷ [])) × (spare_of after ≡ drop 1 (spare_of before))
  Pushes x before after None = (room before ≤ length (values_of before)) × (after.count ≡ before.count) × (memory_of after ≡ memory_of before)
