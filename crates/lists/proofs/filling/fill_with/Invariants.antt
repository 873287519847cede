use Rattle.std.proofs.Common.{◌≡◌, take, replicate}
use Rattle.lists.proofs.filling.fill_with.Given as goal

-- the slots so far hold the value
abbrev pub invariant-loop-slot : goal.invariant-loop-slot
invariant-loop-slot g l = take l.slot-index l.slots ≡ replicate l.slot-index l.value
