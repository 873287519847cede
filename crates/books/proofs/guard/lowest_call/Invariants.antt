-- No row so far is a marked variable of the definition.
use Rattle.std.proofs.Common.{◌≡◌, ℕ, ◌<◌, true, false, slice_index_or}
use Rattle.rules.specs.declared.row.Row.TheVariants.{False}
use Rattle.books.specs.Guard.{calls}
use Rattle.books.proofs.guard.lowest_call.Given as goal

abbrev pub invariant-loop-r : goal.invariant-loop-r
invariant-loop-r l = (s : ℕ) → s < l.r → (slice_index_or l.marks s false ≡ true) × (calls (slice_index_or l.rows s False) l.definition ≡ true) → ⊥
