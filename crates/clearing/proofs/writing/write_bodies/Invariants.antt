-- The bodies so far are pasted in, and so are those of the complements.
use Rattle.std.proofs.Common.{◌≡◌, map}
use lib.Seq.{paste}
use Rattle.rules.specs.Clear.{look_up}
use Rattle.clearing.proofs.writing.write_bodies.Given as goal

abbrev pub invariant-loop-k : goal.invariant-loop-k
invariant-loop-k l = record {
  bodies : l.bodies ≡ paste l.initial.bodies 0 (map (λ b. (look_up l.places b).positive) l.definitions) l.k;
  complements : l.complements ≡ paste l.initial.complements 0 (map (λ b. (look_up l.places b).negative) l.definitions) l.k;
}
