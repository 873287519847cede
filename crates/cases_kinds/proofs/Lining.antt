-- A case by the kind that its line names.
use Rattle.std.proofs.Common.{◌≡◌, ℕ, List, ◌∷◌, drop, IfOk, Ok, Err, string_bytes, Result, sym, ap, subst, ◌∙◌}
use Rattle.cases.specs.declared.fault.LineFault.{LineFault}
use Rattle.cases_runs.specs.Kinds.{kind_word}
use Rattle.cases_runs.specs.declared.kind.NumberKind.{NumberKind}
use Rattle.cases_runs.specs.declared.sort.Case.{Case}
use Rattle.cases_kinds.specs.Lines.{ComesOf, Comes}
use Rattle.cases_kinds.specs.declared.sorts.KindSort.{KindSort}

pub by_kind :
    (r : Result Case LineFault) (kind named : NumberKind) (sort : KindSort) (words rest : List (List ℕ)) → named ≡ kind
    → words ≡ kind_word named ∷ rest → IfOk r (λ c. ComesOf kind sort rest (string_bytes c.expected) (string_bytes c.came))
    → IfOk r (λ c. Comes sort words (string_bytes c.expected) (string_bytes c.came))
by_kind (Ok c) kind named sort words rest is begins h =
    let after : rest ≡ drop 1 words = sym (ap (drop 1) begins) in
    record {
      kind = kind;
      named = begins ∙ rw (is, after);
      ran = subst (λ ws. ComesOf kind sort ws (string_bytes c.expected) (string_bytes c.came)) after h;
    }
by_kind (Err e) kind named sort words rest is begins h = tt
