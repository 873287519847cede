-- The words of a kind's answers.
use Rattle.std.specs.Prelude.{◌≡◌, ℕ, Bool, cond, List, ◌++◌, Ok, Err, codes, decimal, Result}
use Rattle.std.specs.declared.cmp.Ordering.TheVariants.{Less, Equal, Greater}
use Rattle.std.specs.declared.cmp.Ordering.{Ordering}
use Rattle.kinds.specs.Causes.{cause_number}
use Rattle.kinds.specs.declared.number.Cause.{Cause}
use Rattle.numbers.specs.Kinds.{Kind, above_zero}

abbrev pub side_word : Ordering → List ℕ
side_word Less = codes "before"
side_word Equal = codes "level"
side_word Greater = codes "after"

abbrev pub sign_word : Bool → List ℕ
sign_word above = cond above (codes "p") (codes "z")

abbrev pub multiple_word : {K : Type 0} → Kind K → K → K → List ℕ
multiple_word kind x q = cond (above_zero kind q) (cond (kind.multiple x q) (codes "y") (codes "n")) (codes "-")

-- `ok WRITTEN SIGN`, or `outside CAUSE`
abbrev pub reading_text : {K : Type 0} → Kind K → Result K Cause → List ℕ
reading_text kind (Ok x) = codes "ok " ++ (kind.written x ++ (codes " " ++ sign_word (above_zero kind x)))
reading_text kind (Err cause) = codes "outside " ++ decimal (cause_number cause)

-- `SIDE MULTIPLE`, of two numbers that were read
abbrev pub Compares : {K : Type 0} → Kind K → Result K Cause → Result K Cause → List ℕ → Type 0
Compares kind (Ok x) (Ok y) text = text ≡ side_word (kind.compare x y) ++ (codes " " ++ multiple_word kind x y)
Compares kind (Ok x) (Err cause) text = ⊥
Compares kind (Err cause) y text = ⊥
