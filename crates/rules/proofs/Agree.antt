-- Two lawful tables agree.
use Rattle.std.proofs.Common.{◌≡◌, ℕ, Bool, not, ◌&&◌, ◌||◌, List, sym, refl, ap, ◌∙◌, ap₂}
use Rattle.std.specs.List.{AllByRecursion}
use Rattle.std.proofs.ByRecursion.{All-weaker}
use Rattle.rules.specs.declared.row.Row.{Row}
use Rattle.rules.specs.declared.row.Row.TheVariants.{True, False, OfType, BooleanIs, Pattern, NotPattern, Length, Between, StrictlyBetween, Multiple, NotMultiple, EveryMember, SomeMember, Members, EveryElement, SomeElement, Count, And, Or, Not, Variable}
use Rattle.rules.specs.Value.{Member, parts, as_list, as_object}
use Rattle.rules.specs.Book.{Book, row_at, operands, needs}
use Rattle.rules.proofs.Founded.{founded}
use Rattle.rules.specs.Meaning.{World, Verdicts, value_at, says, in_range}
use Rattle.rules.specs.Theorems.{OneTable}
use Rattle.rules.proofs.Tests.{weaker, in_list, in_object, passes_same, all_same, any_same, count_same}
use Rattle.rules.proofs.Descent.{descent}

-- a row says the same by two tables that agree at what it looks at
module _ {K : Type 0} (world : World K) (book : Book) (V W : Verdicts) (n : ℕ) where
  elements : (o : ℕ) (f g : List ℕ → Bool) → ((es : List ℕ) → AllByRecursion (λ m. V o m ≡ W o m) es → f es ≡ g es) →
      AllByRecursion (λ m. V o m ≡ W o m) (parts (value_at world n)) →
      Rattle.rules.specs.Meaning.passes (as_list (value_at world n)) f ≡ Rattle.rules.specs.Meaning.passes (as_list (value_at world n)) g
  elements o f g same h =
      passes_same (as_list (value_at world n)) f g
      (weaker (as_list (value_at world n)) (λ es. AllByRecursion (λ m. V o m ≡ W o m) es) (λ es. f es ≡ g es) same (in_list (value_at world n) (λ m. V o m ≡ W o m) h))

  members : (o : ℕ) (f g : List Member → Bool) → ((ms : List Member) → AllByRecursion (λ m. V o m.node ≡ W o m.node) ms → f ms ≡ g ms) →
      AllByRecursion (λ m. V o m ≡ W o m) (parts (value_at world n)) →
      Rattle.rules.specs.Meaning.passes (as_object (value_at world n)) f ≡ Rattle.rules.specs.Meaning.passes (as_object (value_at world n)) g
  members o f g same h =
      passes_same (as_object (value_at world n)) f g
      (weaker (as_object (value_at world n)) (λ ms. AllByRecursion (λ m. V o m.node ≡ W o m.node) ms) (λ ms. f ms ≡ g ms) same (in_object (value_at world n) (λ m. V o m ≡ W o m) h))

  pub says_same : (row : Row) → AllByRecursion (λ o. V o n ≡ W o n) (needs book row) → AllByRecursion (λ o. AllByRecursion (λ m. V o m ≡ W o m) (parts (value_at world n))) (operands row) →
      says world book V row n ≡ says world book W row n
  says_same True h b = refl
  says_same False h b = refl
  says_same (OfType t) h b = refl
  says_same (BooleanIs c) h b = refl
  says_same (Pattern p) h b = refl
  says_same (NotPattern p) h b = refl
  says_same (Length range) h b = refl
  says_same (Between bounds) h b = refl
  says_same (StrictlyBetween bounds) h b = refl
  says_same (Multiple q) h b = refl
  says_same (NotMultiple q) h b = refl
  says_same (EveryMember p o) h b = members o _ _
      (λ ms e. all_same _ _ ms (All-weaker _ _ (λ m k. ap (λ v. not (world.matches p m.name) || v) k) ms e)) b.0
  says_same (SomeMember p o) h b = members o _ _
      (λ ms e. any_same _ _ ms (All-weaker _ _ (λ m k. ap (λ v. world.matches p m.name && v) k) ms e)) b.0
  says_same (Members range) h b = refl
  says_same (EveryElement o) h b = elements o _ _ (all_same _ _) b.0
  says_same (SomeElement o) h b = elements o _ _ (any_same _ _) b.0
  says_same (Count o range) h b = elements o _ _ (λ es e. ap (in_range range) (count_same _ _ es e)) b.0
  says_same (And a c) h b = ap₂ ◌&&◌ h.0 h.1.0
  says_same (Or a c) h b = ap₂ ◌||◌ h.0 h.1.0
  says_same (Not o) h b = ap not h.0
  says_same (Variable v) h b = h.0

pub one_table : (K : Type 0) → OneTable K
one_table K world limits book V W after sealed v w =
    descent book (founded sealed) world.doc after (λ r n. V r n ≡ W r n)
    (λ r n h hn here below. v r n h hn ∙ says_same world book V W n (row_at book r) here below ∙ sym (w r n h hn))
