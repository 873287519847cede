-- The sorts of case, and what a line of each comes to.
use Rattle.std.specs.Prelude.{◌≡◌, ℕ, List, [], ◌∷◌, drop, Some, codes, slice_index_or}
use Rattle.cases.specs.Splits.{joined_by}
use Rattle.cases_runs.specs.Kinds.{kind_word}
use Rattle.cases_runs.specs.Words.{bytes_first}
use Rattle.cases_runs.specs.declared.kind.NumberKind.{NumberKind}
use Rattle.cases_runs.specs.declared.kind.NumberKind.TheVariants.{Whole, Decimal}
use Rattle.kinds.specs.Causes.{outcome}
use Rattle.kinds.specs.Decimals.{decimal_kind}
use Rattle.kinds.specs.Wholes.{whole_kind}
use Rattle.numbers.specs.Kinds.{Kind}
use Rattle.cases_kinds.specs.Answers.{reading_text, Compares}
use Rattle.cases_kinds.specs.declared.sorts.KindSort.{KindSort}
use Rattle.cases_kinds.specs.declared.sorts.KindSort.TheVariants.{Number, Compare}

abbrev pub sorts : List KindSort
sorts = Number ∷ Compare ∷ []

abbrev pub sort_word : KindSort → List ℕ
sort_word Number = codes "number"
sort_word Compare = codes "compare"

module _ {K : Type 0} (kind : Kind K) where
  -- `BYTES OUTCOME`: the token that the bytes are is read
  pub record ReadsToken (words : List (List ℕ)) (expected came : List ℕ) : Type 0 where
    pub token : List ℕ
    pub tokened : bytes_first words ≡ Some token
    pub says : expected ≡ joined_by 32 (drop 1 words)
    pub is : came ≡ reading_text kind (outcome kind token)

  -- `A B OUTCOME`: two tokens are compared
  pub record ComparesTokens (words : List (List ℕ)) (expected came : List ℕ) : Type 0 where
    pub says : expected ≡ joined_by 32 (drop 2 words)
    pub is : Compares kind (outcome kind (slice_index_or words 0 [])) (outcome kind (slice_index_or words 1 [])) came

  abbrev pub ComesBy : KindSort → List (List ℕ) → List ℕ → List ℕ → Type 0
  ComesBy Number = ReadsToken
  ComesBy Compare = ComparesTokens

abbrev pub ComesOf : NumberKind → KindSort → List (List ℕ) → List ℕ → List ℕ → Type 0
ComesOf Whole = ComesBy whole_kind
ComesOf Decimal = ComesBy decimal_kind

-- `KIND ..`: by the numbers of that kind
pub record Comes (sort : KindSort) (words : List (List ℕ)) (expected came : List ℕ) : Type 0 where
  pub kind : NumberKind
  pub named : words ≡ kind_word kind ∷ drop 1 words
  pub ran : ComesOf kind sort (drop 1 words) expected came
