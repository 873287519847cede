-- The lines by which a planner reads a cleared book.
use Rattle.std.specs.Prelude.{ℕ, ◌+◌, ◌-◌, ◌/◌, Bool, cond, List, [], ◌∷◌, ◌++◌, length, Some, None, codes, decimal, Option, nat_lt}
use Rattle.numbers.specs.Kinds.{Kind}
use Rattle.rules.specs.Book.{Book, number_at}
use Rattle.rules.specs.declared.row.ValueType.{ValueType}
use Rattle.rules.specs.declared.row.ValueType.TheVariants.{Null, Boolean, Number, Text, List as Listed, Object}
use Rattle.rules.specs.declared.row.Range.{Range}
use Rattle.rules.specs.declared.row.Bounds.{Bounds}
use Rattle.rules.specs.declared.row.Row.{Row}
use Rattle.rules.specs.declared.row.Row.TheVariants.{True, False, OfType, BooleanIs, Pattern, NotPattern, Length, Between, StrictlyBetween, Multiple, NotMultiple, EveryMember, SomeMember, Members, EveryElement, SomeElement, Count, And, Or, Not, Variable}

abbrev pub type_word : ValueType → List ℕ
type_word Null = codes "null"
type_word Boolean = codes "boolean"
type_word Number = codes "number"
type_word Text = codes "text"
type_word Listed = codes "list"
type_word Object = codes "object"

abbrev pub boolean_word : Bool → List ℕ
boolean_word b = cond b (codes "true") (codes "false")

-- the name of a row's operator
abbrev pub operator_word : Row → List ℕ
operator_word True = codes "true"
operator_word False = codes "false"
operator_word (OfType t) = codes "type"
operator_word (BooleanIs b) = codes "boolean-is"
operator_word (Pattern p) = codes "pattern"
operator_word (NotPattern p) = codes "not-pattern"
operator_word (Length range) = codes "length"
operator_word (Between bounds) = codes "between"
operator_word (StrictlyBetween bounds) = codes "strictly-between"
operator_word (Multiple q) = codes "multiple"
operator_word (NotMultiple q) = codes "not-multiple"
operator_word (EveryMember p o) = codes "every-member"
operator_word (SomeMember p o) = codes "some-member"
operator_word (Members range) = codes "members"
operator_word (EveryElement o) = codes "every-element"
operator_word (SomeElement o) = codes "some-element"
operator_word (Count o range) = codes "count"
operator_word (And a b) = codes "and"
operator_word (Or a b) = codes "or"
operator_word (Not o) = codes "not"
operator_word (Variable v) = codes "variable"

-- `1 to 8`, or `from 1`
abbrev pub ends_text : ℕ → Option ℕ → List ℕ
ends_text lower (Some upper) = decimal lower ++ (codes " to " ++ decimal upper)
ends_text lower None = codes "from " ++ decimal lower

abbrev pub range_text : Range → List ℕ
range_text range = ends_text range.lower range.upper

-- the row that a list's elements are asked by, and how many it may accept
abbrev pub count_text : ℕ → Range → List ℕ
count_text o range = codes " of " ++ (decimal o ++ (codes ": " ++ range_text range))

-- a pattern, a row or a definition
abbrev pub index_text : ℕ → List ℕ
index_text n = codes " " ++ decimal n

-- two rows
abbrev pub pair_text : ℕ → ℕ → List ℕ
pair_text a b = codes " " ++ (decimal a ++ (codes ", " ++ decimal b))

-- the members whose names a pattern matches, and the row that their values are asked by
abbrev pub member_text : ℕ → ℕ → List ℕ
member_text p o = codes " of pattern " ++ (decimal p ++ (codes ": " ++ decimal o))

-- a text as that of row number r
abbrev pub of_row : ℕ → List ℕ → List ℕ
of_row r text = codes "row " ++ (decimal r ++ (codes ": " ++ text))

module _ {K : Type 0} (kind : Kind K) (numbers : List K) where
  -- a number of the book, as its kind writes it
  abbrev pub number_text : ℕ → List ℕ
  number_text i = kind.written (number_at kind numbers i)

  -- `0.5 and 20`; an end that is absent is left out
  abbrev pub between_text : Option ℕ → Option ℕ → List ℕ
  between_text (Some l) (Some u) = number_text l ++ (codes " and " ++ number_text u)
  between_text (Some l) None = codes "from " ++ number_text l
  between_text None (Some u) = codes "up to " ++ number_text u
  between_text None None = codes "any"

  abbrev pub bounds_text : Bounds → List ℕ
  bounds_text bounds = between_text bounds.lower bounds.upper

  -- what comes after the operator
  abbrev pub operand_text : Row → List ℕ
  operand_text True = []
  operand_text False = []
  operand_text (OfType t) = codes " " ++ type_word t
  operand_text (BooleanIs b) = codes " " ++ boolean_word b
  operand_text (Pattern p) = index_text p
  operand_text (NotPattern p) = index_text p
  operand_text (Length range) = codes " " ++ range_text range
  operand_text (Between bounds) = codes " " ++ bounds_text bounds
  operand_text (StrictlyBetween bounds) = codes " " ++ bounds_text bounds
  operand_text (Multiple q) = codes " of " ++ number_text q
  operand_text (NotMultiple q) = codes " of " ++ number_text q
  operand_text (EveryMember p o) = member_text p o
  operand_text (SomeMember p o) = member_text p o
  operand_text (Members range) = codes " " ++ range_text range
  operand_text (EveryElement o) = index_text o
  operand_text (SomeElement o) = index_text o
  operand_text (Count o range) = count_text o range
  operand_text (And a b) = pair_text a b
  operand_text (Or a b) = pair_text a b
  operand_text (Not o) = index_text o
  operand_text (Variable v) = index_text v

  abbrev pub row_text : Row → List ℕ
  row_text row = operator_word row ++ operand_text row

  -- `row 12: and 4, 11`
  abbrev pub row_line : ℕ → Row → List ℕ
  row_line r row = of_row r (row_text row ++ codes "\n")

abbrev pub goes_to : ℕ → List ℕ
goes_to body = codes ": row " ++ (decimal body ++ codes "\n")

-- `definition 0: row 10`; from number d on they are complements, `definition 2, complement of 0: row 12`
abbrev pub definition_line : (d k body : ℕ) → List ℕ
definition_line d k body =
    cond (nat_lt k d) (codes "definition " ++ (decimal k ++ goes_to body)) (codes "definition " ++ (decimal k ++ (codes ", complement of " ++ (decimal (k - d) ++ goes_to body))))

-- `17 rows, 2 definitions`
abbrev pub counts_line : (rows definitions : ℕ) → List ℕ
counts_line rows definitions = decimal rows ++ (codes " rows, " ++ (decimal definitions ++ codes " definitions\n"))

-- a line for each, numbered from i on
abbrev pub numbered : {A : Type 0} → (ℕ → A → List ℕ) → ℕ → List A → List ℕ
numbered line i [] = []
numbered line i (x ∷ xs) = line i x ++ numbered line (i + 1) xs

-- the first half of a cleared book's definitions are the book's own, the second half their complements
abbrev pub own_count : ℕ → ℕ
own_count definitions = definitions - definitions / 2

abbrev pub definition_lines : List ℕ → List ℕ
definition_lines definitions = numbered (definition_line (own_count (length definitions))) 0 definitions

-- a line a row, a line a definition, and the counts
abbrev pub book_text : {K : Type 0} → Kind K → List K → Book → List ℕ
book_text kind numbers book =
    numbered (row_line kind numbers) 0 book.rows
    ++ (definition_lines book.definitions ++ counts_line (length book.rows) (length book.definitions))
