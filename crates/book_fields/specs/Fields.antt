-- What refuses the next field of a book's file, whatever stands in it.
use Rattle.std.specs.Prelude.{◌≡◌, ◌≢◌, ℕ, ◌+◌, Bool, true, false, cond, not, ◌&&◌, ◌||◌, List, ◌++◌, length, take, drop, Ok, Err, Result, ◌==◌, nat_le, nat_lt}
use Rattle.std.specs.Result.{result_and}
use Rattle.fields.specs.Fields.{field_bytes, tag_of, stated_length}
use Rattle.fields.specs.declared.field.CutShort.{CutShort}
use Rattle.fields.specs.declared.field.CutShort.TheVariants.{Head, Body}
use Rattle.book_fields.specs.declared.field.Tag.{Tag}
use Rattle.book_fields.specs.declared.field.Tag.TheVariants.{Number, Row, Definition}
use Rattle.book_fields.specs.declared.field.UnknownTag.{UnknownTag as Unknown}
use Rattle.book_fields.specs.declared.field.BookField.{BookField}
use Rattle.books.specs.Tests.{Tested, passes, ask}
use Rattle.books.specs.declared.fault.BookFault.{BookFault}
use Rattle.books.specs.declared.fault.BookFault.TheVariants.{UnknownTag, WrongLength}

abbrev pub tag_number : Tag → ℕ
tag_number Number = 1
tag_number Row = 2
tag_number Definition = 3

-- a number is that of a tag, or of none
abbrev pub NamesTag : ℕ → Result Tag Unknown → Type 0
NamesTag n (Ok t) = tag_number t ≡ n
NamesTag n (Err unknown) = (unknown.0 ≡ n) × ((t : Tag) → tag_number t ≢ n)

-- the tags are 1 for a number, 2 for a row, 3 for a definition, and none comes after a higher one
abbrev pub is_misplaced : (last tag : ℕ) → Bool
is_misplaced last tag = nat_lt tag 1 || (nat_lt 3 tag || nat_lt tag last)

-- a number that is a tag's and not misplaced, or else a fault
abbrev pub PlacesTag : (last number place : ℕ) → Result Tag BookFault → Type 0
PlacesTag last number place (Ok t) = (is_misplaced last number ≡ false) × (tag_number t ≡ number)
PlacesTag last number place (Err e) = (is_misplaced last number ≡ true) × (e ≡ UnknownTag place)

-- a field that is cut short is refused by its tag, if that is told and misplaced, or else by its length
abbrev pub cut_fault : (last place : ℕ) → CutShort → BookFault
cut_fault last place Head = WrongLength place
cut_fault last place (Body tag) = cond (is_misplaced last tag) (UnknownTag place) (WrongLength place)

-- a row has 10 bytes, a definition 2
abbrev pub is_wrong : (tag length : ℕ) → Bool
is_wrong tag n = (tag == 2 && not (n == 10)) || (tag == 3 && not (n == 2))

-- In this order: too few bytes for a head, another tag, a body that is cut short or of a wrong length.
abbrev pub field_test : (last place : ℕ) → List ℕ → Tested
field_test last place bytes =
    result_and (ask (nat_le 3 (length bytes)) (WrongLength place))
    (result_and (ask (not (is_misplaced last (tag_of bytes))) (UnknownTag place))
    (result_and (ask (nat_le (3 + stated_length bytes) (length bytes)) (WrongLength place))
    (ask (not (is_wrong (tag_of bytes) (stated_length bytes))) (WrongLength place))))

-- the field that is taken, or what refuses it
abbrev pub TakesField : (last place : ℕ) → List ℕ → Result BookField BookFault → Type 0
TakesField last place bytes (Ok f) =
    (field_test last place bytes ≡ passes) × (tag_number f.tag ≡ tag_of bytes)
    × (f.body.now ≡ take (stated_length bytes) (drop 3 bytes)) × (f.rest.now ≡ drop (3 + stated_length bytes) bytes)
TakesField last place bytes (Err e) = field_test last place bytes ≡ Err e

-- a field that is taken, written out, is what the bytes begin with
abbrev pub Cuts : List ℕ → Result BookField BookFault → Type 0
Cuts bytes (Ok f) = bytes ≡ field_bytes (tag_number f.tag) f.body.now ++ f.rest.now
Cuts bytes (Err e) = Unit {0}
