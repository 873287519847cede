-- What number a word writes.
use Rattle.std.specs.Prelude.{ℕ, ◌^◌, cond, ◌&&◌, List, length, Some, None, Option, nat_lt}
use Rattle.std.specs.Str.Parse.{digits_value}
use Rattle.std.specs.Str.{all_ascii_digits}

-- one decimal digit or more, of a value that fits 64 bits
abbrev pub number_of : List ℕ → Option ℕ
number_of word = cond (all_ascii_digits word && nat_lt 0 (length word) && nat_lt (digits_value 10 word) (2 ^ 64)) (Some (digits_value 10 word)) None
