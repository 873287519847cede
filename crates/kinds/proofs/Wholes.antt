-- What is read of a token that was taken apart.
use Rattle.std.proofs.Common.{◌≡◌, ℕ, ◌<◌, Bool, List, length, Some, None, sym, ap, ◌∙◌}
use Rattle.numbers.specs.Grammar.{Digits}
use Rattle.std.specs.Option.{option_map}
use Rattle.numbers.specs.Reading.{plain, whole_of, taken_apart}
use Rattle.numbers.proofs.Tokens.{int_digits, plain_int}
use Rattle.numbers.proofs.Wholes.{unsuited_places, unsuited_long}
use Rattle.kinds.specs.Wholes.{a_whole, whole_kind}

module _ (token : List ℕ) (minus : Bool) (int ds : List ℕ) (taken : Some (plain minus int ds) ≡ taken_apart token) where
  read_is : whole_of (Some (plain minus int ds)) ≡ None → None ≡ whole_kind.read token
  read_is e = ap (option_map a_whole) (sym e) ∙ ap (λ p. option_map a_whole (whole_of p)) taken

  pub digits_taken : Digits int
  digits_taken = int_digits int (plain_int token (plain minus int ds) (sym taken))

  pub has_places : 0 < length ds → None ≡ whole_kind.read token
  has_places h = read_is (unsuited_places (plain minus int ds) h)

  pub is_long : 16 < length int → None ≡ whole_kind.read token
  is_long h = read_is (unsuited_long (plain minus int ds) (plain_int token (plain minus int ds) (sym taken)) h)
