-- What bytes a word writes: `-` none, else pieces joined by `.`, each of pairs of hexadecimal digits and perhaps
-- repeated by `*` and a count. `5b.31*3` is `[111`.
use Rattle.std.specs.Prelude.{◌≡◌, ℕ, zero, suc, ◌+◌, ◌-◌, ◌*◌, ◌/◌, ◌%◌, cond, List, [], ◌∷◌, ◌++◌, length, Some, None, codes, Option, nat_le, nat_lt, refl}
use Rattle.std.specs.Int.{is_in_range}
use Rattle.std.specs.Str.{bytes_eq}
use Rattle.cases.specs.Numbers.{number_of}
use Rattle.cases.specs.Splits.{split}

-- at most so many bytes come of one word
abbrev pub longest : ℕ
longest = 1048576

-- the one after the other, where both are there
abbrev pub both : Option (List ℕ) → Option (List ℕ) → Option (List ℕ)
both None q = None
both (Some a) None = None
both (Some a) (Some b) = Some (a ++ b)

-- the value of a lower-case hexadecimal digit
abbrev pub hex_digit : ℕ → Option ℕ
hex_digit c = cond (is_in_range 48 57 c) (Some (c - 48)) (cond (is_in_range 97 102 c) (Some (c - 97 + 10)) None)

abbrev pub paired : Option ℕ → Option ℕ → Option ℕ
paired None l = None
paired (Some h) None = None
paired (Some h) (Some l) = Some (h * 16 + l)

-- the byte that two digits write
abbrev pub byte_of : ℕ → ℕ → Option ℕ
byte_of high low = paired (hex_digit high) (hex_digit low)

abbrev pub alone : Option ℕ → Option (List ℕ)
alone None = None
alone (Some b) = Some (b ∷ [])

-- digits two by two
abbrev pub pairs : List ℕ → Option (List ℕ)
pairs [] = Some []
pairs (d ∷ []) = None
pairs (high ∷ low ∷ ds) = both (alone (byte_of high low)) (pairs ds)

-- one pair of digits or more
abbrev pub hex_bytes : List ℕ → Option (List ℕ)
hex_bytes [] = None
hex_bytes (d ∷ ds) = pairs (d ∷ ds)

-- bytes n times over
abbrev pub times : ℕ → List ℕ → List ℕ
times zero bytes = []
times (suc n) bytes = bytes ++ times n bytes

abbrev pub repeated : Option ℕ → Option (List ℕ) → Option (List ℕ)
repeated None bytes = None
repeated (Some n) None = None
repeated (Some n) (Some bytes) = Some (times n bytes)

-- a piece, by its parts at each `*`: digits, or digits and a count
abbrev pub piece_bytes : List (List ℕ) → Option (List ℕ)
piece_bytes [] = None
piece_bytes (digits ∷ []) = hex_bytes digits
piece_bytes (digits ∷ count ∷ []) = repeated (number_of count) (hex_bytes digits)
piece_bytes (digits ∷ count ∷ p ∷ ps) = None

-- pieces one after another
abbrev pub pieces_bytes : List (List ℕ) → Option (List ℕ)
pieces_bytes [] = Some []
pieces_bytes (p ∷ ps) = both (piece_bytes (split 42 p)) (pieces_bytes ps)

-- what is longer is not meant
abbrev pub limited : Option (List ℕ) → Option (List ℕ)
limited None = None
limited (Some bytes) = cond (nat_le (length bytes) longest) (Some bytes) None

-- the bytes that a word writes, if it is of this form and they are not too many
abbrev pub bytes_of : List ℕ → Option (List ℕ)
bytes_of word = cond (bytes_eq word (codes "-")) (Some []) (limited (pieces_bytes (split 46 word)))

-- for example: a piece that is repeated, one that is repeated 0 times, and one without digits
pub repeats : bytes_of (codes "5b.31*3.5d*0") ≡ Some (codes "[111")
repeats = refl

pub no_digits : bytes_of (codes "5b..31") ≡ None
no_digits = refl

-- the other way: how bytes are shown
abbrev pub hex_char : ℕ → ℕ
hex_char d = cond (nat_lt d 10) (48 + d) (87 + d)

abbrev pub hex_text : List ℕ → List ℕ
hex_text [] = []
hex_text (b ∷ bs) = hex_char (b / 16) ∷ hex_char (b % 16) ∷ hex_text bs

abbrev pub shown : List ℕ → List ℕ
shown [] = codes "-"
shown (b ∷ bs) = hex_text (b ∷ bs)
