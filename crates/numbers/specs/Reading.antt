-- How tokens without an exponent are read and written, step by step. That this is the grammar and its values is proved in proofs/.
use Rattle.std.specs.Prelude.{ℕ, ◌+◌, ◌/◌, ◌%◌, ◌^◌, Bool, true, false, cond, ◌&&◌, ◌||◌, List, [], ◌∷◌, ◌++◌, length, take, drop, ℤ, pos, negsuc, neg_ℤ, Some, None, decimal, Option, ◌==◌, nat_le, nat_lt, unsigned_abs}
use Rattle.std.specs.Ordering.{int_cmp}
use Rattle.std.specs.Fmt.{signed_decimal}
use Rattle.std.specs.List.{prefix_len, list_all}
use Rattle.numbers.specs.Kinds.{Kind}
use Rattle.numbers.specs.Values.{number, in_millionths, Fixed}

-- A token without an exponent: whether it has a minus, the digits before the point and those after it.
pub record Plain : Type 0 where
  pub minus : Bool
  pub int : List ℕ
  pub places : List ℕ

abbrev pub plain : Bool → List ℕ → List ℕ → Plain
plain minus int ds = record { minus = minus; int = int; places = ds }

abbrev pub is_digit : ℕ → Bool
is_digit b = nat_le 0x30 b && nat_le b 0x39

-- how many digits bytes begin with
abbrev pub digit_count : List ℕ → ℕ
digit_count bs = prefix_len is_digit bs

-- digits that begin a number: one at least, and a zero only alone
abbrev pub well_begun : List ℕ → Bool
well_begun [] = false
well_begun (b ∷ bs) = nat_lt 0x30 b || length bs == 0

-- digits alone, one at least
abbrev pub only_digits : List ℕ → Bool
only_digits bs = nat_lt 0 (length bs) && list_all is_digit bs

-- the token of these digits, and of what follows them: nothing, or a point and digits
abbrev pub with_rest : Bool → List ℕ → List ℕ → Option Plain
with_rest minus int [] = cond (well_begun int) (Some (plain minus int [])) None
with_rest minus int (b ∷ bs) = cond (well_begun int && (b == 0x2E && only_digits bs)) (Some (plain minus int bs)) None

abbrev pub after_minus : Bool → List ℕ → Option Plain
after_minus minus bs = with_rest minus (take (digit_count bs) bs) (drop (digit_count bs) bs)

-- a token without an exponent, taken apart
abbrev pub taken_apart : List ℕ → Option Plain
taken_apart [] = None
taken_apart (b ∷ bs) = cond (b == 0x2D) (after_minus true bs) (after_minus false (b ∷ bs))

-- a magnitude with its sign
abbrev pub signed_if : Bool → ℕ → ℤ
signed_if minus n = cond minus (neg_ℤ (pos n)) (pos n)

-- whether the magnitude of q divides that of x; zero divides itself alone
abbrev pub divides : ℤ → ℤ → Bool
divides x q = unsigned_abs x % unsigned_abs q == 0

abbrev pub whole_of : Option Plain → Option ℤ
whole_of None = None
whole_of (Some p) = cond (length p.places == 0 && nat_le (number p.int) (10 ^ 15)) (Some (signed_if p.minus (number p.int))) None

abbrev pub whole : Kind ℤ
whole = record {
  longest = 17;
  read = λ bs. whole_of (taken_apart bs);
  written = signed_decimal;
  compare = int_cmp;
  multiple = divides;
  zero = pos 0;
}

abbrev pub decimal_of : Option Plain → Option Fixed
decimal_of None = None
decimal_of (Some p) =
    cond (nat_le (length p.int + length p.places) 12 && nat_le (length p.places) 6)
    (Some (record { millionths = signed_if p.minus (in_millionths p.int p.places); places = length p.places })) None

-- the six digits of a part of a million
abbrev pub six_digits : ℕ → List ℕ
six_digits m =
    (0x30 + m / 100000 % 10) ∷ (0x30 + m / 10000 % 10) ∷ (0x30 + m / 1000 % 10) ∷ (0x30 + m / 100 % 10) ∷ (0x30 + m / 10 % 10) ∷ (0x30 + m % 10) ∷ []

-- digits with the point before them; no point where there are none
abbrev pub pointed : List ℕ → List ℕ
pointed [] = []
pointed (d ∷ ds) = 0x2E ∷ d ∷ ds

-- so many places of a part of a million
abbrev pub fraction : ℕ → ℕ → List ℕ
fraction count m = pointed (take count (six_digits m))

abbrev pub minus_of : ℤ → List ℕ
minus_of (pos n) = []
minus_of (negsuc n) = 0x2D ∷ []

abbrev pub fixed_written : Fixed → List ℕ
fixed_written x = minus_of x.millionths ++ (decimal (unsigned_abs x.millionths / 10 ^ 6) ++ fraction x.places (unsigned_abs x.millionths % 10 ^ 6))

abbrev pub fixed : Kind Fixed
fixed = record {
  longest = 14;
  read = λ bs. decimal_of (taken_apart bs);
  written = fixed_written;
  compare = λ x y. int_cmp x.millionths y.millionths;
  multiple = λ x q. divides x.millionths q.millionths;
  zero = record { millionths = pos 0; places = 0 };
}
