-- Worked examples of tokens that are read, written and refused.
use Rattle.std.specs.Prelude.{◌≡◌, ℕ, true, false, ℤ, pos, negsuc, Some, None, codes, refl}
use Rattle.std.specs.declared.cmp.Ordering.TheVariants.{Equal}
use Rattle.std.specs.Fmt.{digits}
use Rattle.numbers.specs.Reading.{whole, fixed}
use Rattle.numbers.specs.Values.{Fixed}

abbrev pub point : ℤ → ℕ → Fixed
point m count = record { millionths = m; places = count }

pub greatest : whole.read (codes "1000000000000000") ≡ Some (pos 1000000000000000)
greatest = refl

pub too_great : whole.read (codes "1000000000000001") ≡ None
too_great = refl

pub minus_zero : whole.read (codes "-0") ≡ Some (pos 0)
minus_zero = refl

pub leading_zero : whole.read (codes "01") ≡ None
leading_zero = refl

pub plus_sign : whole.read (codes "+1") ≡ None
plus_sign = refl

pub exponent : whole.read (codes "1e2") ≡ None
exponent = refl

pub point_in_whole : whole.read (codes "1.0") ≡ None
point_in_whole = refl

pub places_kept : fixed.written (point (pos 1500000) 2) ≡ codes "1.50"
unfolding digits
places_kept = refl

pub places_read : fixed.read (codes "1.50") ≡ Some (point (pos 1500000) 2)
places_read = refl

pub zero_places : fixed.read (codes "-0.00") ≡ Some (point (pos 0) 2)
zero_places = refl

pub zero_written : fixed.written (point (pos 0) 2) ≡ codes "0.00"
unfolding digits
zero_written = refl

pub point_last : fixed.read (codes "1.") ≡ None
point_last = refl

pub seven_places : fixed.read (codes "0.1234567") ≡ None
seven_places = refl

pub thirteen_digits : fixed.read (codes "1234567890123") ≡ None
thirteen_digits = refl

pub level_places : fixed.compare (point (pos 1500000) 1) (point (pos 1500000) 2) ≡ Equal
level_places = refl

-- -2.50 is -10 times 0.25
pub negative_multiple : fixed.multiple (point (negsuc 2499999) 2) (point (pos 250000) 2) ≡ true
negative_multiple = refl

pub of_zero : whole.multiple (pos 1) (pos 0) ≡ false
of_zero = refl

pub zero_of_zero : whole.multiple (pos 0) (pos 0) ≡ true
zero_of_zero = refl
