-- A field that was taken off, written out again.
use Rattle.std.proofs.Common.{◌≡◌, ℕ, ◌+◌, ◌<◌, ◌≤◌, List, ◌++◌, length, get_or, take, drop}
use Rattle.fields.proofs.Rows.{field_cut}
use Rattle.fields.specs.Fields.{field_bytes, tag_of, stated_length}

pub cut_is : (bytes body rest : List ℕ) (tag : ℕ) → 3 + stated_length bytes ≤ length bytes → get_or bytes 2 0 < 256 →
    tag ≡ tag_of bytes → body ≡ take (stated_length bytes) (drop 3 bytes) → rest ≡ drop (3 + stated_length bytes) bytes → bytes ≡ field_bytes tag body ++ rest
cut_is bytes body rest tag within byte t b r = rw (t, b, r) (field_cut bytes within byte)
