-- The bytes of a row are read as that row, and bytes that are read as a row are its bytes.
use Rattle.std.proofs.Common.{◌≡◌, ℕ, ◌<◌, eqb, List, length, get_or, Some, None, Option, sym, refl, ap, ◌∙◌}
use Rattle.std.proofs.lemmas.Bool.{eqb-true}
use Rattle.rules.specs.declared.row.Row.{Row}
use Rattle.rows.specs.declared.fields.Ends.{Ends}
use Rattle.rows.specs.declared.fields.Fields.{Fields}
use Rattle.rows.specs.Fields.{fields, held, bytes_of, ends_from, with_ends, word_at, fields_from}
use Rattle.rows.specs.Rows.{fields_of, row_bytes, WellEnded, ReadsRow, row_from, row_from_any, row_of}
use Rattle.rows.proofs.Bytes.{word, ends_back, ends_written, fields_written}
use Rattle.rows.proofs.Readers.{cond_none, row_back, row_read}

-- the bytes of fields are read as those fields
fields_back : (f : Fields) → fields_from (bytes_of f) ≡ Some f
fields_back f =
    rw (word f.first, word f.second, word (held f.ends.lower), word (held f.ends.upper), ends_back f.ends.lower f.ends.upper) refl

-- the bytes of a row are read as that row
pub bytes_back : (row : Row) → WellEnded row → row_of (row_bytes row) ≡ Some row
bytes_back row ended = ap row_from_any (fields_back (fields_of row)) ∙ row_back row ended

with_some : (k a b : ℕ) (o : Option Ends) (f : Fields) → with_ends k a b o ≡ Some f → (e : Ends) × (o ≡ Some e) × (fields k a b e ≡ f)
with_some k a b None f h = cc
with_some k a b (Some e) f h = (e, refl, cc)

-- bytes that are read as fields are their bytes
fields_are : (bytes : List ℕ) (f : Fields) → ((i : ℕ) → get_or bytes i 0 < 256) → fields_from bytes ≡ Some f → bytes ≡ bytes_of f
fields_are bytes f small h =
    let t = cond_none (eqb (length bytes) 10) _ f h in
    let w = with_some (get_or bytes 0 0) (word_at bytes 2) (word_at bytes 4) (ends_from (get_or bytes 1 0) (word_at bytes 6) (word_at bytes 8)) f t.1 in
    fields_written bytes (fields (get_or bytes 0 0) (word_at bytes 2) (word_at bytes 4) w.0) (eqb-true (length bytes) 10 t.0) small refl refl refl (ends_written _ _ _ w.0 w.1)
    ∙ ap bytes_of w.2

any_some : (o : Option Fields) (row : Row) → row_from_any o ≡ Some row → (f : Fields) × (o ≡ Some f) × (row_from f ≡ Some row)
any_some None row h = cc
any_some (Some f) row h = (f, refl, h)

-- what bytes are read as is the row whose bytes they are
pub row_is_read : (bytes : List ℕ) (row : Row) → ((i : ℕ) → get_or bytes i 0 < 256) → row_of bytes ≡ Some row → ReadsRow bytes (Some row)
row_is_read bytes row small h =
    let a = any_some (fields_from bytes) row h in
    row_read bytes a.0 (Some row) small (fields_are bytes a.0 small a.1) (sym a.2)

-- bytes that are read as a row are its bytes
pub bytes_are : (bytes : List ℕ) (row : Row) → ((i : ℕ) → get_or bytes i 0 < 256) → row_of bytes ≡ Some row → bytes ≡ row_bytes row
bytes_are bytes row small h = (row_is_read bytes row small h).0

-- and it is well ended
pub ended_are : (bytes : List ℕ) (row : Row) → ((i : ℕ) → get_or bytes i 0 < 256) → row_of bytes ≡ Some row → WellEnded row
ended_are bytes row small h = (row_is_read bytes row small h).1
