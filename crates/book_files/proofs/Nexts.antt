-- The field of an item that fits passes the test of the next field.
use Rattle.std.proofs.Common.{◌≡◌, ℕ, ◌+◌, ◌<◌, false, List, [], ◌∷◌, ◌++◌, length, take, drop, Ok, Err, Result, sym, refl, ap, ◌∙◌, inl, inr, arith, length-append}
use native.Mathlib.Nat.{div-add-mod}
use Rattle.std.proofs.lemmas.List.{take_at}
use Rattle.std.proofs.lemmas.Bool.{le-leb, lt-ltb, lt-leb}
use Rattle.fields.specs.Fields.{field_bytes, stated_length}
use Rattle.numbers.specs.Kinds.{Kind}
use Rattle.rules.specs.Book.{Limits, Allowed}
use Rattle.rules.specs.declared.row.Row.{Row}
use Rattle.rules.specs.declared.row.Row.TheVariants.{True, False, OfType, BooleanIs, Pattern, NotPattern, Length, Between, StrictlyBetween, Multiple, NotMultiple, EveryMember, SomeMember, Members, EveryElement, SomeElement, Count, And, Or, Not, Variable}
use Rattle.rows.specs.Rows.{row_bytes, WellEnded}
use Rattle.rows.proofs.Back.{bytes_back}
use Rattle.books.specs.Tests.{passes}
use Rattle.books.specs.declared.fault.BookFault.{BookFault}
use Rattle.books.proofs.Keeping.{passes_row}
use Rattle.book_fields.specs.Fields.{field_test, is_misplaced, is_wrong}
use Rattle.book_fields.specs.Items.{named}
use Rattle.book_files.specs.Drafts.{Numeral, Draft, drafted, Room, file, body_bytes}
use Rattle.book_files.specs.Files.{last_tag, limits, NumberFits, RowFits, BodyFits, next_test, Stops}

-- what stands in a field, as it is read again
stated : (tag : ℕ) (body more : List ℕ) → stated_length (field_bytes tag body ++ more) ≡ length body
stated tag body more = omega (arith, div-add-mod (length body) 256)

body_again : (tag : ℕ) (body more : List ℕ) → take (stated_length (field_bytes tag body ++ more)) (drop 3 (field_bytes tag body ++ more)) ≡ body
body_again tag body more = take_at body more (stated_length (field_bytes tag body ++ more)) (sym (stated tag body more))

field_passes : (last place tag : ℕ) (body more : List ℕ) → is_misplaced last tag ≡ false → is_wrong tag (length body) ≡ false →
    field_test last place (field_bytes tag body ++ more) ≡ passes
field_passes last place tag body more placed right =
    let bytes = field_bytes tag body ++ more in
    let long : length bytes ≡ 3 + length body + length more = simp length-append (omega arith) in
    let says = stated tag body more in
    rw (
      le-leb 3 (length bytes) (omega arith),
      placed,
      le-leb (3 + stated_length bytes) (length bytes) (omega arith),
      says,
      right,
    )

-- the ends of an allowed row are such as bytes can hold
pub allowed_ended : (within : Limits) (row : Row) → Allowed within row → WellEnded row
allowed_ended within True h = tt
allowed_ended within False h = tt
allowed_ended within (OfType t) h = tt
allowed_ended within (BooleanIs b) h = tt
allowed_ended within (Pattern p) h = tt
allowed_ended within (NotPattern p) h = tt
allowed_ended within (Length range) h = h
allowed_ended within (Between bounds) h = tt
allowed_ended within (StrictlyBetween bounds) h = tt
allowed_ended within (Multiple q) h = tt
allowed_ended within (NotMultiple q) h = tt
allowed_ended within (EveryMember p o) h = tt
allowed_ended within (SomeMember p o) h = tt
allowed_ended within (Members range) h = h
allowed_ended within (EveryElement o) h = tt
allowed_ended within (SomeElement o) h = tt
allowed_ended within (Count o range) h = h
allowed_ended within (And a b) h = tt
allowed_ended within (Or a b) h = tt
allowed_ended within (Not o) h = tt
allowed_ended within (Variable v) h = tt

module _ {K : Type 0} (kind : Kind K) (patterns : ℕ) (room : Room) where
  abbrev Passes : List (Numeral K) → List Row → List ℕ → List ℕ → Type 0
  Passes numerals rows bodies bytes = next_test kind patterns room (drafted numerals rows bodies) bytes ≡ passes

  pub number_passes : (numerals : List (Numeral K)) (numeral : Numeral K) (more : List ℕ) → NumberFits kind room (length numerals) numeral →
      Passes numerals [] [] (field_bytes 1 numeral.token ++ more)
  number_passes numerals numeral more fits =
      let token = numeral.token in
      rw (
        field_passes 1 (length (file (drafted numerals [] []))) 1 token more refl refl,
        body_again 1 token more,
        lt-leb room.numbers (length numerals) fits.0,
        fits.1,
      )

  row_placed : (rows : List Row) → is_misplaced (last_tag rows []) 2 ≡ false
  row_placed [] = refl
  row_placed (row ∷ rows) = refl

  pub row_passes : (numerals : List (Numeral K)) (rows : List Row) (row : Row) (more : List ℕ) →
      RowFits room (limits kind patterns (drafted numerals rows [])) (length rows) row →
      Passes numerals rows [] (field_bytes 2 (row_bytes row) ++ more)
  row_passes numerals rows row more fits =
      let within = limits kind patterns (drafted numerals rows []) in
      let place = length (file (drafted numerals rows [])) in
      rw (
        field_passes (last_tag rows []) place 2 (row_bytes row) more (row_placed rows) refl,
        body_again 2 (row_bytes row) more,
        lt-leb room.rows (length rows) fits.0,
        bytes_back row (allowed_ended within row fits.1),
        passes_row within (length rows) place row fits.1 fits.2,
      )

  body_placed : (rows : List Row) (bodies : List ℕ) → is_misplaced (last_tag rows bodies) 3 ≡ false
  body_placed [] [] = refl
  body_placed (row ∷ rows) [] = refl
  body_placed rows (body ∷ bodies) = refl

  pub body_passes : (numerals : List (Numeral K)) (rows : List Row) (bodies : List ℕ) (body : ℕ) (more : List ℕ) →
      BodyFits room (length rows) (length bodies) body → Passes numerals rows bodies (field_bytes 3 (body_bytes body) ++ more)
  body_passes numerals rows bodies body more fits =
      let place = length (file (drafted numerals rows bodies)) in
      let again : named (body_bytes body) ≡ body = omega arith in
      rw (
        field_passes (last_tag rows bodies) place 3 (body_bytes body) more (body_placed rows bodies) refl,
        lt-leb room.definitions (length bodies) fits.0,
        again,
        lt-ltb body (length rows) fits.1,
      )

  -- reading does not end where the next field passes
  pub goes_on : (d : Draft K) (rest : List ℕ) (o : Result (Draft K) BookFault) → 0 < length rest → next_test kind patterns room d rest ≡ passes →
      Stops kind patterns room d rest o → ⊥
  goes_on d rest (Ok whole) more pass stop = omega (arith, ap length stop.0)
  goes_on d rest (Err e) more pass (inl stop) = omega (arith, ap length stop.0)
  goes_on d rest (Err e) more pass (inr stop) =
      let same : passes ≡ Err e = sym pass ∙ stop.1 in
      let z : ◌≡◌ {A = ℕ} 0 1 = cc in omega arith
