-- A book's file can be taken apart in one way only, so it comes to one thing.
use Rattle.std.proofs.Common.{◌≡◌, ℕ, ◌/◌, ◌%◌, ◌<◌, ◌≤◌, List, [], ◌∷◌, ◌++◌, map, length, get_or, Some, Ok, Err, Option, Result, sym, refl, ap, ◌∙◌, subst, inl, inr, ⊎_elim, append_assoc, arith}
use Rattle.std.proofs.lemmas.Bool.{cases_lt}
use Rattle.fields.specs.Fields.{field_bytes, tag_of}
use Rattle.numbers.specs.Kinds.{Kind}
use Rattle.kinds.specs.Causes.{outcome}
use Rattle.kinds.specs.declared.number.Cause.{Cause}
use Rattle.rules.specs.Book.{Limits, limits_of}
use Rattle.rules.specs.declared.row.Row.{Row}
use Rattle.rows.specs.Rows.{row_bytes, row_of}
use Rattle.rows.proofs.Back.{bytes_back}
use Rattle.books.specs.Tests.{Tested, passes}
use Rattle.books.specs.declared.fault.BookFault.{BookFault}
use Rattle.books.specs.declared.fault.BookFault.TheVariants.{Unguarded}
use Rattle.books.proofs.Keeping.{lowest_one, refused_passes}
use Rattle.book_files.specs.Drafts.{Numeral, Draft, drafted, Room, number_fields, row_fields, definition_fields, file, body_bytes, book}
use Rattle.book_files.specs.Files.{Each, limits, NumberFits, RowFits, BodyFits, next_test, end_test, Ends, Stops, ReadsTo, ComesTo}
use Rattle.book_files.proofs.Runs.{Stuck, run_once}
use Rattle.book_files.proofs.Nexts.{allowed_ended, number_passes, row_passes, body_passes, goes_on}

-- one test names one fault
same_fault : {A : Type 0} (t : Tested) (e f : BookFault) → t ≡ Err e → t ≡ Err f → ◌≡◌ {A = Result A BookFault} (Err f) (Err e)
same_fault t e f a b = let same : ◌≡◌ {A = Tested} (Err f) (Err e) = sym b ∙ a in let fault : f ≡ e = cc in ap Err fault

module _ {K : Type 0} (kind : Kind K) (patterns : ℕ) (room : Room) where
  same_numeral : (n : ℕ) (x y : Numeral K) → NumberFits kind room n x → NumberFits kind room n y → x.token ≡ y.token → x ≡ y
  same_numeral n x y fx fy e =
      let values : ◌≡◌ {A = Result K Cause} (Ok x.value) (Ok y.value) = sym fx.1 ∙ ap (outcome kind) e ∙ fy.1 in
      let value : x.value ≡ y.value = cc in
      rw (e, value) refl

  same_row : (within : Limits) (n : ℕ) (x y : Row) → RowFits room within n x → RowFits room within n y → row_bytes x ≡ row_bytes y → x ≡ y
  same_row within n x y fx fy e =
      let both : ◌≡◌ {A = Option Row} (Some x) (Some y) = sym (bytes_back x (allowed_ended within x fx.1)) ∙ ap row_of e ∙ bytes_back y (allowed_ended within y fy.1) in
      cc

  same_body : (rows n x y : ℕ) → BodyFits room rows n x → BodyFits room rows n y → body_bytes x ≡ body_bytes y → x ≡ y
  same_body rows n x y fx fy e =
      let high : x / 256 ≡ y / 256 = ap (λ bs. get_or bs 0 0) e in
      let low : x % 256 ≡ y % 256 = ap (λ bs. get_or bs 1 0) e in
      omega arith

  some_bytes : (tag : ℕ) (body more bytes : List ℕ) → bytes ≡ field_bytes tag body ++ more → 0 < length bytes
  some_bytes tag body more bytes e = rw e (omega arith)

  module _ (numerals : List (Numeral K)) where
    no_number : (rows : List Row) (bodies rest : List ℕ) (o : Result (Draft K) BookFault) → Stops kind patterns room (drafted numerals rows bodies) rest o →
        Stuck 1 (λ n. n.token) (NumberFits kind room) (length numerals) (row_fields rows ++ (definition_fields bodies ++ rest))
    no_number [] [] rest o stop x more fits e =
        goes_on kind patterns room (drafted numerals [] []) rest o (some_bytes 1 x.token more rest e)
        (subst (λ bs. next_test kind patterns room (drafted numerals [] []) bs ≡ passes) (sym e) (number_passes kind patterns room numerals x more fits)) stop
    no_number [] (b ∷ bodies) rest o stop x more fits e = let tags : ◌≡◌ {A = ℕ} 3 1 = ap tag_of e in omega arith
    no_number (r ∷ rows) bodies rest o stop x more fits e = let tags : ◌≡◌ {A = ℕ} 2 1 = ap tag_of e in omega arith

    no_row : (rows : List Row) (bodies rest : List ℕ) (o : Result (Draft K) BookFault) → Stops kind patterns room (drafted numerals rows bodies) rest o →
        Stuck 2 row_bytes (RowFits room (limits kind patterns (drafted numerals rows bodies))) (length rows) (definition_fields bodies ++ rest)
    no_row rows [] rest o stop x more fits e =
        goes_on kind patterns room (drafted numerals rows []) rest o (some_bytes 2 (row_bytes x) more rest e)
        (subst (λ bs. next_test kind patterns room (drafted numerals rows []) bs ≡ passes) (sym e) (row_passes kind patterns room numerals rows x more fits)) stop
    no_row rows (b ∷ bodies) rest o stop x more fits e = let tags : ◌≡◌ {A = ℕ} 3 2 = ap tag_of e in omega arith

    no_body : (rows : List Row) (bodies rest : List ℕ) (o : Result (Draft K) BookFault) → Stops kind patterns room (drafted numerals rows bodies) rest o →
        Stuck 3 body_bytes (BodyFits room (length rows)) (length bodies) rest
    no_body rows bodies rest o stop x more fits e =
        goes_on kind patterns room (drafted numerals rows bodies) rest o (some_bytes 3 (body_bytes x) more rest e)
        (subst (λ bs. next_test kind patterns room (drafted numerals rows bodies) bs ≡ passes) (sym e) (body_passes kind patterns room numerals rows bodies x more fits)) stop

  -- the fields of numbers, rows and definitions, and the rest
  pub apart : (d : Draft K) (rest : List ℕ) → file d ++ rest ≡ number_fields d.numerals ++ (row_fields d.rows ++ (definition_fields d.bodies ++ rest))
  apart d rest =
      append_assoc (number_fields d.numerals) (row_fields d.rows ++ definition_fields d.bodies) rest
      ∙ ap (λ bs. number_fields d.numerals ++ bs) (append_assoc (row_fields d.rows) (definition_fields d.bodies) rest)

  same_end : (d : Draft K) (o other : Result (Draft K) BookFault) → Ends d o → Ends d other → other ≡ o
  same_end d (Ok x) (Ok y) a b = ap Ok (b.0 ∙ sym a.0)
  same_end d (Ok x) (Err f) a (inl b) = refused_passes f (sym b ∙ a.1)
  same_end d (Ok x) (Err f) a (inr b) = absurd (a.2 b.1.0 b.1.2.there b.1.2.itself)
  same_end d (Err e) (Ok y) (inl a) b = refused_passes e (sym a ∙ b.1)
  same_end d (Err e) (Ok y) (inr a) b = absurd (b.2 a.1.0 a.1.2.there a.1.2.itself)
  same_end d (Err e) (Err f) (inl a) (inl b) = same_fault (end_test d) e f a b
  same_end d (Err e) (Err f) (inl a) (inr b) = refused_passes e (sym a ∙ b.0)
  same_end d (Err e) (Err f) (inr a) (inl b) = refused_passes f (sym b ∙ a.0)
  same_end d (Err e) (Err f) (inr a) (inr b) = ap Err (b.1.1 ∙ ap Unguarded (lowest_one (book d) b.1.0 a.1.0 b.1.2 a.1.2) ∙ sym a.1.1)

  same_stop : (d : Draft K) (rest : List ℕ) (o other : Result (Draft K) BookFault) → Stops kind patterns room d rest o → Stops kind patterns room d rest other → other ≡ o
  same_stop d rest (Ok x) (Ok y) a b = same_end d (Ok x) (Ok y) a.1 b.1
  same_stop d rest (Ok x) (Err f) a (inl b) = same_end d (Ok x) (Err f) a.1 b.1
  same_stop d rest (Ok x) (Err f) a (inr b) = absurd (omega (arith, ap length a.0, b.0))
  same_stop d rest (Err e) (Ok y) (inl a) b = same_end d (Err e) (Ok y) a.1 b.1
  same_stop d rest (Err e) (Ok y) (inr a) b = absurd (omega (arith, ap length b.0, a.0))
  same_stop d rest (Err e) (Err f) (inl a) (inl b) = same_end d (Err e) (Err f) a.1 b.1
  same_stop d rest (Err e) (Err f) (inl a) (inr b) = absurd (omega (arith, ap length a.0, b.0))
  same_stop d rest (Err e) (Err f) (inr a) (inl b) = absurd (omega (arith, ap length b.0, a.0))
  same_stop d rest (Err e) (Err f) (inr a) (inr b) = same_fault (next_test kind patterns room d rest) e f a.1 b.1

  same_draft : (d e : Draft K) → d.numerals ≡ e.numerals → d.rows ≡ e.rows → d.bodies ≡ e.bodies → d ≡ e
  same_draft d e a b c = rw (a, b, c) refl

  same_outcome : (bytes : List ℕ) (o other : Result (Draft K) BookFault) → ReadsTo kind patterns room bytes o → ReadsTo kind patterns room bytes other → other ≡ o
  same_outcome bytes o other x y =
      let d = x.draft in
      let e = y.draft in
      let ns = run_once 1 (λ n. n.token) (NumberFits kind room) same_numeral d.numerals e.numerals
      (row_fields d.rows ++ (definition_fields d.bodies ++ x.rest)) (row_fields e.rows ++ (definition_fields e.bodies ++ y.rest))
      x.fits.numerals y.fits.numerals
      (no_number d.numerals d.rows d.bodies x.rest o x.stop) (no_number e.numerals e.rows e.bodies y.rest other y.stop)
      (sym (apart d x.rest) ∙ sym x.cut ∙ y.cut ∙ apart e y.rest) in
      let under : List (Numeral K) → Limits = λ zs. limits_of kind patterns (map (λ n. n.value) zs) in
      let back : e.numerals ≡ d.numerals = sym ns.0 in
      let rs = run_once 2 row_bytes (RowFits room (under d.numerals)) (same_row (under d.numerals)) d.rows e.rows
      (definition_fields d.bodies ++ x.rest) (definition_fields e.bodies ++ y.rest)
      x.fits.rows (subst (λ zs. Each (RowFits room (under zs)) 0 e.rows) back y.fits.rows)
      (no_row d.numerals d.rows d.bodies x.rest o x.stop)
      (subst (λ zs. Stuck 2 row_bytes (RowFits room (under zs)) (length e.rows) (definition_fields e.bodies ++ y.rest)) back
      (no_row e.numerals e.rows e.bodies y.rest other y.stop))
      ns.1 in
      let again : e.rows ≡ d.rows = sym rs.0 in
      let bs = run_once 3 body_bytes (BodyFits room (length d.rows)) (same_body (length d.rows)) d.bodies e.bodies x.rest y.rest
      x.fits.bodies (subst (λ rows. Each (BodyFits room (length rows)) 0 e.bodies) again y.fits.bodies)
      (no_body d.numerals d.rows d.bodies x.rest o x.stop)
      (subst (λ rows. Stuck 3 body_bytes (BodyFits room (length rows)) (length e.bodies) y.rest) again
      (no_body e.numerals e.rows e.bodies y.rest other y.stop))
      rs.1 in
      let same : e ≡ d = same_draft e d back again (sym bs.0) in
      same_stop d x.rest o other x.stop
      (subst (λ rest. Stops kind patterns room d rest other) (sym bs.1) (subst (λ z. Stops kind patterns room z y.rest other) same y.stop))

  pub only_outcome : (bytes : List ℕ) (o other : Result (Draft K) BookFault) → ComesTo kind patterns room bytes o → ComesTo kind patterns room bytes other → other ≡ o
  only_outcome bytes o other a b =
      ⊎_elim
      (λ (long : 65535 < length bytes). b.0 long ∙ sym (a.0 long))
      (λ (short : length bytes ≤ 65535). same_outcome bytes o other (a.1 short) (b.1 short))
      (cases_lt 65535 (length bytes))
