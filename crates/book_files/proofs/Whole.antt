-- A file that is read to its end is that of a sealed book, and the other way round.
use Rattle.std.proofs.Common.{◌≡◌, ℕ, ◌+◌, ◌-◌, ◌*◌, ◌<◌, ◌≤◌, true, false, not, eqb, List, [], ◌∷◌, ◌++◌, length, take, replicate, is_err, Ok, Err, Result, sym, refl, ap, ◌∙◌, subst, inl, inr, ⊎_elim, arith, length-append}
use Rattle.std.proofs.lemmas.List.{append-nil, take_at, get_or_default, length-map}
use Rattle.std.proofs.lemmas.Bool.{cases_lt, eqb-false, ne_eqb, not-true, not_from_false}
use Rattle.std.specs.Result.{result_and}
use Rattle.std.specs.List.{AllByRecursion}
use Rattle.numbers.specs.Kinds.{Kind}
use Rattle.kinds.specs.Causes.{outcome}
use Rattle.rules.specs.Book.{limits_of, reach, row_at, Guarded, Sealed}
use Rattle.rules.specs.declared.row.Row.TheVariants.{False}
use Rattle.rows.specs.Rows.{row_bytes}
use Rattle.books.specs.Sealing.{plain_test, ComesTo as ComesTested}
use Rattle.books.specs.Tests.{Tested, passes, ask, variable_test, first_refused}
use Rattle.books.specs.declared.fault.BookFault.{BookFault}
use Rattle.books.specs.declared.fault.BookFault.TheVariants.{FileTooLong, NoDefinition}
use Rattle.books.proofs.Keeping.{Kept, both_pass, pass_both, asked, asks, refused_passes, each, all, call_from, call_back, kept_back, kept_sealed}
use Rattle.book_files.specs.declared.reading.BookCounts.{BookCounts}
use Rattle.book_files.specs.Drafts.{Numeral, Draft, Memory, room_of, number_fields, row_fields, definition_fields, file, row_place, numbers, book, body_bytes}
use Rattle.book_files.specs.Files.{Each, limits, NumberFits, RowFits, BodyFits, Fits, end_test, Stops, ComesTo, IsFile, Erased, Reads, Granted}
use Rattle.book_files.specs.Filling.{AllRead, end_of, TestsEnd, GrantedRead, ReadsWhole}
use Rattle.book_files.proofs.Runs.{each_at, each_by, each_few, fields_length}
use Rattle.book_files.proofs.Once.{only_outcome}

module _ {K : Type 0} (kind : Kind K) (patterns : ℕ) where
  -- the fields of rows and definitions have their lengths
  pub file_length : (draft : Draft K) → length (file draft) ≡ length (number_fields draft.numerals) + (13 * length draft.rows + 5 * length draft.bodies)
  file_length draft =
      length-append (number_fields draft.numerals) (row_fields draft.rows ++ definition_fields draft.bodies)
      ∙ ap (λ n. length (number_fields draft.numerals) + n) (length-append (row_fields draft.rows) (definition_fields draft.bodies)
      ∙ omega (arith, fields_length 2 row_bytes 10 (λ row. refl) draft.rows, fields_length 3 body_bytes 2 (λ b. refl) draft.bodies))

  -- the test of the end, by the size of the file
  pub ends_alike : (draft : Draft K) → end_of (length (file draft)) draft.rows draft.bodies ≡ end_test draft
  ends_alike draft =
      let long = file_length draft in
      let from : length (file draft) - 13 * length draft.rows - 5 * length draft.bodies ≡ length (number_fields draft.numerals) = omega arith in
      ap (λ p. result_and (ask (not (eqb (length draft.bodies) 0)) (NoDefinition (length (file draft)))) (first_refused (λ r row. variable_test (length draft.bodies) (p + 13 * r) row) 0 draft.rows)) from

  module _ (before : Memory K) where
    -- what passes field by field and at the end keeps the rules of a sealed book but the guard
    kept : (draft : Draft K) → Fits kind patterns (room_of before) draft → end_test draft ≡ passes → Kept (limits kind patterns draft) (book draft)
    kept draft fits pass =
        let d = length draft.bodies in
        let ends = both_pass (ask (not (eqb d 0)) _) _ pass in
        let some : d ≡ 0 → ⊥ = eqb-false d 0 (not-true (eqb d 0) (asked (not (eqb d 0)) _ ends.0)) in
        let row = λ (r : ℕ) (lt : r < length draft.rows). each_at (RowFits (room_of before) (limits kind patterns draft)) draft.rows fits.rows r False lt in
        let n_few = each_few (NumberFits kind (room_of before)) _ (λ n x p. p.0) draft.numerals fits.numerals in
        let r_few = each_few (RowFits (room_of before) (limits kind patterns draft)) _ (λ n x p. p.0) draft.rows fits.rows in
        let b_few = each_few (BodyFits (room_of before) (length draft.rows)) _ (λ n x p. p.0) draft.bodies fits.bodies in
        record {
          few_rows = omega arith;
          few_numbers = omega (arith, length-map draft.numerals (λ z. z.value));
          some_definition = omega (arith, some);
          few_definitions = omega arith;
          allowed = λ r lt. (row r lt).1;
          lower = λ r lt. (row r lt).2;
          defined = λ r lt. call_from d (row_place draft r) (reach (row_at (book draft) r)) (each (λ i x. variable_test d (row_place draft i) x) draft.rows ends.1 r False lt);
          bodies = λ v lt. (each_at (BodyFits (room_of before) (length draft.rows)) draft.bodies fits.bodies v 0 lt).1;
        }

    sealed_draft : (draft : Draft K) → Fits kind patterns (room_of before) draft → end_test draft ≡ passes → Guarded (book draft) →
        Sealed (limits kind patterns draft) (book draft)
    sealed_draft draft fits pass guarded = kept_sealed (limits kind patterns draft) (book draft) (kept draft fits pass) guarded

    all_from_each : (numerals : List (Numeral K)) (n : ℕ) → Each (NumberFits kind (room_of before)) n numerals → AllByRecursion (λ z. outcome kind z.token ≡ Ok z.value) numerals
    all_from_each [] n each = tt
    all_from_each (z ∷ numerals) n each = (each.0.1, all_from_each numerals (n + 1) each.1)

    -- the bytes of a draft that passes at its end are a file
    is_file : (bytes : List ℕ) (draft : Draft K) → length bytes ≤ 65535 → bytes ≡ file draft → Fits kind patterns (room_of before) draft →
        end_test draft ≡ passes → Guarded (book draft) → IsFile kind patterns (room_of before) bytes draft
    is_file bytes draft short written fits pass guarded = record {
      short = short;
      written = written;
      read = all_from_each draft.numerals 0 fits.numerals;
      numbers_fit = each_few (NumberFits kind (room_of before)) _ (λ n x p. p.0) draft.numerals fits.numerals;
      rows_fit = each_few (RowFits (room_of before) (limits kind patterns draft)) _ (λ n x p. p.0) draft.rows fits.rows;
      bodies_fit = each_few (BodyFits (room_of before) (length draft.rows)) _ (λ n x p. p.0) draft.bodies fits.bodies;
      sealed = sealed_draft draft fits pass guarded;
    }

    each_from_all : (numerals : List (Numeral K)) (n : ℕ) → n + length numerals ≤ (room_of before).numbers → AllByRecursion (λ z. outcome kind z.token ≡ Ok z.value) numerals →
        Each (NumberFits kind (room_of before)) n numerals
    each_from_all [] n few all_read = tt
    each_from_all (z ∷ numerals) n few all_read = ((omega arith, all_read.0), each_from_all numerals (n + 1) (omega arith) all_read.1)

    -- a file comes to what it is the file of
    file_comes : (bytes : List ℕ) (draft : Draft K) → IsFile kind patterns (room_of before) bytes draft → ComesTo kind patterns (room_of before) bytes (Ok draft)
    file_comes bytes draft file_is =
        let d = length draft.bodies in
        let s = file_is.sealed in (
          λ long. absurd (omega (arith, file_is.short)),
          λ short. record {
            draft = draft;
            rest = [];
            cut = file_is.written ∙ sym (append-nil (file draft));
            fits = record {
              numerals = each_from_all draft.numerals 0 (omega (arith, file_is.numbers_fit)) file_is.read;
              rows = each_by (RowFits (room_of before) (limits kind patterns draft)) draft.rows (λ r x lt.
                  subst (RowFits (room_of before) (limits kind patterns draft) r) (get_or_default draft.rows r False x lt)
                  (omega (arith, file_is.rows_fit), s.allowed r lt, s.lower r lt));
              bodies = each_by (BodyFits (room_of before) (length draft.rows)) draft.bodies (λ v x lt.
                  subst (BodyFits (room_of before) (length draft.rows) v) (get_or_default draft.bodies v 0 x lt)
                  (omega (arith, file_is.bodies_fit), s.bodies v lt));
            };
            stop = (
              refl,
              (
                refl,
                pass_both (ask (not (eqb d 0)) _) _ (asks (not (eqb d 0)) _ (not_from_false (eqb d 0) (ne_eqb d 0 (λ z. omega (arith, s.some_definition)))))
                    (all (λ r x. variable_test d (row_place draft r) x) draft.rows (λ r x lt.
                    subst (λ row. variable_test d (row_place draft r) row ≡ passes) (get_or_default draft.rows r False x lt)
                    (call_back d (row_place draft r) (reach (row_at (book draft) r)) (s.defined r lt)))),
                s.guarded,
              ),
            );
          },
        )

    module _ (bytes : List ℕ) (after : Memory K) where
      -- what stands in front of the memories is the draft
      pub fronts : (counts : BookCounts) → (a : AllRead kind patterns bytes before after counts) →
          (take counts.numbers after.numbers ≡ numbers a.draft) × (take counts.rows after.rows ≡ a.draft.rows) × (take counts.definitions after.definitions ≡ a.draft.bodies)
      fronts counts a =
          let d = a.draft in (
            ap (take counts.numbers) a.filled.0 ∙ take_at (numbers d) _ counts.numbers (length-map d.numerals (λ z. z.value) ∙ sym (ap (λ k. k.numbers) a.counted)),
            ap (take counts.rows) a.filled.1 ∙ take_at d.rows _ counts.rows (sym (ap (λ k. k.rows) a.counted)),
            ap (take counts.definitions) a.filled.2 ∙ take_at d.bodies _ counts.definitions (sym (ap (λ k. k.definitions) a.counted)),
          )

      -- so much of the memories is filled, and the fields of rows and definitions lie within the file
      pub within : (counts : BookCounts) → AllRead kind patterns bytes before after counts →
          (counts.numbers ≤ length after.numbers) × (counts.rows ≤ length after.rows) × (counts.definitions ≤ length after.definitions) × (13 * counts.rows + 5 * counts.definitions ≤ length bytes)
      within counts a =
          let d = a.draft in
          let long = ap length a.written ∙ file_length d in
          let n = ap (λ k. k.numbers) a.counted in
          let r = ap (λ k. k.rows) a.counted in
          let b = ap (λ k. k.definitions) a.counted in (
            omega (arith, n, ap length a.filled.0 ∙ length-append (numbers d) _, length-map d.numerals (λ z. z.value)),
            omega (arith, r, ap length a.filled.1 ∙ length-append d.rows _),
            omega (arith, b, ap length a.filled.2 ∙ length-append d.bodies _),
            omega (arith, long, r, b),
          )

      -- the test of the end, on what stands in the memories, is that of the draft
      abbrev pub Ended : BookCounts → Tested → Type 0
      Ended counts r = TestsEnd (limits_of kind patterns (take counts.numbers after.numbers)) (length bytes) (take counts.rows after.rows) (take counts.definitions after.definitions) r

      of_draft : (counts : BookCounts) (r : Tested) (a : AllRead kind patterns bytes before after counts) → Ended counts r →
          TestsEnd (limits kind patterns a.draft) (length (file a.draft)) a.draft.rows a.draft.bodies r
      of_draft counts r a ended =
          let f = fronts counts a in
          subst (λ z. TestsEnd (limits kind patterns a.draft) (length z) a.draft.rows a.draft.bodies r) a.written
          (subst (λ z. TestsEnd (limits kind patterns a.draft) (length bytes) a.draft.rows z r) f.2
          (subst (λ z. TestsEnd (limits kind patterns a.draft) (length bytes) z (take counts.definitions after.definitions) r) f.1
          (subst (λ z. TestsEnd (limits_of kind patterns z) (length bytes) (take counts.rows after.rows) (take counts.definitions after.definitions) r) f.0 ended)))

      stops_at : (o : Result (Draft K) BookFault) (counts : BookCounts) → length bytes ≤ 65535 → (a : AllRead kind patterns bytes before after counts) →
          Stops kind patterns (room_of before) a.draft [] o → ComesTo kind patterns (room_of before) bytes o
      stops_at o counts short a stop = (
        λ long. absurd (omega arith),
        λ _. record { draft = a.draft; rest = []; cut = a.written ∙ sym (append-nil (file a.draft)); fits = a.fits; stop = stop },
      )

      -- a file whose fields are read and that passes at its end is read
      pub whole_read : (counts : BookCounts) (u : Unit {0}) → length bytes ≤ 65535 → AllRead kind patterns bytes before after counts → Ended counts (Ok u) →
          GrantedRead kind patterns bytes before after counts
      whole_read counts u short a ended =
          let e = of_draft counts (Ok u) a ended in
          record {
            draft = a.draft;
            comes = stops_at (Ok a.draft) counts short a (refl, (refl, sym (ends_alike a.draft) ∙ e.0, e.1.1));
            counted = a.counted;
            filled = a.filled;
          }

      -- and one that does not pass is refused by what refuses it there
      pub whole_refused : (counts : BookCounts) (e : BookFault) → length bytes ≤ 65535 → AllRead kind patterns bytes before after counts → Ended counts (Err e) →
          ComesTo kind patterns (room_of before) bytes (Err e)
      whole_refused counts e short a ended =
          let pass = ends_alike a.draft in
          stops_at (Err e) counts short a (inl (
            refl,
            ⊎_elim
                (λ (t : end_of (length (file a.draft)) a.draft.rows a.draft.bodies ≡ Err e). inl (sym pass ∙ t))
                (λ (t : (end_of (length (file a.draft)) a.draft.rows a.draft.bodies ≡ passes) × ComesTested (limits kind patterns a.draft) (book a.draft) (Err e)).
                ⊎_elim
                (λ (p : plain_test (limits kind patterns a.draft) (book a.draft) ≡ Err e).
                refused_passes e (sym p ∙ kept_back (limits kind patterns a.draft) (book a.draft) (kept a.draft a.fits (sym pass ∙ t.0))))
                (λ p. inr (sym pass ∙ t.0, p.1))
                t.1)
                (of_draft counts (Err e) a ended),
          ))

      -- what is read is told, and left
      pub read_tells : (counts : BookCounts) → GrantedRead kind patterns bytes before after counts → Reads kind patterns bytes before after (Ok counts)
      read_tells counts a = record {
        outcome = Ok a.draft;
        comes = a.comes;
        only = λ other h. only_outcome kind patterns (room_of before) bytes (Ok a.draft) other a.comes h;
        leaves = (ap Ok a.counted, a.filled);
      }

      pub refusal_tells : (e : BookFault) → ComesTo kind patterns (room_of before) bytes (Err e) → Erased kind before after → Reads kind patterns bytes before after (Err e)
      refusal_tells e comes erased = record {
        outcome = Err e;
        comes = comes;
        only = λ other h. only_outcome kind patterns (room_of before) bytes (Err e) other comes h;
        leaves = (refl, erased);
      }

    -- what comes to a draft is its file
    pub comes_file : (bytes : List ℕ) (draft : Draft K) → ComesTo kind patterns (room_of before) bytes (Ok draft) → IsFile kind patterns (room_of before) bytes draft
    comes_file bytes draft comes =
        ⊎_elim
        (λ (long : 65535 < length bytes). let same : Ok draft ≡ Err FileTooLong = comes.0 long in let z : ◌≡◌ {A = ℕ} 0 1 = cc in absurd (omega arith))
        (λ (short : length bytes ≤ 65535).
        let x = comes.1 short in
        let end = x.stop.1 in
        subst (IsFile kind patterns (room_of before) bytes) (sym end.0)
        (is_file bytes x.draft short (x.cut ∙ ap (λ bs. file x.draft ++ bs) x.stop.0 ∙ append-nil (file x.draft)) x.fits end.1 end.2))
        (cases_lt 65535 (length bytes))

    pub granted_read : (bytes : List ℕ) (after : Memory K) (counts : BookCounts) → GrantedRead kind patterns bytes before after counts → Granted kind patterns (room_of before) bytes (Ok counts)
    granted_read bytes after counts a = (a.draft, comes_file bytes a.draft a.comes, a.counted)

    pub granted_not : (bytes : List ℕ) (e : BookFault) → ComesTo kind patterns (room_of before) bytes (Err e) → Granted kind patterns (room_of before) bytes (Err e)
    granted_not bytes e comes = λ draft file_is.
        let same : ◌≡◌ {A = Result (Draft K) BookFault} (Ok draft) (Err e) = only_outcome kind patterns (room_of before) bytes (Err e) (Ok draft) comes (file_comes bytes draft file_is) in
        let z : ◌≡◌ {A = ℕ} 0 1 = cc in omega arith

    -- the memory that is erased is as long as it was
    pub told_refused : (bytes : List ℕ) (mid after : Memory K) (r : Result BookCounts BookFault) → is_err r ≡ true → ReadsWhole kind patterns bytes before mid r →
        length mid.numbers ≡ length before.numbers → length mid.rows ≡ length before.rows → length mid.definitions ≡ length before.definitions → Erased kind mid after →
        Reads kind patterns bytes before after r × Granted kind patterns (room_of before) bytes r
    told_refused bytes mid after (Ok counts) err whole ln lr ld erased = let z : ◌≡◌ {A = ℕ} 0 1 = cc in absurd (omega arith)
    told_refused bytes mid after (Err e) err whole ln lr ld erased = (
      refusal_tells bytes after e whole
          (erased.0 ∙ ap (λ n. replicate n kind.zero) ln, erased.1 ∙ ap (λ n. replicate n False) lr, erased.2 ∙ ap (λ n. replicate n 0) ld),
      granted_not bytes e whole,
    )

    pub told_read : (bytes : List ℕ) (after : Memory K) (r : Result BookCounts BookFault) → is_err r ≡ false → ReadsWhole kind patterns bytes before after r →
        Reads kind patterns bytes before after r × Granted kind patterns (room_of before) bytes r
    told_read bytes after (Ok counts) ok whole = (read_tells bytes after counts whole, granted_read bytes after counts whole)
    told_read bytes after (Err e) ok whole = let z : ◌≡◌ {A = ℕ} 0 1 = cc in absurd (omega arith)
