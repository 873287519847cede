-- What has been read when some fields of a file are filled in, and how one more field adds to it.
use Rattle.std.proofs.Common.{◌≡◌, ℕ, ◌+◌, ◌-◌, ◌<◌, min, Bool, true, false, not, leb, List, [], ◌∷◌, ◌++◌, map, length, get_or, take, drop, Ok, Err, Result, sym, refl, ap, ◌∙◌, subst, inr, append_assoc, arith, length-append}
use Rattle.std.proofs.lemmas.List.{append-nil, length-map, map_push, get_or-append-add, nil_from_length}
use Rattle.std.proofs.lemmas.Bool.{not-true}
use Rattle.std.specs.Result.{result_and}
use Rattle.fields.specs.Fields.{field_bytes, tag_of, stated_length}
use Rattle.lists.specs.declared.lent.LentList.{LentList}
use Rattle.lists.specs.Lists.{values_of, memory_of, Lent}
use Rattle.numbers.specs.Kinds.{Kind}
use Rattle.rules.specs.Book.{limits_of}
use Rattle.rules.specs.declared.row.Row.{Row}
use Rattle.rows.specs.Rows.{row_bytes}
use Rattle.rows.proofs.Back.{bytes_are}
use Rattle.books.specs.Tests.{passes, ask}
use Rattle.books.specs.declared.fault.BookFault.{BookFault}
use Rattle.books.proofs.Keeping.{both_pass, asked, row_passes}
use Rattle.book_fields.specs.declared.field.BookField.{BookField}
use Rattle.book_fields.specs.Fields.{field_test, is_misplaced, tag_number, TakesField, Cuts}
use Rattle.book_fields.specs.Items.{if_room, number_from, row_from, definition_from, Puts}
use Rattle.book_files.specs.Drafts.{Numeral, Draft, drafted, Memory, room_of, number_fields, row_fields, definition_fields, file, numbers, body_bytes}
use Rattle.book_files.specs.Files.{last_tag, limits, NumberFits, RowFits, BodyFits, Fits, next_test, body_test, ReadsTo}
use Rattle.book_files.specs.Filling.{AllRead}
use Rattle.book_files.proofs.Runs.{each_more, fields_push}
use Rattle.book_files.proofs.Slots.{Stands, full, one_more, count_is, full_is, space, memory_is}
use Rattle.book_files.proofs.Items.{told_once, number_read, row_read, definition_read, named_bytes, part_small}

-- the lists that a book is read into
pub record Lists (K : Type 0) : Type 0 where
  pub numbers : LentList K
  pub rows : LentList Row
  pub definitions : LentList ℕ

abbrev pub lists : {K : Type 0} → LentList K → LentList Row → LentList ℕ → Lists K
lists numbers rows definitions = record { numbers = numbers; rows = rows; definitions = definitions }

last_row : (rows : List Row) (x : Row) → 2 ≡ last_tag (rows ++ x ∷ []) []
last_row [] x = refl
last_row (row ∷ rows) x = refl

last_body : (rows : List Row) (bodies : List ℕ) (x : ℕ) → 3 ≡ last_tag rows (bodies ++ x ∷ [])
last_body rows [] x = refl
last_body rows (body ∷ bodies) x = refl

misplaced : {X : Type 0} → ◌≡◌ {A = Bool} true false → X
misplaced h = let z : ◌≡◌ {A = ℕ} 0 1 = cc in absurd (omega arith)

-- one field more in the cut
next_cut : (bytes front whole : List ℕ) (tag : ℕ) (body rest after : List ℕ) → bytes ≡ front ++ rest → rest ≡ field_bytes tag body ++ after →
    whole ≡ front ++ field_bytes tag body → bytes ≡ whole ++ after
next_cut bytes front whole tag body rest after cut here is =
    cut ∙ ap (λ xs. front ++ xs) here ∙ sym (append_assoc front (field_bytes tag body) after) ∙ ap (λ xs. xs ++ after) (sym is)

module _ {K : Type 0} (kind : Kind K) (patterns : ℕ) (bytes : List ℕ) (before : Memory K) (first : Lists K) where
  -- some fields are filled in, and the file goes on behind them
  pub record BegunAt (now : Lists K) (last : ℕ) (rest : List ℕ) (draft : Draft K) : Type 0 where
    pub cut : bytes ≡ file draft ++ rest
    pub fits : Fits kind patterns (room_of before) draft
    pub tagged : last ≡ last_tag draft.rows draft.bodies
    pub numbers : Stands before.numbers 1024 first.numbers now.numbers (numbers draft)
    pub rows : Stands before.rows 2048 first.rows now.rows draft.rows
    pub bodies : Stands before.definitions 128 first.definitions now.definitions draft.bodies

  -- what has been read, whatever it is
  abbrev pub Begun : Lists K → (last : ℕ) (rest : List ℕ) → Type 0
  Begun now last rest = (draft : Draft K) × BegunAt now last rest draft

-- where the rest of the file stands
abbrev at : (bytes rest : List ℕ) → ℕ
at bytes rest = length bytes - length rest

module _ {K : Type 0} {kind : Kind K} {patterns : ℕ} {bytes : List ℕ} {before : Memory K} {first : Lists K} where
  pub nothing_yet : Stands before.numbers 1024 first.numbers first.numbers [] → Stands before.rows 2048 first.rows first.rows [] →
      Stands before.definitions 128 first.definitions first.definitions [] → Begun kind patterns bytes before first first 1 bytes
  nothing_yet numbers rows bodies = (
    drafted [] [] [],
    record {
      cut = refl;
      fits = record { numerals = tt; rows = tt; bodies = tt };
      tagged = refl;
      numbers = numbers;
      rows = rows;
      bodies = bodies;
    },
  )

  module _ {now : Lists K} {last : ℕ} {rest : List ℕ} where
    place_is : (draft : Draft K) → BegunAt kind patterns bytes before first now last rest draft → (at bytes rest) ≡ length (file draft)
    place_is draft begun = omega (arith, ap length begun.cut, length-append (file draft) rest)

    grow_number : (numerals : List (Numeral K)) (rows : List Row) (bodies : List ℕ) → BegunAt kind patterns bytes before first now last rest (drafted numerals rows bodies) →
        (body after : List ℕ) (x : K) (list : LentList K) → rest ≡ field_bytes 1 body ++ after → is_misplaced (last_tag rows bodies) 1 ≡ false →
        number_from kind (full now.numbers) (at bytes rest) body ≡ Ok x → Stands before.numbers 1024 first.numbers list (map (λ z. z.value) numerals ++ x ∷ []) →
        BegunAt kind patterns bytes before first (lists list now.rows now.definitions) 1 after (drafted (numerals ++ record { token = body; value = x } ∷ []) [] [])
    grow_number numerals [] [] begun body after x list here placed read more =
        let numeral : Numeral K = record { token = body; value = x } in
        let values = map (λ z. z.value) numerals in
        let says = number_read kind _ (at bytes rest) body x read in
        let fits = subst (λ n. n < min (length before.numbers) 1024) (length-map numerals (λ z. z.value)) (space begun.numbers says.0) in
        let whole : file (drafted (numerals ++ numeral ∷ []) [] []) ≡ file (drafted numerals [] []) ++ field_bytes 1 body =
        append-nil (number_fields (numerals ++ numeral ∷ [])) ∙ fields_push 1 (λ z. z.token) numerals numeral ∙ ap (λ xs. xs ++ field_bytes 1 body) (sym (append-nil (number_fields numerals))) in
        record {
          cut = next_cut bytes (file (drafted numerals [] [])) (file (drafted (numerals ++ numeral ∷ []) [] [])) 1 body rest after begun.cut here whole;
          fits = record {
            numerals = each_more (NumberFits kind (room_of before)) numerals numeral begun.fits.numerals (fits, says.1);
            rows = tt;
            bodies = tt;
          };
          tagged = refl;
          numbers = subst (λ vs. Stands before.numbers 1024 first.numbers list vs) (sym (map_push (λ z. z.value) numerals numeral)) more;
          rows = begun.rows;
          bodies = begun.bodies;
        }
    grow_number numerals (row ∷ rows) [] begun body after x list here placed read more = misplaced placed
    grow_number numerals rows (b ∷ bodies) begun body after x list here placed read more = misplaced placed

    grow_row : (numerals : List (Numeral K)) (rows : List Row) (bodies : List ℕ) → BegunAt kind patterns bytes before first now last rest (drafted numerals rows bodies) →
        (body after : List ℕ) (x : Row) (list : LentList Row) → rest ≡ field_bytes 2 body ++ after → ((i : ℕ) → get_or body i 0 < 256) → is_misplaced (last_tag rows bodies) 2 ≡ false →
        row_from (limits_of kind patterns (map (λ z. z.value) numerals)) (full now.rows) (length rows) (at bytes rest) body ≡ Ok x → Stands before.rows 2048 first.rows list (rows ++ x ∷ []) →
        BegunAt kind patterns bytes before first (lists now.numbers list now.definitions) 2 after (drafted numerals (rows ++ x ∷ []) [])
    grow_row numerals rows [] begun body after x list here small placed read more =
        let within = limits_of kind patterns (map (λ z. z.value) numerals) in
        let says = row_read within _ (length rows) (at bytes rest) body x read in
        let kept = row_passes within (length rows) (at bytes rest) x says.2 in
        let fits = space begun.rows says.0 in
        let ns = number_fields numerals in
        let whole : file (drafted numerals (rows ++ x ∷ []) []) ≡ file (drafted numerals rows []) ++ field_bytes 2 body =
        ap (λ bs. ns ++ bs) (append-nil (row_fields (rows ++ x ∷ [])) ∙ fields_push 2 row_bytes rows x ∙ ap (λ b. row_fields rows ++ field_bytes 2 b) (sym (bytes_are body x small says.1))
        ∙ ap (λ xs. xs ++ field_bytes 2 body) (sym (append-nil (row_fields rows)))) ∙ sym (append_assoc ns (row_fields rows ++ []) (field_bytes 2 body)) in
        record {
          cut = next_cut bytes (file (drafted numerals rows [])) (file (drafted numerals (rows ++ x ∷ []) [])) 2 body rest after begun.cut here whole;
          fits = record {
            numerals = begun.fits.numerals;
            rows = each_more (RowFits (room_of before) within) rows x begun.fits.rows (fits, kept.0, kept.1);
            bodies = tt;
          };
          tagged = last_row rows x;
          numbers = begun.numbers;
          rows = more;
          bodies = begun.bodies;
        }
    grow_row numerals rows (b ∷ bodies) begun body after x list here small placed read more = misplaced placed

    grow_body : (numerals : List (Numeral K)) (rows : List Row) (bodies : List ℕ) → BegunAt kind patterns bytes before first now last rest (drafted numerals rows bodies) →
        (body after : List ℕ) (x : ℕ) (list : LentList ℕ) → rest ≡ field_bytes 3 body ++ after → ((i : ℕ) → get_or body i 0 < 256) →
        definition_from (full now.definitions) (at bytes rest) (length rows) body ≡ Ok x → Stands before.definitions 128 first.definitions list (bodies ++ x ∷ []) →
        BegunAt kind patterns bytes before first (lists now.numbers now.rows list) 3 after (drafted numerals rows (bodies ++ x ∷ []))
    grow_body numerals rows bodies begun body after x list here small read more =
        let says = definition_read _ (at bytes rest) (length rows) body x read in
        let fits = space begun.bodies says.0 in
        let ns = number_fields numerals in
        let rs = row_fields rows in
        let whole : file (drafted numerals rows (bodies ++ x ∷ [])) ≡ file (drafted numerals rows bodies) ++ field_bytes 3 body =
        ap (λ bs. ns ++ (rs ++ bs)) (fields_push 3 body_bytes bodies x ∙ ap (λ b. definition_fields bodies ++ field_bytes 3 b) (sym (named_bytes body x says.1 small says.3)))
        ∙ ap (λ bs. ns ++ bs) (sym (append_assoc rs (definition_fields bodies) (field_bytes 3 body))) ∙ sym (append_assoc ns (rs ++ definition_fields bodies) (field_bytes 3 body)) in
        record {
          cut = next_cut bytes (file (drafted numerals rows bodies)) (file (drafted numerals rows (bodies ++ x ∷ []))) 3 body rest after begun.cut here whole;
          fits = record {
            numerals = begun.fits.numerals;
            rows = begun.fits.rows;
            bodies = each_more (BodyFits (room_of before) (length rows)) bodies x begun.fits.bodies (fits, says.2);
          };
          tagged = last_body rows bodies x;
          numbers = begun.numbers;
          rows = begun.rows;
          bodies = more;
        }

    -- the file is (at bytes rest) its end
    pub all_filled : Begun kind patterns bytes before first now last rest → length rest ≡ 0 → (n r d : ℕ) → n ≡ length (values_of now.numbers) → r ≡ length (values_of now.rows) → d ≡ length (values_of now.definitions) →
        (after : Memory K) → after.numbers ≡ memory_of now.numbers → after.rows ≡ memory_of now.rows → after.definitions ≡ memory_of now.definitions →
        AllRead kind patterns bytes before after (record { numbers = n; rows = r; definitions = d })
    all_filled (draft, begun) end n r d en er ed after mn mr md =
        let values : length (numbers draft) ≡ length draft.numerals = length-map draft.numerals (λ z. z.value) in
        let count : n ≡ length draft.numerals = en ∙ count_is begun.numbers ∙ values in
        record {
          draft = draft;
          written = begun.cut ∙ ap (λ xs. file draft ++ xs) (nil_from_length rest end) ∙ append-nil (file draft);
          fits = begun.fits;
          counted = rw (
            count,
            er ∙ count_is begun.rows,
            ed ∙ count_is begun.bodies,
          ) refl;
          filled = (
            mn ∙ memory_is begun.numbers ∙ ap (λ k. numbers draft ++ drop k before.numbers) values,
            mr ∙ memory_is begun.rows,
            md ∙ memory_is begun.bodies,
          );
        }

    stops_here : (e : BookFault) (draft : Draft K) → BegunAt kind patterns bytes before first now last rest draft → 0 < length rest → next_test kind patterns (room_of before) draft rest ≡ Err e →
        ReadsTo kind patterns (room_of before) bytes (Err e)
    stops_here e draft begun more why =
        record { draft = draft; rest = rest; cut = begun.cut; fits = begun.fits; stop = inr (more, why) }

    -- the field's own test, by what has been read
    tested_as : (o : Result (Unit {0}) BookFault) (draft : Draft K) → BegunAt kind patterns bytes before first now last rest draft → field_test last (at bytes rest) rest ≡ o →
        field_test (last_tag draft.rows draft.bodies) (length (file draft)) rest ≡ o
    tested_as o draft begun why =
        subst (λ p. field_test (last_tag draft.rows draft.bodies) p rest ≡ o) (place_is draft begun) (subst (λ t. field_test t (at bytes rest) rest ≡ o) begun.tagged why)

    -- the next field is refused for itself
    pub field_refused : Begun kind patterns bytes before first now last rest → (e : BookFault) → 0 < length rest → field_test last (at bytes rest) rest ≡ Err e → ReadsTo kind patterns (room_of before) bytes (Err e)
    field_refused (draft, begun) e more why =
        stops_here e draft begun more (ap (λ t. result_and t (body_test kind patterns (room_of before) draft (length (file draft)) (tag_of rest) (take (stated_length rest) (drop 3 rest))))
        (tested_as (Err e) draft begun why))

    -- a field was taken
    module _ (begun : Begun kind patterns bytes before first now last rest) (more : 0 < length rest) (f : BookField) (takes : TakesField last (at bytes rest) rest (Ok f)) (cuts : Cuts rest (Ok f)) where
      -- of this tag
      module _ (tag : ℕ) (is : tag_number f.tag ≡ tag) where
        here : rest ≡ field_bytes tag f.body.now ++ f.rest.now
        here = subst (λ t. rest ≡ field_bytes t f.body.now ++ f.rest.now) is cuts

        placed : is_misplaced last tag ≡ false
        placed =
            let a = both_pass (ask (leb 3 (length rest)) _) _ takes.0 in
            let b = both_pass (ask (not (is_misplaced last (tag_of rest))) _) _ a.1 in
            subst (λ t. is_misplaced last t ≡ false) (sym takes.1 ∙ is) (not-true (is_misplaced last (tag_of rest)) (asked (not (is_misplaced last (tag_of rest))) _ b.0))

        small_body : ((i : ℕ) → get_or bytes i 0 < 256) → (i : ℕ) → get_or f.body.now i 0 < 256
        small_body small i =
            let behind : (k : ℕ) → get_or rest k 0 < 256 =
            λ k. subst (λ x. x < 256) (ap (λ xs. get_or xs (length (file begun.0) + k) 0) begun.1.cut ∙ get_or-append-add (file begun.0) rest k 0) (small (length (file begun.0) + k)) in
            subst (λ bs. get_or bs i 0 < 256) (sym takes.2) (part_small rest (stated_length rest) 3 behind i)

        -- its body is refused
        body_refused : (e : BookFault) → body_test kind patterns (room_of before) begun.0 (at bytes rest) tag f.body.now ≡ Err e →
            ReadsTo kind patterns (room_of before) bytes (Err e)
        body_refused e why =
            let again : body_test kind patterns (room_of before) begun.0 (length (file begun.0)) (tag_of rest) (take (stated_length rest) (drop 3 rest)) ≡ Err e =
            rw (← place_is begun.0 begun.1, ← takes.1, ← takes.2, is) why in
            stops_here e begun.0 begun.1 more (ap (λ t. result_and t (body_test kind patterns (room_of before) begun.0 (length (file begun.0)) (tag_of rest) (take (stated_length rest) (drop 3 rest))))
            (tested_as passes begun.0 begun.1 takes.0) ∙ again)

      pub number_refused : (e : BookFault) → tag_number f.tag ≡ 1 →
          if_room (full now.numbers) (at bytes rest) (number_from kind (full now.numbers) (at bytes rest) f.body.now) ≡ Err e → ReadsTo kind patterns (room_of before) bytes (Err e)
      number_refused e is why =
          body_refused 1 is e
          (ap (λ t. result_and t passes) (subst (λ b. number_from kind b (at bytes rest) f.body.now ≡ Err e)
          (full_is begun.1.numbers
          ∙ ap (leb (min (length before.numbers) 1024)) (length-map begun.0.numerals (λ z. z.value))) (rw (told_once _ _ _) at why)))

      -- a row's test, by what has been read
      row_as : (o : Result Row BookFault) → row_from (limits_of kind patterns (values_of now.numbers)) (full now.rows) (length (values_of now.rows)) (at bytes rest) f.body.now ≡ o →
          row_from (limits kind patterns begun.0) (full now.rows) (length begun.0.rows) (at bytes rest) f.body.now ≡ o
      row_as o why =
          subst (λ k. row_from (limits kind patterns begun.0) (full now.rows) k (at bytes rest) f.body.now ≡ o) (count_is begun.1.rows)
          (subst (λ ns. row_from (limits_of kind patterns ns) (full now.rows) (length (values_of now.rows)) (at bytes rest) f.body.now ≡ o) begun.1.numbers.values_are why)

      pub row_refused : (e : BookFault) → tag_number f.tag ≡ 2 →
          if_room (full now.rows) (at bytes rest) (row_from (limits_of kind patterns (values_of now.numbers)) (full now.rows) (length (values_of now.rows)) (at bytes rest) f.body.now) ≡ Err e → ReadsTo kind patterns (room_of before) bytes (Err e)
      row_refused e is why =
          body_refused 2 is e
          (ap (λ t. result_and t passes) (subst (λ b. row_from (limits kind patterns begun.0) b (length begun.0.rows) (at bytes rest) f.body.now ≡ Err e)
          (full_is begun.1.rows) (row_as (Err e) (rw (told_once _ _ _) at why))))

      -- and a definition's
      body_as : (o : Result ℕ BookFault) → definition_from (full now.definitions) (at bytes rest) (length (values_of now.rows)) f.body.now ≡ o →
          definition_from (full now.definitions) (at bytes rest) (length begun.0.rows) f.body.now ≡ o
      body_as o why = subst (λ k. definition_from (full now.definitions) (at bytes rest) k f.body.now ≡ o) (count_is begun.1.rows) why

      pub definition_refused : (e : BookFault) → tag_number f.tag ≡ 3 →
          if_room (full now.definitions) (at bytes rest) (definition_from (full now.definitions) (at bytes rest) (length (values_of now.rows)) f.body.now) ≡ Err e → ReadsTo kind patterns (room_of before) bytes (Err e)
      definition_refused e is why =
          body_refused 3 is e
          (ap (λ t. result_and t passes) (subst (λ b. definition_from b (at bytes rest) (length begun.0.rows) f.body.now ≡ Err e)
          (full_is begun.1.bodies) (body_as (Err e) (rw (told_once _ _ _) at why))))

      -- what is held after a field: its item stands behind the others of its sort
      module _ (small : (i : ℕ) → get_or bytes i 0 < 256) (after : Lists K) where
        abbrev Next : Type 0
        Next = Begun kind patterns bytes before first after (tag_number f.tag) f.rest.now

        pub took_number : tag_number f.tag ≡ 1 → (list : LentList K) (u : Unit {0}) → Puts (if_room (full now.numbers) (at bytes rest) (number_from kind (full now.numbers) (at bytes rest) f.body.now)) now.numbers list (Ok u) → Lent now.numbers list →
            after ≡ lists list now.rows now.definitions → Next
        took_number is list u puts lent e =
            let d = begun.0 in
            rw (e, is) (
              _,
              grow_number d.numerals d.rows d.bodies begun.1 f.body.now f.rest.now puts.0 list (here 1 is)
                  (subst (λ t. is_misplaced t 1 ≡ false) begun.1.tagged (placed 1 is)) (rw (told_once _ _ _) at puts.1)
                  (one_more begun.1.numbers puts.0 list puts.2 puts.3 lent),
            )

        pub took_row : tag_number f.tag ≡ 2 → (list : LentList Row) (u : Unit {0}) →
            Puts (if_room (full now.rows) (at bytes rest) (row_from (limits_of kind patterns (values_of now.numbers)) (full now.rows) (length (values_of now.rows)) (at bytes rest) f.body.now)) now.rows list (Ok u) → Lent now.rows list →
            after ≡ lists now.numbers list now.definitions → Next
        took_row is list u puts lent e =
            let d = begun.0 in
            rw (e, is) (
              _,
              grow_row d.numerals d.rows d.bodies begun.1 f.body.now f.rest.now puts.0 list (here 2 is) (small_body 2 is small)
                  (subst (λ t. is_misplaced t 2 ≡ false) begun.1.tagged (placed 2 is)) (row_as (Ok puts.0) (rw (told_once _ _ _) at puts.1))
                  (one_more begun.1.rows puts.0 list puts.2 puts.3 lent),
            )

        pub took_definition : tag_number f.tag ≡ 3 → (list : LentList ℕ) (u : Unit {0}) →
            Puts (if_room (full now.definitions) (at bytes rest) (definition_from (full now.definitions) (at bytes rest) (length (values_of now.rows)) f.body.now)) now.definitions list (Ok u) → Lent now.definitions list →
            after ≡ lists now.numbers now.rows list → Next
        took_definition is list u puts lent e =
            let d = begun.0 in
            rw (e, is) (
              _,
              grow_body d.numerals d.rows d.bodies begun.1 f.body.now f.rest.now puts.0 list (here 3 is) (small_body 3 is small)
                  (body_as (Ok puts.0) (rw (told_once _ _ _) at puts.1))
                  (one_more begun.1.bodies puts.0 list puts.2 puts.3 lent),
            )

      -- the rest behind the field is shorter
      pub shorter : length f.rest.now < length rest
      shorter = omega (arith, ap length cuts, length-append (field_bytes (tag_number f.tag) f.body.now) f.rest.now)
