-- What has been read when some patterns of a file are filled in.
use Rattle.std.proofs.Common.{◌≡◌, ℕ, ◌+◌, ◌-◌, ◌<◌, ◌≤◌, Bool, false, leb, List, [], ◌∷◌, ◌++◌, length, take, drop, Some, None, Ok, Err, Result, sym, refl, ap, ◌∙◌, append_assoc, arith, length-append, length-drop}
use Rattle.fields.specs.Fields.{field_bytes, stated_length}
use Rattle.fields.specs.Parts.{part}
use Rattle.fields.specs.declared.part.Part.{Part}
use Rattle.std.proofs.lemmas.List.{append-nil, drop-drop, length_push, length-take-le, nil_from_length}
use Rattle.std.proofs.lemmas.Bool.{le-leb}
use Rattle.dialects.specs.declared.fault.PatternFault.{PatternFault}
use Rattle.dialects.specs.declared.fault.PatternFault.TheVariants.{TooMany}
use Rattle.dialects.specs.Files.{file, Short, places, room, refuses, Stops, Outcome}
use Rattle.dialects.specs.Reading.{Fills}
use Rattle.dialects.proofs.Rows.{good_from, good_cut, full_refused, file_push, short_push, places_push, length_places}

-- the memory holds the parts of the patterns so far, in front of what was there
pub record Begun (tag : ℕ) (bytes rest : List ℕ) (before parts spare : List Part) : Type 0 where
  pub patterns : List (List ℕ)
  pub cut : bytes ≡ file tag patterns ++ rest
  pub short : Short patterns
  pub fit : length patterns ≤ room before
  pub filled : parts ≡ places 0 patterns
  pub left : spare ≡ drop (length patterns) before

pub nothing_yet : (tag : ℕ) (bytes : List ℕ) (before parts spare : List Part) → parts ≡ [] → spare ≡ before → Begun tag bytes bytes before parts spare
nothing_yet tag bytes before parts spare none all =
    record { patterns = []; cut = refl; short = tt; fit = omega arith; filled = none; left = all }

-- the rest behind a field is shorter
pub shorter : (rest after : List ℕ) (n : ℕ) → after ≡ drop (3 + n) rest → 0 < length rest → length after < length rest
shorter rest after n is more = omega (arith, ap length is, length-drop (3 + n) rest)

module _ (tag : ℕ) (bytes rest : List ℕ) (before parts spare : List Part) (fits : length bytes ≤ 65535) (begun : Begun tag bytes rest before parts spare) where
  -- where the rest of the file stands
  place_is : length bytes - length rest ≡ length (file tag begun.patterns)
  place_is = omega (arith, ap length begun.cut, length-append (file tag begun.patterns) rest)

  count_is : length parts ≡ length begun.patterns
  count_is = ap length begun.filled ∙ length_places 0 begun.patterns

  -- One more pattern is filled in.
  pub one_more : (body after : List ℕ) (parts' spare' : List Part) → refuses tag false (length bytes - length rest) rest ≡ None →
      body ≡ take (stated_length rest) (drop 3 rest) → after ≡ drop (3 + stated_length rest) rest → length parts < room before →
      parts' ≡ parts ++ part (length bytes - length rest + 3) (length body) ∷ [] → spare' ≡ drop 1 spare → Begun tag bytes after before parts' spare'
  one_more body after parts' spare' none cut rest_is space more less =
      let ps = begun.patterns in
      let good = good_from tag (length bytes - length rest) rest none in
      let field : rest ≡ field_bytes tag body ++ after = good_cut tag rest good ∙ rw (← cut, ← rest_is) refl in
      let short : length body ≤ 255 = omega (arith, ap length cut, length-take-le (stated_length rest) (drop 3 rest) (simp length-drop (omega (arith, good.within))), good.short) in
      let start : 0 + length (file tag ps) + 3 ≡ length bytes - length rest + 3 = omega (arith, place_is) in
      record {
        patterns = ps ++ body ∷ [];
        cut = begun.cut ∙ ap (λ xs. file tag ps ++ xs) field ∙ sym (append_assoc (file tag ps) (field_bytes tag body) after) ∙ ap (λ xs. xs ++ after) (sym (file_push tag ps body));
        short = short_push ps body begun.short short;
        fit = omega (arith, length_push ps body, count_is);
        filled = more ∙ ap (λ xs. xs ++ part (length bytes - length rest + 3) (length body) ∷ []) begun.filled
            ∙ sym (places_push tag 0 ps body ∙ ap (λ k. places 0 ps ++ part k (length body) ∷ []) start);
        left = less ∙ ap (drop 1) begun.left ∙ drop-drop 1 (length ps) before ∙ ap (λ n. drop n before) (sym (length_push ps body));
      }

  -- The file is at its end: all its patterns are filled in.
  pub all_filled : (n : ℕ) (after : List Part) → length rest ≡ 0 → n ≡ length parts → after ≡ parts ++ spare → Fills tag bytes before after (Ok n)
  all_filled n after end counted whole =
      let count : n ≡ length begun.patterns = counted ∙ count_is in (
        fits,
        begun.patterns,
        begun.cut ∙ ap (λ xs. file tag begun.patterns ++ xs) (nil_from_length rest end) ∙ append-nil (file tag begun.patterns),
        begun.short,
        begun.fit,
        count,
        whole ∙ ap (λ xs. xs ++ spare) begun.filled ∙ ap (λ xs. places 0 begun.patterns ++ xs) (begun.left ∙ ap (λ k. drop k before) (sym count)),
      )

  stops : (e : PatternFault) → Stops tag (room before) (length begun.patterns) (length bytes - length rest) rest (Err e) → Outcome tag (room before) bytes (Err e)
  stops e stop = (
    (λ long. absurd (omega arith)),
    λ _.
        record { patterns = begun.patterns; rest = rest; cut = begun.cut; short = begun.short; fit = begun.fit; stop = rw (← place_is) stop },
  )

  -- A field is refused, or there is no room for its pattern.
  pub refused_here : (e : PatternFault) → 0 < length rest → ((full : Bool) → refuses tag full (length bytes - length rest) rest ≡ Some e) → Outcome tag (room before) bytes (Err e)
  refused_here e more why = stops e (more, why (leb (room before) (length begun.patterns)))

  pub full_here : (e : PatternFault) → 0 < length rest → refuses tag false (length bytes - length rest) rest ≡ None → room before ≤ length parts →
      ◌≡◌ {A = Result ℕ PatternFault} (Err e) (Err (TooMany (length bytes - length rest))) → Outcome tag (room before) bytes (Err e)
  full_here e more none full is =
      let same : TooMany (length bytes - length rest) ≡ e = cc in
      stops e
      (more, rw (le-leb (room before) (length begun.patterns) (omega (arith, count_is))) (full_refused tag (length bytes - length rest) rest none ∙ ap Some same))
