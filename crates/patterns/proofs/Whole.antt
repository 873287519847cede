-- What is printed, in terms of the patterns of the two files.
use Rattle.std.proofs.Common.{◌≡◌, ℕ, zero, suc, ◌+◌, ◌-◌, ◌*◌, ◌<◌, ◌≤◌, Bool, cond, List, [], ◌∷◌, ◌++◌, map, length, get_or, take, Ok, Err, Result, sym, refl, ap, ◌∙◌, ⊎_elim, arith, length-append}
use Rattle.fields.specs.Parts.{part, part_bytes}
use Rattle.fields.specs.declared.part.Part.{Part}
use Rattle.dialects.specs.Dialects.{answer, part_count, pattern_bytes, pair_count, pair_holds, name_holds, masked}
use Rattle.dialects.specs.Files.{file, Outcome, Only, After}
use Rattle.dialects.specs.Masks.{mask_holds}
use Rattle.dialects.specs.declared.fault.PatternFault.{PatternFault}
use Rattle.std.specs.List.{flat_map}
use Rattle.std.specs.Str.{bytes_eq}
use Rattle.std.proofs.lemmas.List.{length-map, get_or-map}
use Rattle.std.proofs.lemmas.Bool.{cases_lt, lt-ltb, le-ltb}
use Rattle.patterns.specs.Answers.{matches, side_by_side, Prints}
use Rattle.lines.specs.Lines.{lines}
use Rattle.patterns.specs.Report.{passing, line, report}

passing_same : (f g : ℕ → Bool) (n : ℕ) → ((k : ℕ) → k < n → f k ≡ g k) → passing f n ≡ passing g n
passing_same f g zero same = refl
passing_same f g (suc n) same =
    rw (same n (omega arith)) (ap (λ xs. xs ++ cond (g n) (n ∷ []) []) (passing_same f g n (λ k below. same k (omega arith))))

joined_same : (f g : List ℕ → List ℕ) (ls : List (List ℕ)) → ((l : List ℕ) → f l ≡ g l) → flat_map f ls ≡ flat_map g ls
joined_same f g [] same = refl
joined_same f g (l ∷ ls) same = rw (same l) (ap (λ xs. g l ++ xs) (joined_same f g ls same))

report_same : (n m : ℕ) (f g : ℕ → List ℕ → Bool) (input : List ℕ) → n ≡ m → ((k : ℕ) (text : List ℕ) → k < n → f k text ≡ g k text) → report n f input ≡ report m g input
report_same n m f g input e same =
    joined_same _ _ (lines input) (λ text. ap (line text) (passing_same (λ k. f k text) (λ k. g k text) n (λ k below. same k text below)))
    ∙ ap (λ c. report c g input) e

-- a pattern by its part
by_part : (bytes : List ℕ) (parts : List Part) (ps : List (List ℕ)) (k : ℕ) → map (part_bytes bytes) parts ≡ ps → k < length parts → pattern_bytes bytes parts k ≡ get_or ps k []
by_part bytes parts ps k e below = sym (get_or-map (part_bytes bytes) parts k (part 0 0) [] below) ∙ ap (λ xs. get_or xs k []) e

module _ (names masks : List ℕ) (np mp : List Part) (ps qs : List (List ℕ))
    (ep : map (part_bytes names) np ≡ ps) (eq : map (part_bytes masks) mp ≡ qs) (few : length np ≤ 21845) (few' : length mp ≤ 21845) where
  long : length np ≡ length ps
  long = sym (length-map np (part_bytes names)) ∙ ap length ep

  long' : length mp ≡ length qs
  long' = sym (length-map mp (part_bytes masks)) ∙ ap length eq

  counts : part_count np ≡ length ps
  counts = omega (arith, long)

  same_test : (k : ℕ) (text : List ℕ) → k < pair_count (part_count np) (part_count mp) →
      answer (pair_count (part_count np) (part_count mp)) (pair_holds (part_count np) (name_holds names np) (masked masks mp)) k text ≡ matches ps qs k text
  same_test k text below =
      ⊎_elim
      (λ (name : k < length ps).
      rw (lt-ltb k (pair_count (part_count np) (part_count mp)) below, counts, lt-ltb k (length ps) name)
      (ap (λ b. bytes_eq b text) (by_part names np ps k ep (omega (arith, long)))))
      (λ (mask : length ps ≤ k).
      rw (lt-ltb k (pair_count (part_count np) (part_count mp)) below, counts, le-ltb k (length ps) mask)
      (ap (λ b. mask_holds b text) (by_part masks mp qs (k - length ps) eq (omega (arith, long, long')))))
      (cases_lt k (length ps))

  pub same_report : (input : List ℕ) → side_by_side names np masks mp input ≡ report (length ps + length qs) (matches ps qs) input
  same_report input =
      let total : pair_count (part_count np) (part_count mp) ≡ length ps + length qs = omega (arith, long, long') in
      report_same _ _ _ _ input total same_test

never : {n : ℕ} {e : PatternFault} → ◌≡◌ {A = Result ℕ PatternFault} (Ok n) (Err e) → ⊥
never h = let z : ◌≡◌ {A = ℕ} 0 1 = cc in omega arith

-- views of the same files and parts
pub same_views : (f f' g g' input : List ℕ) (p p' q q' : List Part) → f ≡ f' → p ≡ p' → g ≡ g' → q ≡ q' → side_by_side f p g q input ≡ side_by_side f' p' g' q' input
same_views f f' g g' input p p' q q' a b c d =
    ap (λ x. side_by_side x p g q input) a ∙ ap (λ x. side_by_side f' x g q input) b ∙ ap (λ x. side_by_side f' p' x q input) c ∙ ap (λ x. side_by_side f' p' g' x input) d

-- a file that is read has at most a third as many patterns as bytes
file_long : (tag : ℕ) (ps : List (List ℕ)) → 3 * length ps ≤ length (file tag ps)
file_long tag [] = omega arith
file_long tag (p ∷ ps) = simp length-append (omega (arith, file_long tag ps))

few_patterns : (tag most n : ℕ) (bytes : List ℕ) (ps : List (List ℕ)) → Outcome tag most bytes (Ok n) → bytes ≡ file tag ps → length ps ≤ 21845
few_patterns tag most n bytes ps o e =
    ⊎_elim
    (λ (long : 65535 < length bytes). absurd (never (o.0 long)))
    (λ (short : length bytes ≤ 65535). omega (arith, file_long tag ps, ap length e))
    (cases_lt 65535 (length bytes))

module _ (most most' : ℕ) (names masks input out : List ℕ) where
  -- what the parts of both files give, once they are read
  pub prints_answered : (n m : ℕ) (before after before' after' : List Part) → Only 4 most names (Ok n) → Only 5 most' masks (Ok m) →
      After 4 names before after (Ok n) → After 5 masks before' after' (Ok m) → out ≡ side_by_side names (take n after) masks (take m after') input →
      Prints most most' names masks input out
  prints_answered n m before after before' after' only only' memory memory' e =
      record {
        names_refused = λ f h. absurd (never (sym (only (Err f) h)));
        masks_refused = λ _ f _ h. absurd (never (sym (only' (Err f) h)));
        answered = λ k l ps qs o o' p q.
            let np = (memory.1 ps p).1 in
            let mp = (memory'.1 qs q).1 in
            let few : length (take n after) ≤ 21845 = omega (arith, few_patterns 4 most k names ps o p, sym (length-map (take n after) (part_bytes names)) ∙ ap length np) in
            let few' : length (take m after') ≤ 21845 = omega (arith, few_patterns 5 most' l masks qs o' q, sym (length-map (take m after') (part_bytes masks)) ∙ ap length mp) in
            e ∙ same_report names masks (take n after) (take m after') ps qs np mp few few' input;
      }
