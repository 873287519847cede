-- What reading a whole file comes to.
use Rattle.std.proofs.Common.{◌≡◌, ℕ, false, List, [], ◌++◌, map, length, take, drop, is_err, Ok, Err, Result, sym, refl, ap, ◌∙◌, arith}
use Rattle.fields.specs.Parts.{part_bytes}
use Rattle.fields.specs.declared.part.Part.{Part}
use Rattle.std.proofs.lemmas.List.{append-nil, take_at}
use Rattle.dialects.specs.declared.fault.PatternFault.{PatternFault}
use Rattle.dialects.specs.Files.{file, places, room, Outcome, Only, After}
use Rattle.dialects.specs.Reading.{Fills}
use Rattle.dialects.proofs.Rows.{only_outcome, same_patterns, length_places, places_read}

outcome_from : (tag : ℕ) (bytes : List ℕ) (before after : List Part) (o : Result ℕ PatternFault) → Fills tag bytes before after o → Outcome tag (room before) bytes o
outcome_from tag bytes before after (Ok n) fills = (
  (λ long. absurd (omega (arith, fills.0))),
  λ _.
      record { patterns = fills.1; rest = []; cut = fills.2 ∙ sym (append-nil (file tag fills.1)); short = fills.3; fit = fills.4; stop = (refl, fills.5) },
)
outcome_from tag bytes before after (Err e) fills = fills

pub only_from : (tag : ℕ) (bytes : List ℕ) (before after : List Part) (o : Result ℕ PatternFault) → Fills tag bytes before after o → Only tag (room before) bytes o
only_from tag bytes before after o fills other h = only_outcome tag (room before) bytes o other (outcome_from tag bytes before after o fills) h

pub filled_after : (tag : ℕ) (bytes : List ℕ) (before after : List Part) (o : Result ℕ PatternFault) → is_err o ≡ false → Fills tag bytes before after o →
    After tag bytes before after o
filled_after tag bytes before after (Err f) ok fills = let z : ◌≡◌ {A = ℕ} 0 1 = cc in absurd (omega arith)
filled_after tag bytes before after (Ok n) ok fills = (
  omega (arith, fills.4, fills.5),
  λ ps whole.
      let same : fills.1 ≡ ps = same_patterns tag fills.1 ps (sym fills.2 ∙ whole) in
      let after_is : after ≡ places 0 ps ++ drop n before = fills.6 ∙ ap (λ qs. places 0 qs ++ drop n before) same in
      let count : length (places 0 ps) ≡ n = length_places 0 ps ∙ sym (fills.5 ∙ ap length same) in (
        after_is,
        ap (λ xs. map (part_bytes bytes) (take n xs)) after_is ∙ ap (map (part_bytes bytes)) (take_at (places 0 ps) (drop n before) n count) ∙ places_read tag 0 ps bytes whole,
      ),
)
