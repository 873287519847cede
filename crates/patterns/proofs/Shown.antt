-- One more pattern, one more line.
use Rattle.std.proofs.Common.{◌≡◌, ℕ, zero, suc, Bool, cond, List, [], ◌∷◌, ◌++◌, sym, refl, zero-add, ap, ◌∙◌, add-one}
use Rattle.std.proofs.lemmas.List.{map-id, append_assoc}
use Rattle.std.specs.List.{flat_map, filter, range_with_len}
use Rattle.std.proofs.lemmas.List.FromFn.{filter_of_map_range_with_len_more}
use Rattle.lines.specs.Lines.{lines}
use Rattle.patterns.specs.Report.{passing, line, report}

-- the numbers that pass are those that a filter leaves
pub filter_passing : (test : ℕ → Bool) (n : ℕ) → filter test (range_with_len 0 n) ≡ passing test n
filter_passing test zero = refl
filter_passing test (suc n) =
    let more = simp map-id at (filter_of_map_range_with_len_more test (λ k. k) 0 n n (zero-add n)) in
    ap (λ k. filter test (range_with_len 0 k)) (sym (add-one n)) ∙ more ∙ ap (λ ks. ks ++ cond (test n) (n ∷ []) []) (filter_passing test n)

-- a line more is printed, and the rest of the input is shorter by it
pub report_more : (count : ℕ) (test : ℕ → List ℕ → Bool) (whole out longer rest text more numbers : List ℕ) → lines rest ≡ text ∷ lines more →
    numbers ≡ passing (λ k. test k text) count → longer ≡ out ++ line text numbers → out ++ report count test rest ≡ whole → longer ++ report count test more ≡ whole
report_more count test whole out longer rest text more numbers cut found added h =
    let each : List ℕ → List ℕ = λ t. line t (passing (λ k. test k t) count) in
    ap (λ xs. xs ++ flat_map each (lines more)) (added ∙ ap (λ ns. out ++ line text ns) found)
    ∙ append_assoc out (each text) (flat_map each (lines more))
    ∙ ap (λ ls. out ++ flat_map each ls) (sym cut) ∙ h
