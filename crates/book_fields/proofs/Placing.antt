-- A number that no tag has is misplaced.
use Rattle.std.proofs.Common.{◌≡◌, ℕ, ◌<◌, ◌≤◌, ◌≢◌, true, sym, refl, ⊎_elim, arith}
use Rattle.std.proofs.lemmas.Bool.{lt-ltb, le-ltb, cases_lt, cases_eq}
use Rattle.book_fields.specs.declared.field.Tag.{Tag}
use Rattle.book_fields.specs.declared.field.Tag.TheVariants.{Number, Row, Definition}
use Rattle.book_fields.specs.Fields.{tag_number, is_misplaced}

pub no_tag : (n last : ℕ) → ((t : Tag) → tag_number t ≢ n) → is_misplaced last n ≡ true
no_tag n last other = ⊎_elim
    (λ (low : n < 1). rw (lt-ltb n 1 low) refl)
    (λ (some : 1 ≤ n). ⊎_elim
    (λ (high : 3 < n). rw (le-ltb n 1 some, lt-ltb 3 n high) refl)
    (λ (few : n ≤ 3). ⊎_elim
    (λ (e : n ≡ 1). absurd (other Number (sym e)))
    (λ (ne : n ≢ 1). ⊎_elim
    (λ (e : n ≡ 2). absurd (other Row (sym e)))
    (λ (not_two : n ≢ 2). let e : n ≡ 3 = omega (arith, ne, not_two) in absurd (other Definition (sym e)))
    (cases_eq n 2))
    (cases_eq n 1))
    (cases_lt 3 n))
    (cases_lt n 1)
