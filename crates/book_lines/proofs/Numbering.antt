-- Numbered lines, one more at a time.
use Rattle.std.proofs.Common.{◌≡◌, ℕ, ◌+◌, ◌<◌, List, [], ◌∷◌, ◌++◌, length, get_or, take, sym, ap, ◌∙◌, append_assoc, append-nil, add-zero, arith, length-take-le}
use Rattle.std.proofs.lemmas.List.{take_more}
use Rattle.book_lines.specs.Lines.{numbered}
use Rattle.book_lines.specs.Pages.{Adds}
use Rattle.book_lines.specs.declared.page.Page.{Page}

numbered_push : {A : Type 0} (line : ℕ → A → List ℕ) (i : ℕ) (xs : List A) (x : A) → numbered line i (xs ++ (x ∷ [])) ≡ numbered line i xs ++ line (i + length xs) x
numbered_push line i [] x = append-nil (line i x) ∙ ap (λ n. line n x) (sym (add-zero i))
numbered_push line i (y ∷ xs) x =
    ap (λ l. line i y ++ l) (numbered_push line (i + 1) xs x)
    ∙ sym (append_assoc (line i y) (numbered line (i + 1) xs) (line (i + 1 + length xs) x))
    ∙ ap (λ n. (line i y ++ numbered line (i + 1) xs) ++ line n x) (omega arith)

numbered_take : {A : Type 0} (line : ℕ → A → List ℕ) (i : ℕ) (xs : List A) (d : A) → i < length xs → numbered line 0 (take (i + 1) xs) ≡ numbered line 0 (take i xs) ++ line i (get_or xs i d)
numbered_take line i xs d inside =
    ap (numbered line 0) (take_more xs i d inside) ∙ numbered_push line 0 (take i xs) (get_or xs i d)
    ∙ ap (λ n. numbered line 0 (take i xs) ++ line n (get_or xs i d)) (omega (arith, length-take-le i xs (omega arith)))

-- the lines up to number i stand there, and its own line is added
pub line_more : {K A : Type 0} (line : ℕ → A → List ℕ) (was now is : Page K) (i : ℕ) (xs : List A) (d : A) → i < length xs →
    Adds was now (numbered line 0 (take i xs)) → Adds now is (line i (get_or xs i d)) → Adds was is (numbered line 0 (take (i + 1) xs))
line_more line was now is i xs d inside stands adds = (
  adds.0 ∙ ap (λ l. l ++ line i (get_or xs i d)) stands.0 ∙ append_assoc was.text.items (numbered line 0 (take i xs)) (line i (get_or xs i d))
      ∙ ap (λ l. was.text.items ++ l) (sym (numbered_take line i xs d inside)),
  adds.1 ∙ stands.1,
)
