-- What a page holds after a call.
use Rattle.std.specs.Prelude.{◌≡◌, ℕ, List, ◌++◌}
use Rattle.book_lines.specs.declared.page.Page.{Page}

-- a text is added, and the numbers stay
abbrev pub Adds : {K : Type 0} → Page K → Page K → List ℕ → Type 0
Adds was is text = (is.text.items ≡ was.text.items ++ text) × (is.numbers ≡ was.numbers)
