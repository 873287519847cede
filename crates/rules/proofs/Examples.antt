-- The small book E is sealed.
use Rattle.std.proofs.Common.{ℕ, zero, suc, ◌<◌, arith}
use Rattle.std.specs.List.{AllByRecursion}
use Rattle.rules.specs.Book.{row_at, body_at, operands, variables, needs, Allowed}
use Rattle.rules.specs.Examples.{book_e, SealsE}
use Rattle.rules.proofs.Guard.{Ends, ends, all_in}
use Rattle.rules.proofs.Rooted.{no_cycle}

each_row : (Q : ℕ → Type 0) → Q 0 → Q 1 → Q 2 → (r : ℕ) → r < 3 → Q r
each_row Q a b c zero h = a
each_row Q a b c (suc zero) h = b
each_row Q a b c (suc (suc zero)) h = c
each_row Q a b c (suc (suc (suc r))) h = absurd (omega arith)

ends_by : (r : ℕ) → AllByRecursion (Ends book_e) (needs book_e (row_at book_e r)) → Ends book_e r
ends_by r h = ends (λ o m. all_in (Ends book_e) (needs book_e (row_at book_e r)) h m)

pub seals_e : SealsE
seals_e limits numbers =
    let two = ends_by 2 tt in
    let zeroth = ends_by 0 (two, tt) in
    record {
      few_rows = omega arith;
      few_numbers = numbers;
      some_definition = omega arith;
      few_definitions = omega arith;
      allowed = each_row (λ r. Allowed limits (row_at book_e r)) tt tt tt;
      lower = each_row (λ r. AllByRecursion (λ o. o < r) (operands (row_at book_e r))) tt (omega arith, tt) (omega arith, tt);
      defined = each_row (λ r. AllByRecursion (λ v. v < 1) (variables (row_at book_e r))) (omega arith, tt) tt tt;
      bodies = bodies_e;
      guarded = λ r h. no_cycle (each_row (Ends book_e) zeroth (ends_by 1 (zeroth, tt)) two r h);
    }
  where
    bodies_e : (v : ℕ) → v < 1 → body_at book_e v < 3
    bodies_e zero h = omega arith
    bodies_e (suc v) h = absurd (omega arith)
