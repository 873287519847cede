use Rattle.std.proofs.Common.{◌≡◌, ◌-◌, ◌+◌, ◌∷◌, ◌++◌, List, ℕ, length, take, drop, rules, arith, None}
use Rattle.std.proofs.lemmas.Grind.{common_steps}
use Rattle.cases.specs.Splits.{Cuts, Free}
use Rattle.cases.proofs.Splitting.{split_at, split_free, split_parted}
use Rattle.cases.proofs.parts.cut.Goals as goal

pub returns-in_err-i : goal.returns-in_err-i
returns-in_err-i c =
    let none : Cuts c.args.mark c.args.bytes.now None = search rules in
    rw c.from_residual.ensures
    (record { value = none; first = split_free c.args.mark c.args.bytes.now none; law = split_parted c.args.mark c.args.bytes.now })

pub returns : goal.returns
returns c =
    let xs : List ℕ = c.args.bytes.now in
    let before : List ℕ = take c.in_ok-i.i xs in
    let after : List ℕ = take (length xs - (c.in_ok-i.i + 1)) (drop (c.in_ok-i.i + 1) xs) in
    let is : xs ≡ before ++ (c.args.mark ∷ after) = grind (arith, common_steps) in
    let free : Free c.args.mark before = grind (arith, common_steps) in
    record { value = (is, free); first = split_at c.args.mark xs before after (is, free); law = split_parted c.args.mark xs }
