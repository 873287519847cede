-- A sealed book of the form is a cleared one.
use Rattle.std.proofs.Common.{rules}
use Rattle.clearing.proofs.Forms.{told_cleared}
use Rattle.clearing.proofs.form.is_cleared.Goals as goal

pub returns-then-without_not-clause-cleared : goal.returns-then-without_not-clause-cleared
returns-then-without_not-clause-cleared c = told_cleared c.args.book.now _ (search rules)
