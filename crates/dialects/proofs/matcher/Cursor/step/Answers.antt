-- Each way out is one of the steps of `Walks`.
use Rattle.std.proofs.Common.{◌≡◌, false, drop, sym, ◌∙◌, rules}
use Rattle.std.proofs.lemmas.List.{take_rest}
use Rattle.dialects.specs.Masks.{mask_holds}
use Rattle.dialects.specs.Cursors.{Begins}
use Rattle.dialects.proofs.Walks.{star_steps, byte_steps, try_steps, ended, differs}
use Rattle.dialects.proofs.matcher.Cursor.step.Goals as goal
use Rattle.dialects.proofs.matcher.Cursor.step.Goals.{in_default-via-then-self-lt1, in_default-via-else-self-lt1+in_default+then-this-lt1, in_default-via-in-len1-up-len1-up+else-stands_for}

pub returns-in-42-default : goal.returns-in-42-default
returns-in-42-default c =
    let begins : Begins (drop 1 c.args.self.mask.now) c.args.self.text.now c.begin.result = simp take_rest at c.begin.ensures in
    star_steps c.args.self.mask.now c.args.self.text.now c.args.self.retry c.begin.result c.in-42-default.len_at_least (search rules) c.requires.0 begins

pub returns-in-len1-up-len1-up : goal.returns-in-len1-up-len1-up
returns-in-len1-up-len1-up c =
    simp take_rest
    (byte_steps c.args.self.mask.now c.args.self.text.now c.args.self.retry (search rules) (search rules) (search rules) (sym c.stands_for.ensures ∙ c.if-stands_for.true) c.requires.0)

pub returns-in_ok-self-in_default : goal.returns-in_ok-self-in_default
returns-in_ok-self-in_default c =
    let mask = c.args.self.mask.now in
    let text = c.args.self.text.now in
    let stuck : mask_holds mask text ≡ false = elim c.in_default.branch [
      | in_default-via-then-self-lt1 w ↦ ended mask text (search rules) c.requires.1
      | in_default-via-else-self-lt1+in_default+then-this-lt1 w ↦ ended mask text (search rules) c.requires.1
      | in_default-via-in-len1-up-len1-up+else-stands_for w ↦ differs mask text (search rules) (search rules) (search rules) (sym w.stands_for.ensures ∙ w.if-stands_for.false)
    ] in
    try_steps c.args.self c.in_ok-self-in_default.field-0 c.begin_next.result (search rules) stuck c.requires.0 c.begin_next.ensures
