-- What the view looks at is cleared.
use Rattle.clearing.specs.Views.{view_limits}
use Rattle.clearing.specs.Outcomes.{memory_of}
use Rattle.clearing.proofs.Viewing.{viewed_sealed, view_outcome, view_makes}
use Rattle.clearing.proofs.sealed.clear_sealed.Goals as goal

pub returns : goal.returns
returns c =
    let view = c.args.book.now in
    let rows = c.rows.result.now in
    let definitions = c.definitions.result.now in
    let before = memory_of c.args.out.now in
    let after = memory_of c.clear.new.out in
    let r = c.clear.result in
    let made = view_makes view rows definitions before after r c.rows.ensures c.definitions.ensures c.clear.ensures.sealed in
    record {
      outcome = view_outcome view rows definitions before after r c.rows.ensures c.definitions.ensures c.clear.ensures.outcome;
      cleared = made (view_limits view) (viewed_sealed view);
      limits = made;
      lent = c.clear.ensures.lent;
    }
