-- What fits is viewed.
use Rattle.clearing.specs.Views.{viewed}
use Rattle.clearing.specs.Outcomes.{memory_of}
use Rattle.clearing_examples.proofs.Seeing.{seen}
use Rattle.clearing_examples.proofs.into.clear_into.Goals as goal

pub returns : goal.returns
returns g c =
    let book = viewed c.args.book.now in
    let before = memory_of c.args.memory in
    let after = memory_of c.clear_sealed.new.out in
    let outcome = c.in-Ok.ensures.outcome in
    record {
      written = λ sealed fits. seen g.K.Number.kind c.args.book.now.patterns c.pattern_count.result c.args.numbers.now book before after c.in-Ok.n
          c.definitions.result.now c.seal-2.result c.of-2.result c.pattern_count.ensures c.definitions.ensures sealed outcome c.seal-2.ensures.same c.of-2.ensures.same;
      nothing = λ other. absurd (other (outcome.rows_fit, outcome.definitions_fit));
    }
