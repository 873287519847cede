use Rattle.std.proofs.Common.{◌≡◌, refl, rules}
use Rattle.std.proofs.lemmas.Fn.{serves_by}
use Rattle.numbers.specs.Values.{number}
use Rattle.kinds.proofs.Folding.{seen, more, next}
use Rattle.kinds.proofs.token.number_of.Goals as goal

pub fold-requires-clause-callable : goal.fold-requires-clause-callable
fold-requires-clause-callable c =
    serves_by _ (λ xs q. q.1 ≡ number (seen xs)) (λ xs q x v j k. more xs x q.1 v.1 j (search rules)) _ _ _ _ refl
    (λ xs t q x u y e j.
    let here = next c.args.digits.now c.iter.result t u xs x q.1 c.iter.ensures.rest y e c.requires.0 c.requires.1 j in
    search rules)
