use Rattle.std.proofs.Common.{rules}
use Rattle.digest.proofs.Told.{candidates_told}
use Rattle.digest.proofs.digest.Digest.candidates.Goals as goal

pub returns : goal.returns
returns c = λ m controller d. candidates_told m controller c.args.b c.args.k c.map_or.result _ c.need.result _ (c.need.ensures m controller d) c.map_or.ensures (λ x. search rules) (λ found h x. search rules)
