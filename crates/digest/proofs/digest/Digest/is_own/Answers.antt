use Rattle.std.proofs.Common.{rules}
use Rattle.digest.proofs.Told.{own_told}
use Rattle.digest.proofs.digest.Digest.is_own.Goals as goal

pub returns : goal.returns
returns c = λ m controller d. own_told m controller c.args.b c.args.k c.is_some_and.result c.need.result (c.need.ensures m controller d) (search rules)
