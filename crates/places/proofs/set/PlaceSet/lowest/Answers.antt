use Rattle.std.proofs.Common.{arith}
use Rattle.places.proofs.Sets.{lowest}
use Rattle.places.proofs.set.PlaceSet.lowest.Goals as goal

pub returns-else-self-eq0 : goal.returns-else-self-eq0
returns-else-self-eq0 c = lowest c.args.self (omega arith) (omega arith)
