use Rattle.digest.proofs.Distinct.{distinct}
use Rattle.digest.proofs.laws.numbers_tell_names.Goals as goal

pub returns : goal.returns
returns c = distinct
