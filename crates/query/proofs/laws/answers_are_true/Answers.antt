use Rattle.query.proofs.True.{truthful}
use Rattle.query.proofs.laws.answers_are_true.Goals as goal

pub returns : goal.returns
returns c = truthful
