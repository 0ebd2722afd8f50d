use Rattle.std.proofs.Common.{rules}
use Rattle.digest.proofs.digest.Digest.role.Goals as goal

pub returns-in_err-need : goal.returns-in_err-need
returns-in_err-need c = λ m controller d. let none = c.in_err-need.ensures m controller d in search rules

pub returns : goal.returns
returns c = λ m controller d. let need = c.in_ok-need.ensures m controller d in search rules
