use Rattle.std.proofs.Common.{ap}
use Rattle.std.specs.Option.{option_map}
use Rattle.digest.proofs.Told.{unnumbered}
use Rattle.digest.proofs.digest.Digest.exported.Goals as goal

pub returns-in_err-export : goal.returns-in_err-export
returns-in_err-export c = λ m controller d. unnumbered m _ _ (ap (option_map (λ e. e.name)) (c.in_err-export.ensures m controller d)) c.from_residual.ensures

pub returns : goal.returns
returns c = λ m controller d. rw c.from.ensures (c.in_ok-export.ensures m controller d).number
