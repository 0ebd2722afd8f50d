use Rattle.std.proofs.Common.{ap, rules}
use Rattle.digest.specs.Needs.{import_in}
use Rattle.digest.proofs.Told.{numbering_as, unnumbered}
use Rattle.digest.proofs.digest.Digest.imported.Goals as goal
use borrow.Author.Tests.{tests}

pub returns-in_err-need : goal.returns-in_err-need
returns-in_err-need c = λ m controller d. unnumbered m _ _ (ap import_in (c.in_err-need.ensures m controller d)) c.from_residual.ensures

pub returns : goal.returns
returns c = λ m controller d. let (n, there, need) = c.in_ok-need.ensures m controller d in numbering_as m _ _ c.map.result c.in_ok-need.field-0.imports (ap import_in there) (search (rules, tests)) need.imports
