use Rattle.shelf.proofs.Keeping.{needs_keep}
use Rattle.shelf.proofs.lawful.few_needs.Goals as goal

pub returns-then-needs-le-NEEDS : goal.returns-then-needs-le-NEEDS
returns-then-needs-le-NEEDS c = needs_keep c.args.needs.now c.is_clear.result c.if-needs-le-NEEDS.true c.is_clear.ensures
