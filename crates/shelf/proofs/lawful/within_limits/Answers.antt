use Rattle.shelf.proofs.Keeping.{places_keep}
use Rattle.shelf.proofs.lawful.within_limits.Goals as goal

pub returns-then-places-le-PLACES : goal.returns-then-places-le-PLACES
returns-then-places-le-PLACES c = places_keep c.args.places.now c.few_places.result c.if-places-le-PLACES.true c.few_places.ensures
