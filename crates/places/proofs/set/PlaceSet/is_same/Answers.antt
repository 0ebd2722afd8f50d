use Rattle.std.proofs.lemmas.Bool.Decides.{Decides-at}
use Rattle.places.proofs.Sets.{same-decides}
use Rattle.places.proofs.set.PlaceSet.is_same.Goals as goal

pub returns : goal.returns
returns c = Decides-at c.eq.result _ c.eq.ensures (same-decides c.args.self.0 c.args.other.0)
