use Rattle.std.proofs.Common.{rules}
use Rattle.shelf.specs.Lent.{offer_of}
use Rattle.wiring.proofs.Exported.{found_version, lacking-none}
use Rattle.wiring.proofs.offers.exported_version.Goals as goal

pub returns-in_err-j : goal.returns-in_err-j
returns-in_err-j g c = let lacks = lacking-none (g.S.Shelf.meaning c.args.at.now.shelf.now) c.args.at.now.place c.args.name.now c.in_err-j.ensures in search rules

pub returns : goal.returns
returns g c = found_version (g.S.Shelf.meaning c.args.at.now.shelf.now) c.args.at.now.place _ _ (offer_of c.in_ok-export.field-0) c.in_ok-j.ensures c.in_ok-export.ensures
