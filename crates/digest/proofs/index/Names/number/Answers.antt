use Rattle.digest.proofs.Numbers.{numbering}
use Rattle.digest.proofs.index.Names.number.Goals as goal

pub returns : goal.returns
returns g c =
    let index = c.args.self.now.index in
    let found = c.find.ensures in
    numbering (g.S.Shelf.meaning index.shelf.now) (g.met.S.Shelf.formed index.shelf.now) c.args.name.now c.find.result (rw c.args.self.now.whole at found)
