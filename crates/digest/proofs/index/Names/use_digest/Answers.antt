use Rattle.shelf.specs.Meaning.{used_at}
use Rattle.digest.proofs.Numbers.{numbering_small}
use Rattle.digest.proofs.index.Names.use_digest.Goals as goal

pub of-requires : goal.of-requires
of-requires g c =
    let shelf = c.args.self.now.index.shelf.now in
    let m = g.S.Shelf.meaning shelf in
    numbering_small m (g.met.S.Shelf.formed shelf) (used_at m c.args.b c.args.j c.args.k) c.used.result c.used.ensures

pub returns : goal.returns
returns g c = rw c.of.ensures c.used.ensures
