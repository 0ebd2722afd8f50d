use Rattle.std.proofs.Common.{sym}
use Rattle.digest.proofs.Indexing.{number_next}
use Rattle.digest.proofs.index.Index.next.Goals as goal

pub returns : goal.returns
returns g c =
    let self = c.args.self.now in
    let m = g.S.Shelf.meaning self.shelf.now in
    (sym c.in_ok-name.ensures, number_next m self.count c.in_ok-name.name.now (sym c.in_ok-name.ensures) c.find.result _ c.find.ensures c.unwrap_or.ensures)
