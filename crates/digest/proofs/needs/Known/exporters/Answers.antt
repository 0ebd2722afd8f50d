use Rattle.std.proofs.Common.{sym, ◌∙◌}
use Rattle.std.proofs.Math.Logic.{∥∥₁_elim}
use Rattle.std.proofs.Math.Bool.{Bool-set}
use Rattle.std.proofs.lemmas.Bool.Decides.{same_from_decides}
use Rattle.places.specs.Sets.{has}
use Rattle.wiring.specs.Candidates.{own}
use Rattle.digest.proofs.Served.{own_number, own_none}
use Rattle.digest.proofs.needs.Known.exporters.Goals as goal

pub returns-in-Some : goal.returns-in-Some
returns-in-Some g c = λ n s x.
    let known = c.args.self.now in
    let shelf = known.target.shelf.now in
    let m = g.S.Shelf.meaning shelf in
    let w = g.met.S.Shelf.formed shelf in
    ∥∥₁_elim known.exporting (Bool-set (has c.of.result x) (own m x n)) (λ e. same_from_decides (has c.of.result x) (own m x n) (rw c.from.ensures at c.of.ensures m w e x) (own_number m w n x c.in-Some.number (rw c.in-Some.is at s)))

pub returns-in-None : goal.returns-in-None
returns-in-None g c = λ n s x.
    let shelf = c.args.self.now.target.shelf.now in
    c.empty.ensures x ∙ sym (own_none (g.S.Shelf.meaning shelf) (g.met.S.Shelf.formed shelf) n x (rw c.in-None.is at s))
