use Rattle.std.proofs.Common.{rules}
use Rattle.std.proofs.lemmas.Iterator.{first_from_Range}
use Rattle.shelf.specs.Looked.{ExportsAt, Only}
use Rattle.shelf.proofs.Exported.{found}
use Rattle.shelf.proofs.lookup.At.export_named.Goals as goal

pub returns : goal.returns
returns g c =
    let shelf = c.args.self.now.shelf.now in
    let m = g.S.Shelf.meaning shelf in
    let place = c.args.self.now.place in
    let name = c.args.name.now in
    let first =
    found m place name c.find.result (g.met.S.Shelf.formed shelf)
    (first_from_Range _ _ _ c.find.result (Only m place name) (λ j. ExportsAt m place j name → ⊥) c.find.ensures.ran (λ j f k. search rules) (λ j f k. search rules)) in
    search (rules, first)
