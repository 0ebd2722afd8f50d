use Rattle.std.proofs.Common.{◌∙◌, rules}
use Rattle.places.proofs.Made.{flags_made}
use Rattle.places.proofs.Sets.{those-has}
use Rattle.wiring.specs.Candidates.{fits}
use Rattle.digest.proofs.Served.{fits_past}
use Rattle.digest.proofs.digest.making.fitting.Goals as goal

pub returns : goal.returns
returns g c =
    let shelf = c.args.target.now.shelf.now in
    let m = g.S.Shelf.meaning shelf in
    let test = fits m c.args.target.now.controller in
    those-has c.those.result test
    (λ p lt. c.those.ensures.places p lt ∙ flags_made _ test _ 64 (λ i y q r. search rules) _ c.from_fn.ensures.items p lt)
    c.those.ensures.others
    (λ p le. fits_past m (g.met.S.Shelf.formed shelf) c.args.target.now.controller p le)
