use Rattle.std.proofs.Common.{◌∙◌, rules}
use Rattle.places.proofs.Made.{flags_made}
use Rattle.places.proofs.Sets.{those-has}
use Rattle.wiring.specs.Candidates.{candidate_at}
use Rattle.wiring.proofs.Ruled.{candidate_past}
use Rattle.wiring.proofs.candidates.Target.candidates.Goals as goal

pub returns : goal.returns
returns g c =
    let target = c.args.self.now in
    let shelf = target.shelf.now in
    let m = g.S.Shelf.meaning shelf in
    let a = c.args in
    let test = candidate_at m target.controller a.b a.k in
    those-has c.those.result test
    (λ p lt. c.those.ensures.places p lt ∙ flags_made _ test _ 64 (λ i y q r. search rules) _ c.from_fn.ensures.items p lt)
    c.those.ensures.others
    (λ p le. candidate_past m target.controller a.b a.k p (g.met.S.Shelf.formed shelf) le)
