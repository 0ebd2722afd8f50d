use Rattle.std.proofs.Common.{ℕ, ◌&&◌, ◌∙◌, rules}
use Rattle.places.specs.Sets.{has}
use Rattle.places.proofs.Made.{flags_made}
use Rattle.places.proofs.Sets.{those-has}
use Rattle.wiring.specs.Candidates.{candidate_at}
use Rattle.wiring.proofs.Ruled.{candidate_past}
use Rattle.digest.proofs.Served.{none-among, pooled}
use Rattle.digest.proofs.needs.Known.candidates.Goals as goal

pub returns : goal.returns
returns g c =
    let known = c.args.self.now in
    let shelf = known.target.shelf.now in
    let m = g.S.Shelf.meaning shelf in
    let a = c.args in
    let serves = candidate_at m known.target.controller a.b a.k in
    let test = λ (p : ℕ). has a.pool p && serves p in
    those-has c.those.result serves
    (λ p lt.
    c.those.ensures.places p lt
    ∙ flags_made _ test _ 64 (λ i y q r. search rules) _ c.from_fn.ensures.items p lt
    ∙ pooled (has a.pool p) (serves p) (c.requires p))
    c.those.ensures.others
    (λ p le. candidate_past m known.target.controller a.b a.k p (g.met.S.Shelf.formed shelf) le)

pub returns-then-is_empty : goal.returns-then-is_empty
returns-then-is_empty g c =
    let known = c.args.self.now in
    none-among (has c.args.pool) (candidate_at (g.S.Shelf.meaning known.target.shelf.now) known.target.controller c.args.b c.args.k) c.requires (c.is_empty.ensures.0 c.if-is_empty.true)
