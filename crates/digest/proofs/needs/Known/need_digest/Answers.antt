use Rattle.std.proofs.Common.{◌≡◌, true, sym, refl, ap, ◌∙◌}
use Rattle.places.specs.Sets.{has}
use Rattle.shelf.specs.Lent.{need_of}
use Rattle.wiring.specs.Candidates.{candidate}
use Rattle.digest.proofs.Served.{served_fits, served_own}
use Rattle.digest.proofs.Told.{candidate_of}
use Rattle.digest.proofs.needs.Known.need_digest.Goals as goal
use Rattle.digest.proofs.needs.Known.need_digest.Goals.{in-Import, in-Require}

pub candidates-requires : goal.candidates-requires
candidates-requires g c = λ p serves.
    let known = c.args.self.now in
    let m = g.S.Shelf.meaning known.target.shelf.now in
    let n = need_of c.in_ok-need.need in
    let read = c.in_ok-need.ensures in
    let here : candidate m known.target.controller c.args.b n p ≡ true = rw (← read) at serves in
    elim c.match-need.branch [
      | in-Import w ↦ ap (λ s. has s p) w.pool-is ∙ c.exporters-exporters.ensures n c.imports-imports.ensures p ∙ served_own m known.target.controller c.args.b n p here w.in-Import.is
      | in-Require w ↦ ap (λ s. has s p) w.pool-is ∙ known.fits p ∙ served_fits m known.target.controller c.args.b n p here
    ]

pub returns : goal.returns
returns g c =
    let known = c.args.self.now in
    let m = g.S.Shelf.meaning known.target.shelf.now in
    let n = need_of c.in_ok-need.need in
    let read = c.in_ok-need.ensures in (
      n,
      sym read,
      record {
        kind = refl;
        resolution = refl;
        imports = c.imports-imports.ensures;
        own = c.contains.ensures.value ∙ c.exporters-exporters.ensures n c.imports-imports.ensures c.args.b;
        candidates = λ p. c.candidates.ensures p ∙ sym (candidate_of m known.target.controller c.args.b c.args.k p (sym read));
      },
    )
