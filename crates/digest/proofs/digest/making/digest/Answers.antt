use Rattle.std.proofs.Common.{ap, subst}
use Rattle.digest.specs.Providers.{Providing}
use Rattle.digest.proofs.digest.making.digest.Goals as goal

pub invariant_of-known : goal.invariant_of-known
invariant_of-known g c =
    let shelf = c.args.shelf.now in
    let providers = subst (λ s. Providing (g.S.Shelf.meaning s) c.providers-providers.result) c.of-names.ensures c.providers-providers.ensures in
    record {
      same = ap g.S.Shelf.meaning c.of-names.ensures;
      exporting = ∣ c.gather.ensures (g.S.Shelf.meaning shelf) (g.met.S.Shelf.formed shelf) providers ∣₁;
      fits = c.fitting.ensures;
    }

pub returns : goal.returns
returns g c =
    let shelf = c.args.shelf.now in
    let m = g.S.Shelf.meaning shelf in
    let providers = subst (λ s. Providing (g.S.Shelf.meaning s) c.providers-providers.result) c.of-names.ensures c.providers-providers.ensures in
    record {
      formed = g.met.S.Shelf.formed shelf;
      providers = providers;
      exporters = c.gather.ensures m (g.met.S.Shelf.formed shelf) providers;
      fitting = c.fitting.ensures;
      needs = c.needs.ensures;
    }
