use Rattle.std.proofs.Common.{rules}
use Rattle.digest.specs.Providers.{ExportAt}
use Rattle.digest.proofs.Made.{made_each}
use Rattle.digest.proofs.index.Names.provider_digest.Goals as goal

pub returns : goal.returns
returns g c =
    let m = g.S.Shelf.meaning c.args.self.now.index.shelf.now in
    record {
      version = search rules;
      exports = made_each _ (ExportAt m c.args.b) _ 16 (λ j d q r. search rules) _ c.from_fn.ensures.items;
    }
