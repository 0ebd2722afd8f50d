use Rattle.std.proofs.Common.{rules}
use Rattle.digest.specs.Providers.{ProviderAt}
use Rattle.digest.proofs.Made.{made_each}
use Rattle.digest.proofs.index.Names.providers.Goals as goal

pub returns : goal.returns
returns g c = made_each _ (ProviderAt (g.S.Shelf.meaning c.args.self.now.index.shelf.now)) _ 64 (λ b d q r. search rules) _ c.from_fn.ensures.items
