use Rattle.digest.specs.Providers.{ProviderAt}
use Rattle.digest.proofs.Told.{got_item, lent}
use Rattle.digest.proofs.digest.Digest.provider.Goals as goal

pub returns : goal.returns
returns c = λ m controller d.
    lent _ _ c.as_ref.result c.in_ok-get.field-0.now c.as_ref.ensures.value
    (got_item 64 (ProviderAt m) c.args.self.now.providers c.args.b d.providers c.in_ok-get.field-0 c.in_ok-get.ensures.lookup)
