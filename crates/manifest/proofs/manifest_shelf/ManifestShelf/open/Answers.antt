use Rattle.std.proofs.Common.{Ok, ap}
use Rattle.manifest.specs.Reading.{reading}
use Rattle.manifest.proofs.manifest_shelf.ManifestShelf.open.Goals as goal

pub invariant_of-result : goal.invariant_of-result
unfolding reading
invariant_of-result c = record { lawful = ∣ ap (λ s. Ok s.bundles) c.restart.ensures ∣₁ }
