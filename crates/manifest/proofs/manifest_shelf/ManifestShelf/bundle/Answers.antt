use Rattle.std.proofs.Common.{arith, ◌≡◌}
use Rattle.std.proofs.lemmas.Grind.{common_steps}
use Rattle.std.proofs.lemmas.Option.{gets}
use Rattle.std.specs.List.{slice_get}
use Rattle.std.specs.Option.{option_copied}
use Rattle.manifest.proofs.Asks.{at_bundle}
use Rattle.manifest.proofs.manifest_shelf.ManifestShelf.bundle.Goals as goal

pub returns : goal.returns
returns c =
    let e : option_copied c.get.result ≡ slice_get c.args.self.now.bundles.items c.args.place = grind (arith, common_steps, gets) in
    at_bundle c.args.self.now.bundles.items c.args.place c.get.result e
