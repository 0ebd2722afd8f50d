use Rattle.std.proofs.Common.{rules, refl, map, tests, ◌&&◌}
use Rattle.std.proofs.lemmas.Iterator.{YieldsList-from_slice}
use Rattle.text.specs.Bytes.{equal}
use Rattle.manifest.specs.Index.{bundle_in}
use Rattle.manifest.specs.Reading.{same_version, taken}
use Rattle.manifest.proofs.Looks.{any_says}
use Rattle.manifest.proofs.bundles.has_bundle.Goals as goal

pub returns : goal.returns
returns c =
    any_says (λ bs. taken c.args.name.now c.args.version (map bundle_in bs)) (λ b. equal c.args.name.now b.name.now && same_version c.args.version b.version) refl (λ _ _. refl)
    c.args.bundles.now c.any.new.self _ c.any.result c.any.ensures.ran (YieldsList-from_slice c.args.bundles.now cc) (λ x q k. search (rules, tests)) (λ x q k. search (rules, tests))
