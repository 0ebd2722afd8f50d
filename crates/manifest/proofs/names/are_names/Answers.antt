use Rattle.std.proofs.Common.{rules, tests, refl, []}
use Rattle.std.proofs.lemmas.Iterator.Consumers.{YieldsList-from_first}
use Rattle.text.specs.Left.{left}
use Rattle.manifest.specs.Names.{all, is_name}
use Rattle.manifest.proofs.Alls.{all-says}
use Rattle.manifest.proofs.names.are_names.Goals as goal

pub returns : goal.returns
returns c =
    all-says (all is_name) is_name refl (λ _ _. refl) c.all.new.self _ [] c.all.result c.all.ensures.ran
    (YieldsList-from_first (λ x. x.now) left _ c.plain.ensures.pieces) (λ x q k. search (rules, tests)) (λ x q k. search (rules, tests))
