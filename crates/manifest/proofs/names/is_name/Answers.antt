use Rattle.std.proofs.Common.{rules, tests, refl, []}
use Rattle.std.proofs.lemmas.Iterator.Consumers.{YieldsList-from_first}
use Rattle.text.specs.Left.{left}
use Rattle.text.specs.Bytes.{is_word}
use Rattle.manifest.specs.Names.{all}
use Rattle.manifest.proofs.Alls.{all-says}
use Rattle.manifest.proofs.names.is_name.Goals as goal

pub returns : goal.returns
returns c =
    all-says (all is_word) is_word refl (λ _ _. refl) c.all.new.self _ [] c.all.result c.all.ensures.ran
    (YieldsList-from_first (λ x. x.now) left _ c.plain.ensures.pieces) (λ x q k. search (rules, tests)) (λ x q k. search (rules, tests))
