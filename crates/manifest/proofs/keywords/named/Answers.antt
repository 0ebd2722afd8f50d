use Rattle.std.proofs.Common.{◌≡◌, ◌∙◌, refl, rules, tests}
use Rattle.std.proofs.lemmas.Iterator.{YieldsList-from_slice}
use Rattle.std.specs.Option.{option_map}
use Rattle.text.specs.Bytes.{equal}
use Rattle.manifest.specs.Stages.{stands_for}
use Rattle.manifest.proofs.Finds.{find_says}
use Rattle.manifest.proofs.keywords.named.Goals as goal

pub returns : goal.returns
returns g c =
    let value : c.map.result ≡ option_map (λ x. x.now.1) c.find.result = search rules in
    let word = c.args.word.now in
    value ∙ find_says (stands_for word) (λ entry. equal word entry.0.now) (λ entry. entry.1) refl (λ _ _. refl) _ c.find.new.self _ c.find.result c.find.ensures.ran
    (YieldsList-from_slice c.args.table.now cc) (λ x q k. search (rules, tests)) (λ x q k. search (rules, tests))
