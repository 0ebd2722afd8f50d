use Rattle.std.proofs.Common.{◌≡◌, ◌∙◌, refl, rules, tests}
use Rattle.std.proofs.lemmas.Iterator.Consumers.{YieldsList-from_first}
use Rattle.std.specs.Option.{option_map}
use Rattle.text.specs.Splitting.{parts}
use Rattle.manifest.specs.LinesLeft.{line_said, lines_left}
use Rattle.manifest.proofs.Finds.{find_says}
use Rattle.manifest.proofs.Strays.{is_stray, stray_is, stray_over}
use Rattle.manifest.proofs.directory.stray_line.Goals as goal

pub returns : goal.returns
returns c =
    let offset : c.map.result ≡ option_map (λ x. x.0) c.find.result = search rules in
    let first = find_says stray_over is_stray (λ l. l.0) refl (λ _ _. refl) _ c.find.new.self _ c.find.result c.find.ensures.ran
    (YieldsList-from_first line_said lines_left _ c.of.ensures) (λ x q k. search (rules, tests)) (λ x q k. search (rules, tests)) in
    offset ∙ first ∙ stray_is 0 (parts 10 c.args.text.now)
