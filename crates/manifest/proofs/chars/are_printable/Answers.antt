use Rattle.std.proofs.Common.{rules, refl}
use Rattle.std.proofs.lemmas.List.Recursion.{and_is}
use Rattle.text.specs.Bytes.{every, printable}
use Rattle.manifest.proofs.chars.are_printable.Goals as goal

pub returns : goal.returns
returns c = and_is (every printable) printable refl (λ _ _. refl) c.args.text.now 0 c.all.result (search rules) (search rules)
