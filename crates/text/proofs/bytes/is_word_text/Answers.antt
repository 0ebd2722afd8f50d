use Rattle.std.proofs.Common.{rules, refl}
use Rattle.std.proofs.lemmas.List.Recursion.{and_is}
use Rattle.text.specs.Bytes.{every, word}
use Rattle.text.proofs.bytes.is_word_text.Goals as goal

pub returns : goal.returns
returns c = and_is (every word) word refl (λ _ _. refl) c.args.text.now 0 c.all.result (search rules) (search rules)
