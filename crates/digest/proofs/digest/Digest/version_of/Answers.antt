use Rattle.std.proofs.Common.{◌≡◌, ◌∙◌, rules}
use Rattle.std.specs.Option.{option_to_list}
use Rattle.std.specs.Iterator.Adapters.{option_iter_steps}
use Rattle.std.proofs.lemmas.Iterator.{YieldsList-from_slice, first_from_find}
use Rattle.std.proofs.lemmas.Iterator.Adapters.{YieldsList-from_flatten}
use Rattle.std.proofs.lemmas.Iterator.Consumers.{YieldsList-at}
use Rattle.digest.proofs.Flat.{yields_option}
use Rattle.digest.proofs.Provided.{version_absent, version_by}
use Rattle.digest.proofs.digest.Digest.version_of.Goals as goal
use borrow.Author.Tests.{tests}

pub returns-in_err-exports : goal.returns-in_err-exports
returns-in_err-exports c = λ m controller d q f. c.from_residual.ensures ∙ version_absent m c.args.c q (c.in_err-exports.ensures m controller d)

pub returns : goal.returns
returns c = λ m controller d q f.
    let exports = c.in_ok-exports.field-0.now.exports in
    let n = c.args.number in
    let road = YieldsList-from_flatten _ option_iter_steps (λ y. y.now) option_to_list (λ x j b. yields_option x.now j b.0 b.1) (YieldsList-at c.flatten.ensures.source (YieldsList-from_slice exports cc)) c.flatten.ensures.front c.flatten.ensures.back c.flatten.ensures.done in
    let first = first_from_find c.find.new.self _ c.find.result (λ d. d.number ≡ n) (λ d. d.number ≡ n → ⊥) c.find.ensures.ran road (λ x q k. search (rules, tests)) (λ x q k. search (rules, tests)) in
    version_by m d.formed c.args.c exports (c.in_ok-exports.ensures m controller d).exports n q f c.find.result c.map.result first (search (rules, tests))
