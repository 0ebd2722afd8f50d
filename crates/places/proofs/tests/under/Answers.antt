use Rattle.std.proofs.Common.{ℕ, ◌&&◌, ◌∙◌, ltb, rules}
use Rattle.std.proofs.lemmas.Bool.{le-ltb, and_right}
use Rattle.places.proofs.Made.{flags_made}
use Rattle.places.proofs.Sets.{those-has}
use Rattle.places.proofs.tests.under.Goals as goal

pub returns : goal.returns
returns c =
    let test = λ (p : ℕ). ltb p c.args.ceiling && ltb p 64 in
    those-has c.those.result test
    (λ p lt. c.those.ensures.places p lt ∙ flags_made _ test _ 64 (λ i y q r. search rules) _ c.from_fn.ensures.items p lt)
    c.those.ensures.others
    (λ p le. and_right (ltb p c.args.ceiling) (ltb p 64) (le-ltb p 64 le))
