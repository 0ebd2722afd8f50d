use Rattle.std.proofs.Common.{rules, []}
use Rattle.wiring.proofs.Rows.{empty_open}
use Rattle.wiring.proofs.partial.PartialWiring.new.Goals as goal

pub returns : goal.returns
returns c = empty_open c.from_fn.result 64 c.from_fn.ensures.items.long (λ b lt. let called = c.from_fn.ensures.items.at b (record { items = [] }) lt in let met = called.2.met in search rules)
