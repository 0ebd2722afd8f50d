use Rattle.std.proofs.Common.{rules}
use Rattle.digest.specs.Each.{Each}
use Rattle.digest.specs.Needs.{NeedAt}
use Rattle.digest.proofs.Made.{made_each}
use Rattle.digest.proofs.needs.Known.needs.Goals as goal

pub returns : goal.returns
returns g c =
    let known = c.args.self.now in
    made_each _ (λ b row. Each 16 (NeedAt (g.S.Shelf.meaning known.target.shelf.now) known.target.controller b) row) _ 64 (λ b row q r. search rules) _ c.from_fn.ensures.items
