use Rattle.std.proofs.Common.{rules}
use Rattle.digest.specs.Needs.{NeedAt}
use Rattle.digest.proofs.Made.{made_each}
use Rattle.digest.proofs.needs.Known.needs_of.Goals as goal

pub returns : goal.returns
returns g c =
    let known = c.args.self.now in
    made_each _ (NeedAt (g.S.Shelf.meaning known.target.shelf.now) known.target.controller c.args.b) _ 16 (λ k d q r. search rules) _ c.from_fn.ensures.items
