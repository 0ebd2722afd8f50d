use Rattle.digest.specs.Each.{Each}
use Rattle.digest.specs.Needs.{NeedAt}
use Rattle.digest.proofs.Told.{got_item}
use Rattle.digest.proofs.digest.Digest.need.Goals as goal

pub returns : goal.returns
returns c = λ m controller d.
    let b = c.args.b in
    let row = got_item 64 (λ b row. Each 16 (NeedAt m controller b) row) c.args.self.now.needs b d.needs c.in_ok-get.field-0 c.in_ok-get.ensures.lookup in
    got_item 16 (NeedAt m controller b) c.in_ok-get.field-0.now c.args.k row c.in_ok-get-2.field-0 c.in_ok-get-2.ensures.lookup
