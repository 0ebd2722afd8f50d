use Rattle.std.proofs.Common.{arith}
use Rattle.wiring.proofs.Rows.{decides}
use Rattle.wiring.proofs.partial.PartialWiring.decide.Goals as goal

pub returns-clause-decides : goal.returns-clause-decides
returns-clause-decides c =
    let next = c.decide_next.ensures in
    decides c.args.self.now c.args.place c.decide_next.new.row (omega arith) c.args.choice c.index-self-place.result c.decide_next.result
    (omega arith) next.fits next.decides next.keeps next.why
