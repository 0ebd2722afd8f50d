use Rattle.std.proofs.Common.{◌≡◌, arith, rules}
use Rattle.std.proofs.lemmas.Grind.{common_steps}
use Rattle.kinds.specs.RangeText.{range}
use Rattle.kinds.proofs.Ranges.{only}
use Rattle.kinds.proofs.range.Range.read.Goals as goal

pub returns-in-Some-clause-form : goal.returns-in-Some-clause-form
returns-in-Some-clause-form g c =
    let value : c.read_between.result ≡ range g.K.FromText.reads c.args.text.now = grind (arith, common_steps) in
    only g.K.FromText.reads g.met.K.Readable.commaless c.args.text.now _ value

pub returns-in-None-clause-form : goal.returns-in-None-clause-form
returns-in-None-clause-form g c =
    let value : c.map.result ≡ range g.K.FromText.reads c.args.text.now = search rules in
    only g.K.FromText.reads g.met.K.Readable.commaless c.args.text.now _ value
