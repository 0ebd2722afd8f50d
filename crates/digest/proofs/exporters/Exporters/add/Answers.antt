use Rattle.std.proofs.Common.{arith}
use Rattle.std.specs.Iterator.Adapters.{option_iter_steps}
use Rattle.std.specs.Option.{option_to_list}
use Rattle.std.proofs.lemmas.Iterator.{YieldsList-from_slice}
use Rattle.std.proofs.lemmas.Iterator.Adapters.{YieldsList-from_flatten}
use Rattle.std.proofs.lemmas.Iterator.Consumers.{YieldsList-at, YieldsList-end}
use Rattle.digest.proofs.Flat.{yields_option}
use Rattle.digest.proofs.Gathering.{added_all, added_more, added_none}
use Rattle.digest.proofs.exporters.Exporters.add.Goals as goal

pub loop-export-init : goal.loop-export-init
loop-export-init c = added_none c.args.self.now.sets c.args.place

pub loop-export-preserved : goal.loop-export-preserved
loop-export-preserved c =
    let a = c.args in
    let l = c.loop-export in
    let y = c.in-Some.export in
    let small = y.now.small in
    rw c.from.ensures (added_more a.self.now.sets l.self.sets a.place l.yielded y l.invariant (omega arith) c.requires (record { 0 = 0 }) _ (rw c.from.ensures at c.insert.ensures) small)

pub returns : goal.returns
returns c =
    let exports = c.args.exports.now in
    let l = c.loop-export in
    let flat = c.flatten-export-items.ensures in
    let road = YieldsList-at c.into_iter-export-iterator.ensures.into_iter_gives
    (YieldsList-from_flatten _ option_iter_steps (λ y. y.now) option_to_list (λ x j b. yields_option x.now j b.0 b.1) (YieldsList-at flat.source (YieldsList-from_slice exports cc)) flat.front flat.back flat.done) in
    let end = YieldsList-end road l.yielded _ l.yielded_by _ _ c.in-None.is c.next.ensures.steps in
    added_all c.args.self.now.sets l.self.sets c.args.place exports l.yielded c.told-exports end.0 l.invariant
