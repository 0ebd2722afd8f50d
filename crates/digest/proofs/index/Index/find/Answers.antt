use Rattle.std.proofs.Common.{None}
use Rattle.std.proofs.lemmas.Bool.{both_ways}
use Rattle.digest.proofs.Chains.{seek_less, seek_more}
use Rattle.digest.proofs.index.Index.find.Goals as goal

pub loop-at-smaller : goal.loop-at-smaller
loop-at-smaller g c =
    let self = c.args.self.now in
    let m = g.S.Shelf.meaning self.shelf.now in
    let s = rw c.in-Some.is at c.loop-at.invariant in
    rw (c.in-Some.is, c.from-in-Some.ensures) (seek_less m self.count c.args.name.now self.newest self.older self.indexed c.in-Some.n s None)

pub loop-at-preserved : goal.loop-at-preserved
loop-at-preserved g c =
    let self = c.args.self.now in
    let m = g.S.Shelf.meaning self.shelf.now in
    let s = rw c.in-Some.is at c.loop-at.invariant in
    rw c.from-in-Some.ensures (seek_more m self.count c.args.name.now self.newest self.older self.indexed c.in-Some.n s None (λ n. both_ways _ c.if-is_of.false (rw c.from.ensures at c.is_of.ensures.1 n)))
