use Rattle.digest.proofs.Chains.{Seeking, height}
use Rattle.digest.proofs.index.Index.find.Given as goal

abbrev pub invariant-loop-at : goal.invariant-loop-at
invariant-loop-at g l = Seeking (g.S.Shelf.meaning l.self.shelf.now) l.self.count l.name l.at

abbrev pub decreases-loop-at : goal.decreases-loop-at
decreases-loop-at g l = height l.at
