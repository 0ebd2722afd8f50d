use Rattle.std.proofs.Common.{length}
use Rattle.shelf.specs.Limits.{Clear}
use Rattle.shelf.proofs.listed.is_clear.Given as goal

abbrev pub invariant-loop-item : goal.invariant-loop-item
invariant-loop-item g l =
    record {
      whole : Clear g.T.Listed.barred l.rest → Clear g.T.Listed.barred l.items;
      part : Clear g.T.Listed.barred l.items → Clear g.T.Listed.barred l.rest;
    }

abbrev pub decreases-loop-item : goal.decreases-loop-item
decreases-loop-item g l = length l.rest
