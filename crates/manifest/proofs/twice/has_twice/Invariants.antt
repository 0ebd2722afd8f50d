use Rattle.std.proofs.Common.{◌≡◌, length, map}
use Rattle.manifest.specs.Names.{none_twice}
use Rattle.manifest.proofs.twice.has_twice.Given as goal

abbrev pub invariant-loop-entry : goal.invariant-loop-entry
invariant-loop-entry g l =
    none_twice (map g.T.Entry.called (map g.T.Entry.said l.rest)) ≡ none_twice (map g.T.Entry.called (map g.T.Entry.said l.entries))

abbrev pub decreases-loop-entry : goal.decreases-loop-entry
decreases-loop-entry g l = length l.rest
