use Rattle.std.proofs.Common.{◌≡◌}
use Rattle.digest.proofs.index.Index.of.Given as goal

abbrev pub invariant-loop : goal.invariant-loop
invariant-loop g l = (l.index.shelf.now ≡ l.shelf) × (l.index.count ≡ l.counter)
