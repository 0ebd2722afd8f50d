use Rattle.std.proofs.Common.{◌≡◌, ◌<◌, drop}
use Rattle.digest.specs.Index.{rolled}
use Rattle.digest.proofs.bucket.bucket.Given as goal

abbrev pub invariant-loop-b : goal.invariant-loop-b
invariant-loop-b l = (l.h < 65536) × (rolled l.h (drop l.b-index l.name) ≡ rolled 0 l.name)
