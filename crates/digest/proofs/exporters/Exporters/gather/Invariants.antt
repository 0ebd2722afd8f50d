use Rattle.digest.specs.Exporters.{Gathered}
use Rattle.digest.proofs.exporters.Exporters.gather.Given as goal

abbrev pub invariant-loop-place : goal.invariant-loop-place
invariant-loop-place l = Gathered l.providers l.place l.exporters.sets
