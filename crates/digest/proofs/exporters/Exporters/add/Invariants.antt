use Rattle.digest.proofs.Gathering.{AddedBy}
use Rattle.digest.proofs.exporters.Exporters.add.Given as goal

abbrev pub invariant-loop-export : goal.invariant-loop-export
invariant-loop-export l = AddedBy l.initial.self.sets l.place l.yielded l.self.sets
