use Rattle.std.proofs.Common.{◌≡◌, map, Some}
use Rattle.text.specs.Left.{left}
use Rattle.manifest.specs.Clauses.{clause, with_parameters}
use Rattle.manifest.specs.Parameters.{parameter_of}
use Rattle.manifest.specs.Parts.{raw_in}
use Rattle.manifest.proofs.clauses.clause.Given as goal

abbrev pub invariant-loop-piece : goal.invariant-loop-piece
invariant-loop-piece l = with_parameters (Some (raw_in l.clause)) (map (parameter_of l.grammar) (left l.piece-iterator)) ≡ clause l.grammar l.piece
