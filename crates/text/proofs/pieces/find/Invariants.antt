use Rattle.std.proofs.Common.{◌≡◌, ◌+◌, false, drop}
use Rattle.text.specs.Splitting.{reach}
use Rattle.text.proofs.pieces.find.Given as goal

abbrev pub invariant-loop-i : goal.invariant-loop-i
invariant-loop-i l = l.i + reach l.quotes l.separator l.inside (drop l.i l.text) ≡ reach l.quotes l.separator false l.text
