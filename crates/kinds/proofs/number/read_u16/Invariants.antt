use Rattle.std.proofs.Common.{◌≡◌, ◌<◌, drop}
use Rattle.kinds.specs.Number.{number}
use Rattle.kinds.proofs.Numerals.{onward}
use Rattle.kinds.proofs.number.read_u16.Given as goal

abbrev pub invariant-loop-b : goal.invariant-loop-b
invariant-loop-b l = (l.n < 65536) × (number l.text ≡ onward l.n (drop l.b-index l.text))
