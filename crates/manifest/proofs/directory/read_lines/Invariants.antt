use Rattle.std.proofs.Common.{◌≡◌}
use Rattle.text.specs.Splitting.{parts}
use Rattle.manifest.specs.LinesLeft.{lines_left}
use Rattle.manifest.specs.Reading.{start, walk}
use Rattle.manifest.specs.States.{state_in}
use Rattle.manifest.proofs.Walks.{walk_over}
use Rattle.manifest.proofs.directory.read_lines.Given as goal

abbrev pub invariant-loop-offset : goal.invariant-loop-offset
invariant-loop-offset l = walk_over (state_in l.reader) (lines_left l.offset-iterator) ≡ walk 0 start (parts 10 l.text)
