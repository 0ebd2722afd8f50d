-- The lines that a cursor has still to give.
use Rattle.std.specs.Prelude.{ℕ, List}
use Rattle.std.specs.Borrow.{Bor}
use Rattle.text.specs.Left.{left}
use Rattle.manifest.specs.declared.lines.Lines.{Lines}
use Rattle.manifest.specs.Lines.{with_offsets}

abbrev pub lines_left : Lines → List (ℕ × List ℕ)
lines_left lines = with_offsets lines.offset (left lines.pieces)

abbrev pub line_said : ℕ × Bor (List ℕ) → ℕ × List ℕ
line_said l = (l.0, l.1.now)
