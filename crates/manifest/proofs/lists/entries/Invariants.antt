use Rattle.std.proofs.Common.{◌≡◌, ◌≤◌, length, map}
use Rattle.text.specs.Left.{left}
use Rattle.manifest.specs.Clauses.{form}
use Rattle.manifest.specs.Stages.{clauses_kept}
use Rattle.manifest.proofs.Gathers.{gathers}
use Rattle.manifest.proofs.lists.entries.Given as goal

abbrev pub invariant-loop-piece : goal.invariant-loop-piece
invariant-loop-piece g l =
    (length l.list.items ≤ g.row.N)
    × (gathers g.row.N g.T.Entry.small l.grammar (g.T.Entry.reads l.grammar) l.unread l.over (map g.T.Entry.said l.list.items) (left l.piece-iterator)
    ≡ clauses_kept g.row.N g.T.Entry.small (g.T.Entry.reads l.grammar) (form l.grammar l.value))
