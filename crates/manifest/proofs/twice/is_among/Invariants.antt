use Rattle.std.proofs.Common.{◌≡◌, map, drop}
use Rattle.manifest.specs.Names.{among}
use Rattle.manifest.proofs.twice.is_among.Given as goal

abbrev pub invariant-loop-entry : goal.invariant-loop-entry
invariant-loop-entry g l =
    among l.name (map g.T.Entry.called (map g.T.Entry.said (drop l.entry-index l.entries))) ≡ among l.name (map g.T.Entry.called (map g.T.Entry.said l.entries))
