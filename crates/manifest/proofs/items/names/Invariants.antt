use Rattle.std.proofs.Common.{◌≡◌, ◌+◌, ◌≤◌, cond, ◌&&◌, ◌++◌, leb, length, map, Some, None}
use Rattle.text.specs.Left.{left}
use Rattle.text.specs.Splitting.{parts}
use Rattle.manifest.specs.Names.{all}
use Rattle.manifest.specs.Stages.{few_names, within}
use Rattle.manifest.specs.Values.{short_name}
use Rattle.manifest.proofs.items.names.Given as goal

abbrev pub invariant-loop-name : goal.invariant-loop-name
invariant-loop-name l =
    let more = left l.name-iterator in
    (length l.found.items ≤ 8)
    × (cond (leb (length l.found.items + length more) 8 && all short_name more) (Some (map (λ u. u.now) l.found.items ++ more)) None ≡ within few_names (parts 44 l.list))
