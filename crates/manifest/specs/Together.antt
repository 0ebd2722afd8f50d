-- How many needs a header has given.
use Rattle.std.specs.Prelude.{ℕ, length, Some, None, Option}
use Rattle.arrayvec.specs.ArrayVec.{ArrayVec}
use Rattle.shelf.specs.declared.need.Need.{Need}

abbrev pub given : Option (ArrayVec Need) → ℕ
given None = 0
given (Some ns) = length ns.items
