-- What a partial wiring says.
use Rattle.std.specs.Prelude.{ℕ, List, [], length, slice_get, slice_index_or}
use Rattle.arrayvec.specs.ArrayVec.{ArrayVec}
use Rattle.wiring.specs.declared.choice.Choice.{Choice}
use Rattle.wiring.specs.declared.partial.PartialWiring.{PartialWiring}
use Rattle.wiring.specs.Wirings.{Table}

-- the choices for the first needs of a bundle; none past the last place
abbrev pub choices_of : List (ArrayVec Choice) → ℕ → List Choice
choices_of rows b = (slice_index_or rows b (record { items = [] })).items

abbrev pub count_of : PartialWiring → ℕ → ℕ
count_of w b = length (choices_of w.rows b)

-- the needs that have no such choice are open
abbrev pub table_of : PartialWiring → Table
table_of w b k = slice_get (choices_of w.rows b) k
