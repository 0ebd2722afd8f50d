-- A table of choices, a row of 16 cells for each of 64 places.
use Rattle.std.specs.Prelude.{ℕ, Bool, ◌&&◌, List, [], ◌==◌, nat_lt, slice_index_or}
use Rattle.wiring.specs.declared.choice.Choice.{Choice}
use Rattle.wiring.specs.declared.choice.Choice.TheVariants.{Unwired}

-- what the rows keep for need k of b; past them nothing is wired
abbrev pub choice_in : List (List Choice) → ℕ → ℕ → Choice
choice_in rows b k = slice_index_or (slice_index_or rows b []) k Unwired

-- need k of b is that need of that place, and there is a cell for it
abbrev pub is_cell : ℕ → ℕ → ℕ → ℕ → Bool
is_cell place need b k = (b == place && k == need) && (nat_lt place 64 && nat_lt need 16)
