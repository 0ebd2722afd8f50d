-- What a table of choices keeps.
use Rattle.std.specs.Prelude.{ℕ}
use Rattle.wiring.specs.declared.choice.Choice.{Choice}
use Rattle.wiring.specs.declared.table.ChoiceTable.{ChoiceTable}
use Rattle.wiring.specs.Cells.{choice_in}

abbrev pub chosen : ChoiceTable → ℕ → ℕ → Choice
chosen t b k = choice_in t.rows b k
