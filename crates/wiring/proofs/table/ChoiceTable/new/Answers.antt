use Rattle.std.proofs.Common.{rules}
use Rattle.wiring.proofs.Cells.{fresh, fresh-full}
use Rattle.wiring.proofs.table.ChoiceTable.new.Goals as goal

pub invariant_of-result : goal.invariant_of-result
invariant_of-result c = record { full = fresh-full _ 64 16 }

pub returns : goal.returns
returns c = λ b k. fresh _ 64 16 b k (search rules)
