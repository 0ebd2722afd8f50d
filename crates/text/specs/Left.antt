-- The pieces that a cursor has still to give.
use Rattle.std.specs.Prelude.{ℕ, Bool, false, List, [], Some, None, Option}
use Rattle.std.specs.Borrow.{Bor}
use Rattle.text.specs.declared.pieces.Pieces.{Pieces}
use Rattle.text.specs.Splitting.{split}

abbrev pub left_of : Bool → ℕ → Option (Bor (List ℕ)) → List (List ℕ)
left_of quotes sep None = []
left_of quotes sep (Some text) = split quotes sep false text.now

abbrev pub left : Pieces → List (List ℕ)
left p = left_of p.quotes p.separator p.rest
