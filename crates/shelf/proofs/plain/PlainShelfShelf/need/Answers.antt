use Rattle.std.proofs.Common.{arith}
use Rattle.std.proofs.lemmas.Option.{gets, slice_get-map}
use Rattle.shelf.proofs.plain.PlainShelfShelf.need.Goals as goal

pub returns : goal.returns
returns c = grind (arith, gets, slice_get-map)
