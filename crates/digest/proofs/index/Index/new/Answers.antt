use Rattle.digest.proofs.Indexing.{index_none}
use Rattle.digest.proofs.index.Index.new.Goals as goal

pub invariant_of-result-clause-indexed : goal.invariant_of-result-clause-indexed
invariant_of-result-clause-indexed g c = index_none (g.S.Shelf.meaning c.args.shelf.now)
