-- What the shelf means whose packages are numbered by their names.
use Rattle.shelf.specs.Meaning.{Meaning}
use Rattle.shelf.specs.declared.shelf.Shelf as shelf
use Rattle.digest.specs.declared.index.Names.{Names}

abbrev pub meaning_of : {S : Type 0} {known : shelf.Ghosts S} → Names S known → Meaning
meaning_of {S} {known} names = known.meaning names.index.shelf.now
