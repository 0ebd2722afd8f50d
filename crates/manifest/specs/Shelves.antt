-- What an opened directory means as a shelf.
use Rattle.std.specs.Prelude.{List, [], map, Some, Ok, Err, Result}
use Rattle.std.proofs.Math.Logic.{∥∥₁_map}
use Rattle.std.proofs.Common.{sym}
use Rattle.shelf.specs.Kept.{kept}
use Rattle.shelf.specs.Meaning.{Bundle, Meaning, WellFormed}
use Rattle.manifest.specs.declared.manifest_shelf.ManifestShelf.{ManifestShelf}
use Rattle.manifest.specs.Index.{bundles_in}
use Rattle.manifest.specs.Limits.{reads-formed}

-- a text that is refused has no bundles
abbrev pub or_empty : {E : Type 0} → Result (List Bundle) E → List Bundle
or_empty (Ok bs) = bs
or_empty (Err e) = []

abbrev pub meaning_of : ManifestShelf → Meaning
meaning_of s = map Some (bundles_in s.bundles)

-- every opened directory keeps the limits of a shelf
pub shelf-formed : (s : ManifestShelf) → WellFormed (meaning_of s)
shelf-formed s = kept (meaning_of s) (∥∥₁_map s.lawful (λ e. reads-formed s.text.now (bundles_in s.bundles) (sym e)))
