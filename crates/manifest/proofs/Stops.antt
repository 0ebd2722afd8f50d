-- A clause that does not read stays unread, whatever follows.
use Rattle.std.proofs.Common.{◌≡◌, List, [], ◌∷◌, None, Option, refl}
use Rattle.manifest.specs.Clauses.{with_parameters}
use Rattle.manifest.specs.Parameters.{Parameter}

pub none_stays : (ps : List (Option Parameter)) → with_parameters None ps ≡ None
none_stays [] = refl
none_stays (p ∷ ps) = none_stays ps
