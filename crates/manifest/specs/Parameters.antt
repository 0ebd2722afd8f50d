-- The parameters of clauses, and what a text says as one.
use Rattle.std.specs.Prelude.{ℕ, ◌+◌, Bool, true, false, cond, List, [], ◌∷◌, length, take, Some, None, codes, Option, ◌==◌}
use Rattle.std.specs.Option.{option_map, option_or}
use Rattle.text.specs.Splitting.{parts, reach}
use Rattle.shelf.specs.Meaning.{Name, bound}
use Rattle.shelf.specs.declared.need.Resolution.{Resolution}
use Rattle.shelf.specs.declared.need.Resolution.TheVariants.{Mandatory, Optional}
use Rattle.shelf.specs.declared.need.Visibility.{Visibility}
use Rattle.shelf.specs.declared.need.Visibility.TheVariants.{Private, Reexport}
use Rattle.manifest.specs.declared.header.Grammar.{Grammar}
use Rattle.manifest.specs.declared.header.Grammar.TheVariants.{Exports, Imports, Requires}
use Rattle.text.specs.Bytes.{equal}
use Rattle.manifest.specs.Names.{all, is_name}

-- Which parameters the clauses of each header may have, and the key of the version among them.
abbrev pub version_key : Grammar → List ℕ
version_key Exports = codes "version="
version_key Imports = codes "version="
version_key Requires = codes "bundle-version="

abbrev pub has_uses : Grammar → Bool
has_uses Exports = true
has_uses Imports = false
has_uses Requires = false

abbrev pub has_resolution : Grammar → Bool
has_resolution Exports = false
has_resolution Imports = true
has_resolution Requires = true

abbrev pub has_visibility : Grammar → Bool
has_visibility Exports = false
has_visibility Imports = false
has_visibility Requires = true

-- one parameter; the text of a version or a range is any bytes but a double quote, or none at all
pub data Parameter : Type 0 where
  version : List ℕ → Parameter
  uses : List Name → Parameter
  resolution : Resolution → Parameter
  visibility : Visibility → Parameter

-- what follows the key
abbrev pub after : List ℕ → List ℕ → Option (List ℕ)
after [] text = Some text
after (k ∷ ks) [] = None
after (k ∷ ks) (b ∷ bs) = cond (k == b) (after ks bs) None

-- what stands before a double quote, the only one, at the end
abbrev pub unquoted : List ℕ → Option (List ℕ)
unquoted text = let end = reach false 34 false text in cond (end + 1 == length text) (Some (take end text)) None

-- KEY"TEXT" gives TEXT
abbrev pub quoted_after : List ℕ → List ℕ → Option (List ℕ)
quoted_after key text = bound (bound (after key text) (after (34 ∷ []))) unquoted

-- names joined by commas, at least one
abbrev pub names_of : List ℕ → Option (List Name)
names_of text = let names = parts 44 text in cond (all is_name names) (Some names) None

abbrev pub resolution_of : List ℕ → Option Resolution
resolution_of text = cond (equal text (codes "mandatory")) (Some Mandatory) (cond (equal text (codes "optional")) (Some Optional) None)

abbrev pub visibility_of : List ℕ → Option Visibility
visibility_of text = cond (equal text (codes "private")) (Some Private) (cond (equal text (codes "reexport")) (Some Reexport) None)

abbrev pub only_if : {X : Type 0} → Bool → Option X → Option X
only_if true x = x
only_if false x = None

-- what a text says as a parameter, by its key; nothing where the header's clauses have no such parameter
abbrev pub parameter_of : Grammar → List ℕ → Option Parameter
parameter_of g text =
    option_or
    (option_map version (quoted_after (version_key g) text))
    (option_or
    (only_if (has_uses g) (option_map uses (bound (quoted_after (codes "uses:=") text) names_of)))
    (option_or
    (only_if (has_resolution g) (option_map resolution (bound (after (codes "resolution:=") text) resolution_of)))
    (only_if (has_visibility g) (option_map visibility (bound (after (codes "visibility:=") text) visibility_of)))))
