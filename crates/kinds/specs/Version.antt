-- Versions: which of two is the lower, and what a text reads as.
use Rattle.std.specs.Prelude.{ℕ, Bool, true, false, cond, ◌&&◌, ◌||◌, List, [], ◌∷◌, drop, Some, None, Option, ◌==◌, nat_lt}
use Rattle.text.specs.Bytes.{is_word}
use Rattle.text.specs.Splitting.{parts}
use Rattle.kinds.specs.declared.version.Version.{Version}
use Rattle.kinds.specs.Number.{number}

-- major, minor and micro compare in this order
abbrev pub lower : Version → Version → Bool
lower v w =
    nat_lt v.major w.major
    || (v.major == w.major && (nat_lt v.minor w.minor || (v.minor == w.minor && nat_lt v.micro w.micro)))

-- the first part as a number; a missing part is 0
abbrev pub front : List (List ℕ) → Option ℕ
front [] = Some 0
front (part ∷ parts) = number part

-- what may follow the three numbers: nothing, or one qualifier of letters, digits, `_` and `-`, at least one
abbrev pub closes : List (List ℕ) → Bool
closes [] = true
closes (qualifier ∷ []) = is_word qualifier
closes (qualifier ∷ (fifth ∷ more)) = false

abbrev pub numbered : Option ℕ → Option ℕ → Option ℕ → Option Version
numbered None minor micro = None
numbered (Some major) None micro = None
numbered (Some major) (Some minor) None = None
numbered (Some major) (Some minor) (Some micro) = Some (record { major = major; minor = minor; micro = micro })

-- major, minor and micro, the parts between dots, and perhaps a qualifier, which is dropped
abbrev pub version_of : List (List ℕ) → Option Version
version_of ps = cond (closes (drop 3 ps)) (numbered (front ps) (front (drop 1 ps)) (front (drop 2 ps))) None

abbrev pub version : List ℕ → Option Version
version text = version_of (parts 46 text)
