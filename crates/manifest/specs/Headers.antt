-- Header lines, and the headers of the manifest that is open.
use Rattle.std.specs.Prelude.{ℕ, false, cond, not, ◌&&◌, List, [], ◌∷◌, length, take, drop, is_some, Some, None, Ok, codes, Option, Result, nat_le}
use Rattle.std.specs.Option.{unwrap_or}
use Rattle.std.specs.Result.{result_map_both}
use Rattle.text.specs.Splitting.{reach}
use Rattle.kinds.specs.declared.controller.ControllerNumber.{ControllerNumber}
use Rattle.kinds.specs.declared.range.Range.{Range}
use Rattle.kinds.specs.declared.version.Version.{Version}
use Rattle.shelf.specs.Meaning.{Name, Export, Need, bound}
use Rattle.manifest.specs.declared.header.Header.{Header}
use Rattle.manifest.specs.declared.header.Header.TheVariants.{SymbolicName, BundleVersion, Controller, ExportPackage, ImportPackage, RequireBundle, Unknown}
use Rattle.text.specs.Bytes.{equal, is_word}
use Rattle.manifest.specs.Parameters.{after}
use Rattle.manifest.specs.Questions.{asks, gets}
use Rattle.manifest.specs.Values.{symbolic_name_in, version_in, controllers_in, exports_in, imports_in, requires_in}

-- the header of that name
abbrev pub header_named : List ℕ → Header
header_named name =
    cond (equal name (codes "Bundle-SymbolicName")) SymbolicName
    (cond (equal name (codes "Bundle-Version")) BundleVersion
    (cond (equal name (codes "X-Controller")) Controller
    (cond (equal name (codes "Export-Package")) ExportPackage
    (cond (equal name (codes "Import-Package")) ImportPackage
    (cond (equal name (codes "Require-Bundle")) RequireBundle Unknown)))))

pub record HeaderLine : Type 0 where
  pub header : Header
  pub value : List ℕ

abbrev pub with_value : Header → List ℕ → Option HeaderLine
with_value h [] = None
with_value h (b ∷ bs) = Some (record { header = h; value = b ∷ bs })

-- 1 to 64 letters, digits, `-` and `_`, a colon, one space, and a value of at least one byte
abbrev pub header_line : List ℕ → Option HeaderLine
header_line line =
    let colon = reach false 58 false line in
    let name = take colon line in
    cond (is_word name && nat_le colon 64) (bound (after (codes ": ") (drop colon line)) (with_value (header_named name))) None

-- the known headers so far of the manifest that is open
pub record Headers : Type 0 where
  pub name : Option Name
  pub version : Option Version
  pub controllers : Option (Range ControllerNumber)
  pub exports : Option (List Export)
  pub imports : Option (List Need)
  pub requires : Option (List Need)

abbrev pub no_headers : Headers
no_headers = record { name = None; version = None; controllers = None; exports = None; imports = None; requires = None }

-- how many needs a header has given
abbrev pub count : Option (List Need) → ℕ
count ns = length (unwrap_or ns [])

-- question 6: a known header is new to its manifest; and then those about its value
abbrev pub fresh : {X : Type 0} → Option X → Result X ℕ → (X → Headers) → Result Headers ℕ
fresh known value with = asks 6 (not (is_some known)) (result_map_both with (λ n. n) value)

-- the headers with one more
abbrev pub with_header : Headers → Header → List ℕ → Result Headers ℕ
with_header h SymbolicName value = fresh h.name (symbolic_name_in value) (λ x. record { name = Some x; version = h.version; controllers = h.controllers; exports = h.exports; imports = h.imports; requires = h.requires })
with_header h BundleVersion value = fresh h.version (version_in value) (λ x. record { name = h.name; version = Some x; controllers = h.controllers; exports = h.exports; imports = h.imports; requires = h.requires })
with_header h Controller value = fresh h.controllers (controllers_in value) (λ x. record { name = h.name; version = h.version; controllers = Some x; exports = h.exports; imports = h.imports; requires = h.requires })
with_header h ExportPackage value = fresh h.exports (exports_in value) (λ x. record { name = h.name; version = h.version; controllers = h.controllers; exports = Some x; imports = h.imports; requires = h.requires })
with_header h ImportPackage value = fresh h.imports (imports_in (count h.requires) value) (λ x. record { name = h.name; version = h.version; controllers = h.controllers; exports = h.exports; imports = Some x; requires = h.requires })
with_header h RequireBundle value = fresh h.requires (requires_in (count h.imports) value) (λ x. record { name = h.name; version = h.version; controllers = h.controllers; exports = h.exports; imports = h.imports; requires = Some x })
with_header h Unknown value = Ok h

-- the headers after a line: question 5, it is a header line, and then those about its header
abbrev pub header_step : Headers → List ℕ → Result Headers ℕ
header_step h line = gets 5 (header_line line) (λ l. with_header h l.header l.value)
