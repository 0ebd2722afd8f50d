-- The table of headers, and the definition that asks name by name.
use Rattle.std.proofs.Common.{◌≡◌, Bool, true, false, cond, Some, None, refl}
use Rattle.std.specs.Option.{unwrap_or}
use Rattle.manifest.specs.declared.header.Header.TheVariants.{SymbolicName, BundleVersion, Controller, ExportPackage, ImportPackage, RequireBundle, Unknown}

pub header_chosen : (a b c d e f : Bool)
    → unwrap_or (cond a (Some SymbolicName) (cond b (Some BundleVersion) (cond c (Some Controller) (cond d (Some ExportPackage) (cond e (Some ImportPackage) (cond f (Some RequireBundle) None)))))) Unknown
    ≡ cond a SymbolicName (cond b BundleVersion (cond c Controller (cond d ExportPackage (cond e ImportPackage (cond f RequireBundle Unknown)))))
header_chosen true b c d e f = refl
header_chosen false true c d e f = refl
header_chosen false false true d e f = refl
header_chosen false false false true e f = refl
header_chosen false false false false true f = refl
header_chosen false false false false false true = refl
header_chosen false false false false false false = refl
