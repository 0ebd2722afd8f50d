use Rattle.std.proofs.Common.{◌≡◌, ◌&&◌, [], leb, length, Err, refl, rules}
use Rattle.std.specs.Option.{unwrap_or}
use Rattle.manifest.specs.Names.{all}
use Rattle.manifest.specs.Numbers.{number_of}
use Rattle.manifest.specs.Parts.{raw_in}
use Rattle.manifest.specs.Stages.{kept}
use Rattle.manifest.specs.Values.{export_of, short_name, small_export, version_or}
use Rattle.manifest.proofs.Unread.{unread}
use Rattle.manifest.proofs.items.ExportEntryEntry.from_clause.Goals as goal

pub returns-in_err-version : goal.returns-in_err-version
returns-in_err-version c =
    let raw = raw_in c.args.clause in
    let e : Err (number_of c.in_err-version.field-0.0) ≡ kept small_export (export_of raw) =
    unread (λ v. record { name = raw.name; version = v; uses = unwrap_or raw.uses [] }) small_export (λ _. leb (length (unwrap_or raw.uses [])) 8 && all short_name (unwrap_or raw.uses [])) (version_or raw.version) (short_name raw.name) _ (λ _. refl) c.in_err-version.ensures in
    search rules
