-- What the entries of the index say.
use Rattle.std.specs.Prelude.{ℕ, List, [], map, Option}
use Rattle.std.specs.Borrow.{Bor}
use Rattle.std.specs.Option.{option_map, unwrap_or}
use Rattle.arrayvec.specs.ArrayVec.{ArrayVec}
use Rattle.shelf.specs.declared.need.Need as asked
use Rattle.shelf.specs.Lent.{need_of}
use Rattle.shelf.specs.Meaning.{Name, Export, Need, Bundle}
use Rattle.manifest.specs.declared.entry.BundleEntry.{BundleEntry}
use Rattle.manifest.specs.declared.entry.ExportEntry.{ExportEntry}

-- the names of a list, none where it is not given
abbrev pub used_in : Option (ArrayVec (Bor (List ℕ))) → List Name
used_in names = unwrap_or (option_map (λ v. map (λ u. u.now) v.items) names) []

abbrev pub export_in : ExportEntry → Export
export_in e = record { name = e.name.now; version = e.version; uses = used_in e.uses }

abbrev pub exports_in : ArrayVec ExportEntry → List Export
exports_in es = map export_in es.items

abbrev pub needs_in : ArrayVec asked.Need → List Need
needs_in ns = map need_of ns.items

abbrev pub bundle_in : BundleEntry → Bundle
bundle_in b =
    record {
      name = b.name.now;
      version = b.version;
      controllers = b.controllers;
      exports = unwrap_or (option_map exports_in b.exports) [];
      needs = needs_in b.needs;
    }

-- the bundles of the index, in order
abbrev pub bundles_in : ArrayVec BundleEntry → List Bundle
bundles_in bs = map bundle_in bs.items
