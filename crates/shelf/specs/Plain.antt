-- What plain values mean.
use Rattle.std.specs.Prelude.{List, map, Option}
use Rattle.std.specs.Option.{option_map}
use Rattle.shelf.specs.Meaning.{Export, Bundle, Meaning}
use Rattle.shelf.specs.Lent.{need_of}
use Rattle.shelf.specs.declared.values.PlainExport.{PlainExport}
use Rattle.shelf.specs.declared.values.PlainBundle.{PlainBundle}

abbrev pub export_meant : PlainExport → Export
export_meant e = record { name = e.name.now; version = e.version; uses = map (λ x. x.now) e.uses.now }

abbrev pub bundle_meant : PlainBundle → Bundle
bundle_meant b =
    record {
      name = b.name.now;
      version = b.version;
      controllers = b.controllers;
      exports = map export_meant b.exports.now;
      needs = map need_of b.needs.now;
    }

abbrev pub meant : List (Option PlainBundle) → Meaning
meant places = map (option_map bundle_meant) places
