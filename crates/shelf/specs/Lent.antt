-- What the structs that a shelf lends say: an export without its used names, and a need.
use Rattle.std.specs.Prelude.{ℕ, Option}
use Rattle.std.specs.Option.{option_map}
use Rattle.kinds.specs.declared.version.Version.{Version}
use Rattle.shelf.specs.Meaning.{Name, Meaning, Export, Need, export_at}
use Rattle.shelf.specs.declared.export.Export as lent
use Rattle.shelf.specs.declared.need.Need as asked

-- an export's package and version
pub record Offer : Type 0 where
  pub name : Name
  pub version : Version

abbrev pub offer_in : Export → Offer
offer_in e = record { name = e.name; version = e.version }

abbrev pub offer_at : Meaning → ℕ → ℕ → Option Offer
offer_at m place j = option_map offer_in (export_at m place j)

abbrev pub offer_of : lent.Export → Offer
offer_of e = record { name = e.name.now; version = e.version }

abbrev pub need_of : asked.Need → Need
need_of n = record { kind = n.kind; name = n.name.now; range = n.range; resolution = n.resolution }
