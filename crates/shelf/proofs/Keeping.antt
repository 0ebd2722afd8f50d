-- The limits of plain values, item by item and put together.
use Rattle.std.proofs.Common.{◌≤◌, Bool, All, List, [], map, length, IfSome, Some, None, Decides, Option, arith}
use lib.ListN.{length-map}
use Rattle.std.specs.Option.{option_flatten, option_map}
use Rattle.std.specs.List.{slice_get}
use Rattle.std.proofs.lemmas.Bool.Decides.{Decides-like}
use Rattle.shelf.specs.declared.need.Need as lent
use Rattle.shelf.specs.declared.values.PlainExport.{PlainExport}
use Rattle.shelf.specs.declared.values.PlainBundle.{PlainBundle}
use Rattle.shelf.specs.Lent.{need_of}
use Rattle.shelf.specs.Limits.{BarsNeed, Clear, SameExport}
use Rattle.shelf.specs.Meaning.{Bundle, FewExports, FewItems, FewNeeds, WellFormed}
use Rattle.shelf.specs.Plain.{bundle_meant, export_meant, meant}
use Rattle.shelf.proofs.Barred.{clear_map, clear_unmap, few-exports, exports_clear, few-needs, needs_clear}
use Rattle.shelf.proofs.Every.{each_at, all_from_each}

pub exports_keep : (xs : List PlainExport) (r : Bool) → length xs ≤ 16 → All (λ e. length (export_meant e).uses ≤ 8) xs → Decides r (Clear (λ e f. SameExport (export_meant e) (export_meant f)) xs) → Decides r (FewExports (map export_meant xs))
exports_keep xs r most uses h =
    Decides-like r
    (λ clear. few-exports (map export_meant xs) (omega (arith, length-map xs export_meant)) (each_at export_meant (λ e. length e.uses ≤ 8) xs uses) (clear_map SameExport export_meant xs clear))
    (λ few. clear_unmap SameExport export_meant xs (exports_clear (map export_meant xs) few))
    h

pub uses_keep : (xs : List PlainExport) → FewExports (map export_meant xs) → All (λ e. length (export_meant e).uses ≤ 8) xs
uses_keep xs few = all_from_each export_meant (λ e. length e.uses ≤ 8) xs few.uses

pub needs_keep : (xs : List lent.Need) (r : Bool) → length xs ≤ 16 → Decides r (Clear (λ a b. BarsNeed (need_of a) (need_of b)) xs) → Decides r (FewNeeds (map need_of xs))
needs_keep xs r most h =
    Decides-like r
    (λ clear. few-needs (map need_of xs) (omega (arith, length-map xs need_of)) (clear_map BarsNeed need_of xs clear))
    (λ few. clear_unmap BarsNeed need_of xs (needs_clear (map need_of xs) few))
    h

flattened : (o : Option (Option Bundle)) → IfSome o (λ p. IfSome p FewItems) → IfSome (option_flatten o) FewItems
flattened None h = tt
flattened (Some o) h = h

unflattened : (o : Option (Option Bundle)) → IfSome (option_flatten o) FewItems → IfSome o (λ p. IfSome p FewItems)
unflattened None h = tt
unflattened (Some o) h = h

pub places_keep : (ps : List (Option PlainBundle)) (r : Bool) → length ps ≤ 64 → Decides r (All (λ o. IfSome (option_map bundle_meant o) FewItems) ps) → Decides r (WellFormed (meant ps))
places_keep ps r most h =
    Decides-like r
    (λ all. record {
      places = omega (arith, length-map ps (option_map bundle_meant));
      each = λ place. flattened (slice_get (meant ps) place) (each_at (option_map bundle_meant) (λ o. IfSome o FewItems) ps all place);
    })
    (λ formed. all_from_each (option_map bundle_meant) (λ o. IfSome o FewItems) ps (λ place. unflattened (slice_get (meant ps) place) (formed.each place)))
    h

pub none-formed : WellFormed (meant [])
none-formed = record { places = omega arith; each = λ place. tt }
