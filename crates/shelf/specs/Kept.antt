-- A proof, nothing to believe: the limits hold where it is known that they do, since each of them can hold in one way only.
use Rattle.std.specs.Prelude.{◌≤◌, length, IfSome, Some, None, Option}
use Rattle.std.proofs.Math.Bridge.{le_prop}
use Rattle.std.proofs.Math.Nat.{ℕ_set}
use Rattle.std.proofs.Math.Bool.{Bool-set}
use Rattle.std.proofs.Math.Logic.{∥∥₁_elim, ∥∥₁_map}
use Rattle.std.specs.List.{slice_get}
use Rattle.shelf.specs.Meaning.{Bundle, Export, FewItems, Meaning, WellFormed, bundle_at}

uses-kept : (o : Option Export) → ∥ IfSome o (λ e. length e.uses ≤ 8) ∥₁ → IfSome o (λ e. length e.uses ≤ 8)
uses-kept None h = tt
uses-kept (Some e) h = ∥∥₁_elim h le_prop (λ x. x)

items_kept : (o : Option Bundle) → ∥ IfSome o FewItems ∥₁ → IfSome o FewItems
items_kept None h = tt
items_kept (Some b) h =
    record {
      exports = record {
        most = ∥∥₁_elim h le_prop (λ x. x.exports.most);
        uses = λ j. uses-kept (slice_get b.exports j) (∥∥₁_map h (λ x. x.exports.uses j));
        once = λ i j e f p q s. ∥∥₁_elim h (ℕ_set i j) (λ x. x.exports.once i j e f p q s);
      };
      needs = record {
        most = ∥∥₁_elim h le_prop (λ x. x.needs.most);
        order = λ i j a b lt p q s. ∥∥₁_elim h (Bool-set _ _) (λ x. x.needs.order i j a b lt p q s);
        once = λ i j a b p q k s. ∥∥₁_elim h (ℕ_set i j) (λ x. x.needs.once i j a b p q k s);
      };
    }

pub kept : (m : Meaning) → ∥ WellFormed m ∥₁ → WellFormed m
kept m h =
    record {
      places = ∥∥₁_elim h le_prop (λ w. w.places);
      each = λ place. items_kept (bundle_at m place) (∥∥₁_map h (λ w. w.each place));
    }
