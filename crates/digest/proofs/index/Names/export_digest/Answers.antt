use Rattle.std.proofs.Common.{rules, ap, ◌∙◌}
use Rattle.std.proofs.lemmas.Option.{same_Some}
use Rattle.shelf.specs.Lent.{offer_of}
use Rattle.shelf.specs.Meaning.{used_at}
use Rattle.digest.specs.Packages.{Numbering}
use Rattle.digest.specs.Providers.{number_in}
use Rattle.digest.proofs.Made.{made_each}
use Rattle.digest.proofs.Numbers.{number_small}
use Rattle.digest.proofs.Past.{counted}
use Rattle.digest.proofs.Provided.{offered_package}
use Rattle.digest.proofs.index.Names.export_digest.Goals as goal

pub returns-in_err-export_number : goal.returns-in_err-export_number
returns-in_err-export_number g c =
    let shelf = c.args.self.now.index.shelf.now in
    let m = g.S.Shelf.meaning shelf in
    let x = offer_of c.in_ok-export.export in
    let read = rw c.shelf.ensures at c.in_ok-export.ensures in
    absurd (c.in_err-export_number.ensures x.name (counted m (g.met.S.Shelf.formed shelf) c.args.b c.args.j x.name (offered_package m c.args.b c.args.j x read)).1)

pub invariant_of-result : goal.invariant_of-result
invariant_of-result g c =
    let shelf = c.args.self.now.index.shelf.now in
    let m = g.S.Shelf.meaning shelf in
    let w = g.met.S.Shelf.formed shelf in
    let x = offer_of c.in_ok-export.export in
    let read = rw c.shelf.ensures at c.in_ok-export.ensures in
    record {
      small = number_small m w _ x.name (c.in_ok-export_number.ensures x.name (counted m w c.args.b c.args.j x.name (offered_package m c.args.b c.args.j x read)).1);
    }

pub returns : goal.returns
returns g c =
    let shelf = c.args.self.now.index.shelf.now in
    let m = g.S.Shelf.meaning shelf in
    let x = offer_of c.in_ok-export.export in
    let read = rw c.shelf.ensures at c.in_ok-export.ensures in
    let named = offered_package m c.args.b c.args.j x read in
    record {
      number = (x.name, named, c.in_ok-export_number.ensures x.name (counted m (g.met.S.Shelf.formed shelf) c.args.b c.args.j x.name named).1);
      version = λ y e. ap (λ z. z.version) (same_Some x y (read ∙ e));
      used = made_each _ (λ k u. Numbering m (used_at m c.args.b c.args.j k) (number_in u)) _ 8 (λ k u q r. search rules) _ c.from_fn.ensures.items;
    }
