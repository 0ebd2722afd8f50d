-- What the index answers is what the shelf means.
use Rattle.std.proofs.Common.{◌≡◌, ℕ, List, map, Some, None, Option, sym, refl, ap, ◌∙◌}
use Rattle.std.proofs.lemmas.Option.{slice_get-map}
use Rattle.std.specs.Borrow.{Bor}
use Rattle.std.specs.List.{slice_get}
use Rattle.std.specs.Option.{option_copied, option_flatten, option_map}
use Rattle.shelf.specs.Meaning.{bundle_at}
use Rattle.manifest.specs.declared.entry.BundleEntry.{BundleEntry}
use Rattle.manifest.specs.Index.{bundle_in}

-- an entry that is lent, and what it says
lent_says : {X Y : Type 0} (says : X → Y) (xs : List X) (i : ℕ) (o : Option (Bor X)) → option_copied o ≡ slice_get xs i → option_map (λ x. says x.now) o ≡ slice_get (map says xs) i
lent_says {X} {Y} says xs i o e = copied o ∙ ap (option_map says) e ∙ sym (slice_get-map says xs i)
  where
    copied : (o : Option (Bor X)) → option_map (λ x. says x.now) o ≡ option_map says (option_copied o)
    copied None = refl
    copied (Some x) = refl

pub at_bundle : (bs : List BundleEntry) (place : ℕ) (o : Option (Bor BundleEntry)) → option_copied o ≡ slice_get bs place → option_map (λ b. bundle_in b.now) o ≡ bundle_at (map Some (map bundle_in bs)) place
at_bundle bs place o e = lent_says bundle_in bs place o e ∙ sym (ap option_flatten (slice_get-map Some (map bundle_in bs) place) ∙ flat (slice_get (map bundle_in bs) place))
  where
    flat : {X : Type 0} (o : Option X) → option_flatten (option_map Some o) ≡ o
    flat None = refl
    flat (Some x) = refl
