-- The tests of fitting and of candidates come to the rules.
use Rattle.std.proofs.Common.{◌≡◌, ℕ, ◌≤◌, Bool, true, false, cond, not, ◌&&◌, eqb, ◌↔◌, is_some, Some, None, Decides, Option, sym, refl, ap, ◌∙◌, arith}
use Rattle.std.specs.Option.{option_flatten, option_map}
use Rattle.std.specs.Str.{bytes_eq}
use Rattle.std.proofs.lemmas.Slice.Eq.{bytes_eq-Decides}
use Rattle.std.proofs.lemmas.Option.{slice_get_past}
use Rattle.std.proofs.lemmas.Bool.Decides.{nat_tests}
use Rattle.kinds.proofs.Tables.{controller_either, holding-decides, version_either}
use Rattle.kinds.specs.Controller.{before}
use Rattle.kinds.specs.Range.{Holds, holding}
use Rattle.kinds.specs.Version.{lower}
use Rattle.kinds.specs.declared.controller.ControllerNumber.{ControllerNumber}
use Rattle.kinds.specs.declared.range.Range.{Range}
use Rattle.kinds.specs.declared.version.Version.{Version}
use Rattle.shelf.proofs.Exported.{only_here}
use Rattle.shelf.specs.Lent.{offer_in}
use Rattle.shelf.specs.Looked.{Exports, ExportsAt}
use Rattle.shelf.specs.Meaning.{Name, Export, Need, Bundle, Meaning, WellFormed, bound, bundle_at, export_at, need_at}
use Rattle.shelf.specs.declared.need.NeedKind.{NeedKind}
use Rattle.shelf.specs.declared.need.NeedKind.TheVariants.{Import, Require}
use Rattle.wiring.specs.Candidates.{range_holds, fits, exported, version_for, in_range, offered, candidate_at}
use Rattle.wiring.specs.Rules.{Fits, Has, Offers, Candidate, Rules}
use Rattle.wiring.proofs.Exported.{exports-decides, found_version, own_decides}

pub fits-decides : (m : Meaning) (controller : ControllerNumber) (c : ℕ) → Decides (fits m controller c) (Fits m controller c)
fits-decides m controller c = go (bundle_at m c)
  where
    go : (o : Option Bundle) → Decides (range_holds (option_map (λ x. x.controllers) o) controller) ((x : Bundle) × (o ≡ Some x) × Holds before x.controllers controller)
    go None = (λ h. absurd (cc), λ (x, e, h). cc)
    go (Some x) =
        let d = holding-decides before controller_either x.controllers controller in
        (λ h. (x, refl, d.0 h), λ (y, e, h). let same : x ≡ y = cc in d.1 (rw same h))

-- the export of a package
the_export : (o : Option Export) (name : Name) → option_map (λ e. e.name) o ≡ Some name → (e : Export) × (o ≡ Some e) × (e.name ≡ name)
the_export None name h = absurd (cc)
the_export (Some e) name h = (e, refl, cc)

module _ (m : Meaning) (formed : WellFormed m) (c : ℕ) (name : Name) where
  export-version : (j : ℕ) (e : Export) → export_at m c j ≡ Some e → e.name ≡ name → Some e.version ≡ exported m c name
  export-version j e at is =
      let here : ExportsAt m c j name = ap (option_map (λ e. e.name)) at ∙ ap Some is in
      found_version m c name j (offer_in e) (only_here m c j name formed here) (sym (ap (option_map offer_in) at))

  has-import : (v : Version) → (exported m c name ≡ Some v) ↔ Has Import m c name v
  has-import v = (there, λ (j, e, at, is, ver). sym (export-version j e at is) ∙ ap Some ver)
    where
      there : exported m c name ≡ Some v → Has Import m c name v
      there h =
          let found : Exports m c name = (exports-decides m c name).0 (ap is_some h) in
          let (e, at, is) = the_export (export_at m c found.0) name found.1 in
          let version = export-version found.0 e at is in
          (found.0, e, at, is, cc)

named_by : (o : Option Bundle) (name : Name) (v : Version) →
    (bound o (λ x. cond (bytes_eq x.name name) (Some x.version) None) ≡ Some v) ↔ ((x : Bundle) × (o ≡ Some x) × (x.name ≡ name) × (x.version ≡ v))
named_by None name v = (λ h. absurd (cc), λ (x, e, is, ver). cc)
named_by (Some x) name v = (
  λ h. (x, refl, grind (arith, bytes_eq-Decides x.name name), grind (arith, bytes_eq-Decides x.name name)),
  λ (y, e, is, ver). let same : x ≡ y = cc in grind (arith, bytes_eq-Decides x.name name),
)

has-version : (m : Meaning) → WellFormed m → (kind : NeedKind) (c : ℕ) (name : Name) (v : Version) → (version_for kind m c name ≡ Some v) ↔ Has kind m c name v
has-version m formed Import c name v = has-import m formed c name v
has-version m formed (Require visibility) c name v = named_by (bundle_at m c) name v

ranged : (range : Range Version) (o : Option Version) (v : Version) → (in_range range o ≡ Some v) ↔ ((o ≡ Some v) × Holds lower range v)
ranged range None v = (λ h. absurd (cc), λ (e, h). e)
ranged range (Some w) v = (cut (holding lower range w) (holding-decides lower version_either range w), back)
  where
    cut : (f : Bool) → Decides f (Holds lower range w) → cond f (Some w) None ≡ Some v → (Some w ≡ Some v) × Holds lower range v
    cut true d h = let same : w ≡ v = cc in (h, rw same at (d.0 refl))
    cut false d h = absurd (cc)

    back : (Some w ≡ Some v) × Holds lower range v → cond (holding lower range w) (Some w) None ≡ Some v
    back (e, h) =
        let same : w ≡ v = cc in
        let t : holding lower range w ≡ true = (holding-decides lower version_either range w).1 (rw same h) in
        rw t e

pub offering : (m : Meaning) (controller : ControllerNumber) (b : ℕ) (n : Need) (c : ℕ) (v : Version) → WellFormed m → (offered m controller b n c ≡ Some v) ↔ Offers m controller b n c v
offering m controller b n c v formed = (go (not (eqb c b) && fits m controller c) refl, back)
  where
    go : (f : Bool) → (not (eqb c b) && fits m controller c) ≡ f → cond f (in_range n.range (version_for n.kind m c n.name)) None ≡ Some v → Offers m controller b n c v
    go true t h =
        let range = (ranged n.range (version_for n.kind m c n.name) v).0 h in
        record {
          other = grind (arith, nat_tests);
          fitting = (fits-decides m controller c).0 (grind arith);
          has = (has-version m formed n.kind c n.name v).0 range.0;
          ranged = range.1;
        }
    go false t h = absurd (cc)

    back : Offers m controller b n c v → offered m controller b n c ≡ Some v
    back o =
        let fit = (fits-decides m controller c).1 o.fitting in
        let t : (not (eqb c b) && fits m controller c) ≡ true = grind (arith, nat_tests, o.other, fit) in
        rw t ((ranged n.range (version_for n.kind m c n.name) v).1 ((has-version m formed n.kind c n.name v).1 o.has, o.ranged))

pub candidate-decides : (m : Meaning) (controller : ControllerNumber) (b k c : ℕ) → WellFormed m → Decides (candidate_at m controller b k c) (Candidate m controller b k c)
candidate-decides m controller b k c formed = go (need_at m b k)
  where
    some : (o : Option Version) → is_some o ≡ true → (v : Version) × (o ≡ Some v)
    some None h = absurd (cc)
    some (Some v) h = (v, refl)

    go : (o : Option Need) → Decides (is_some (bound o (λ n. offered m controller b n c))) ((n : Need) × (v : Version) × (o ≡ Some n) × Offers m controller b n c v)
    go None = (λ h. absurd (cc), λ (n, v, e, h). cc)
    go (Some n) = (
      λ h. let (v, e) = some (offered m controller b n c) h in (n, v, refl, (offering m controller b n c v formed).0 e),
      λ (y, v, e, h). let same : n ≡ y = cc in ap is_some ((offering m controller b n c v formed).1 (rw same h)),
    )

pub rules : Rules
rules = record { fitting = fits-decides; owning = own_decides; offering = offering }

-- past the places there is no candidate
pub candidate_past : (m : Meaning) (controller : ControllerNumber) (b k c : ℕ) → WellFormed m → 64 ≤ c → candidate_at m controller b k c ≡ false
candidate_past m controller b k c formed le = go (need_at m b k)
  where
    absent : bundle_at m c ≡ None
    absent = ap option_flatten (slice_get_past m c (omega (arith, formed.places)))

    unfit : fits m controller c ≡ false
    unfit = ap (λ o. range_holds (option_map (λ x. x.controllers) o) controller) absent

    go : (o : Option Need) → is_some (bound o (λ n. offered m controller b n c)) ≡ false
    go None = refl
    go (Some n) = grind (arith, unfit)
