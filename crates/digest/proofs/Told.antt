-- What is read from the arrays of a digest.
use Rattle.std.proofs.Common.{◌≡◌, ℕ, ◌≤◌, Bool, true, false, List, is_some, Some, None, MatchOption, Option, sym, ap, ◌∙◌, arith, Bor}
use Rattle.std.specs.Option.{option_copied, option_map}
use Rattle.std.specs.Slice.{IsItemAt}
use Rattle.std.proofs.lemmas.Bool.{both_ways}
use Rattle.std.proofs.lemmas.Option.{slice_get_read}
use Rattle.kinds.specs.declared.controller.ControllerNumber.{ControllerNumber}
use Rattle.kinds.specs.declared.version.Version.{Version}
use Rattle.places.specs.Sets.{has}
use Rattle.places.specs.declared.set.PlaceSet.{PlaceSet}
use Rattle.shelf.specs.Meaning.{Name, Need, Meaning, WellFormed, bound, bundle_at, need_at, version_at}
use Rattle.shelf.specs.declared.need.NeedKind.TheVariants.{Import, Require}
use Rattle.shelf.specs.declared.need.Visibility.{Visibility}
use Rattle.wiring.specs.Candidates.{range_holds, candidate, candidate_at, exported, fits, need_own, offered, offered_at, own_at}
use Rattle.digest.specs.Each.{Each}
use Rattle.digest.specs.Needs.{IsNeed, NeedAt, may_stay, optional_in}
use Rattle.digest.specs.Packages.{NumberOf, Numbering}
use Rattle.digest.specs.declared.need.NeedDigest.{NeedDigest}
use Rattle.digest.proofs.Served.{imported_name, own_none, served_fits, served_import, served_own, served_require}

-- what `get` lends, and where it lends nothing
module _ {A : Type 0} (n : ℕ) (P : ℕ → A → Type 0) (xs : List A) (i : ℕ) (each : Each n P xs) where
  pub got_item : (x : Bor A) → IsItemAt xs i (Some x) → P i x.now
  got_item x h =
      let l = each.long in
      let b = h.3.0 in
      each.at i x.now (slice_get_read xs n i x.now (sym l) (omega arith) h.1)

  pub got_past : IsItemAt xs i None → n ≤ i
  got_past h = let l = each.long in let b = h.3 in omega arith

pub lent : {A : Type 0} (P : Type 0) (Q : A → Type 0) (r : Option (Bor A)) (o : Option A) → option_copied r ≡ o → MatchOption o P Q → MatchOption r P (λ x. Q x.now)
lent P Q None o e h = rw (← e) at h
lent P Q (Some x) o e h = rw (← e) at h

-- The number of a package that is read.
pub numbering_as : (m : Meaning) (o p : Option Name) (r s : Option ℕ) → o ≡ p → r ≡ s → Numbering m p s → Numbering m o r
numbering_as m o p r s e f h = rw (e, f) h

pub unnumbered : (m : Meaning) (o : Option Name) (r : Option ℕ) → o ≡ None → r ≡ None → Numbering m o r
unnumbered m o r e f = rw f (λ q g n x. let clash : ◌≡◌ {A = Option Name} None (Some q) = sym e ∙ g in cc)

-- What a test of a need that is read says.
module _ (m : Meaning) (controller : ControllerNumber) (b k : ℕ) (r : Bool) where
  pub own_told : (o : Option NeedDigest) → NeedAt m controller b k o → MatchOption o (r ≡ false) (λ d. r ≡ d.own) → r ≡ own_at m b k
  own_told None none h = h ∙ sym (ap (need_own m b) none)
  own_told (Some d) (n, there, is) h = h ∙ is.own ∙ sym (ap (need_own m b) there)

  pub optional_told : (o : Option NeedDigest) → NeedAt m controller b k o → MatchOption o (r ≡ false) (λ d. r ≡ may_stay d.resolution) → r ≡ optional_in (need_at m b k)
  optional_told None none h = h ∙ sym (ap optional_in none)
  optional_told (Some d) (n, there, is) h = h ∙ ap may_stay is.resolution ∙ sym (ap optional_in there)

-- What is offered for need k of b, and by whom, once it is known which need that is.
module _ (m : Meaning) (controller : ControllerNumber) (b k c : ℕ) {o : Option Need} (there : need_at m b k ≡ o) where
  pub offered_of : bound o (λ n. offered m controller b n c) ≡ offered_at m controller b k c
  offered_of = sym (ap (λ o. bound o (λ n. offered m controller b n c)) there)

  pub candidate_of : is_some (bound o (λ n. offered m controller b n c)) ≡ candidate_at m controller b k c
  candidate_of = ap is_some offered_of

-- Who can serve a need that is read.
pub candidates_told : (m : Meaning) (controller : ControllerNumber) (b k : ℕ) (r e : PlaceSet) (o : Option NeedDigest) (Q : NeedDigest → Type 0) → NeedAt m controller b k o → MatchOption o (r ≡ e) Q →
    ((c : ℕ) → has e c ≡ false) → ((d : NeedDigest) → Q d → (c : ℕ) → has r c ≡ has d.candidates c) → (c : ℕ) → has r c ≡ candidate_at m controller b k c
candidates_told m controller b k r e None Q none h empty read c = ap (λ s. has s c) h ∙ empty c ∙ candidate_of m controller b k c none
candidates_told m controller b k r e (Some d) Q (n, there, is) h empty read c = read d h c ∙ is.candidates c ∙ candidate_of m controller b k c there

-- Who is no candidate offers nothing, so an answer that is no version is right.
pub unserved : (r o : Option Version) → r ≡ None → is_some o ≡ false → r ≡ o
unserved r None none e = none
unserved r (Some v) none e = absurd (cc)

-- A candidate for need k is in the set that stands for the need.
pub serving : (m : Meaning) (controller : ControllerNumber) (b k c : ℕ) (n : Need) (d : NeedDigest) → need_at m b k ≡ Some n → IsNeed m controller b n d → candidate_at m controller b k c ≡ true → has d.candidates c ≡ true
serving m controller b k c n d there is served = is.candidates c ∙ candidate_of m controller b k c there ∙ served

-- The version that c offers for a need that is there, if it is a candidate.
module _ (m : Meaning) (w : WellFormed m) (controller : ControllerNumber) (b c : ℕ) (n : Need) (d : NeedDigest) (is : IsNeed m controller b n d)
    (served : has d.candidates c ≡ true) where
  serves : candidate m controller b n c ≡ true
  serves = sym (is.candidates c) ∙ served

  pub never_unnumbered : d.kind ≡ Import → d.imports ≡ None → ⊥
  never_unnumbered k none =
      let imports = is.imports in
      both_ways _ (own_none m w n c (rw none at imports)) (served_own m controller b n c serves (sym is.kind ∙ k))

  pub never_absent : bundle_at m c ≡ None → ⊥
  never_absent none = both_ways (fits m controller c) (ap (λ o. range_holds (option_map (λ x. x.controllers) o) controller) none) (served_fits m controller b n c serves)

  pub offers_import : (number : ℕ) (r : Option Version) → d.kind ≡ Import → d.imports ≡ Some number → ((q : _) → NumberOf m q number → r ≡ exported m c q) → r ≡ offered m controller b n c
  offers_import number r k some found =
      let imports = is.imports in
      let (q, e, f) = rw some at imports in
      let (kind, name) = imported_name n.kind n.name q e in
      found q f ∙ ap (exported m c) (sym name) ∙ sym (served_import m controller b n c serves kind)

  pub offers_require : (v : Visibility) (r : Option Version) → d.kind ≡ Require v → version_at m c ≡ r → r ≡ offered m controller b n c
  offers_require v r k version = sym version ∙ sym (served_require m controller b n c serves v (sym is.kind ∙ k))
