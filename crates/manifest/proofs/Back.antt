-- Whatever is lawful is read from its text.
use Rattle.std.proofs.Common.{◌≡◌, ℕ, zero, suc, ◌+◌, ◌<◌, ◌≤◌, Bool, true, false, cond, not, ◌&&◌, eqb, List, [], ◌∷◌, ◌++◌, map, length, Some, None, Ok, codes, filter, Option, Result, unwrap_or, sym, refl, ap, ◌∙◌, subst, append_assoc, arith, length-append}
use Rattle.std.specs.Option.{option_map}
use Rattle.std.specs.Result as results
use Rattle.std.specs.List.{AllByRecursion, slice_get}
use Rattle.std.proofs.ByRecursion.{All-append, All-weaker, all_kept_by, kept_by_passes}
use Rattle.std.proofs.lemmas.List.{append-nil}
use Rattle.std.proofs.lemmas.Bool.{and_parts, or_from, eqb-true, ne_eqb, lt-ltb, le-leb, not-true, both_ways}
use Rattle.text.specs.Bytes.{equal, every, lacks, printable}
use Rattle.text.specs.Splitting.{parts}
use Rattle.text.proofs.Equals.{equal-decides}
use Rattle.kinds.specs.declared.controller.ControllerNumber.{ControllerNumber}
use Rattle.kinds.specs.declared.range.Range.TheVariants.{AtLeast, Between}
use Rattle.kinds.specs.Controller.{controller as controller_number}
use Rattle.kinds.specs.declared.range.Range.{Range}
use Rattle.kinds.specs.declared.version.Version.{Version}
use Rattle.kinds.specs.RangeText.{range}
use Rattle.kinds.specs.Version.{version as read_version}
use Rattle.shelf.specs.Meaning.{Name, Export, Need, Bundle, is_import, FewExports, FewNeeds}
use Rattle.manifest.specs.declared.header.Grammar.{Grammar}
use Rattle.manifest.specs.declared.header.Grammar.TheVariants.{Exports, Imports, Requires}
use Rattle.manifest.specs.declared.header.Header.{Header}
use Rattle.manifest.specs.declared.header.Header.TheVariants.{SymbolicName, BundleVersion, Controller, ExportPackage, ImportPackage, RequireBundle, Unknown}
use Rattle.manifest.specs.Questions.{asks, gets}
use Rattle.manifest.specs.ClauseText.{Clause, clauses_text}
use Rattle.manifest.specs.Values.{no_version, all_controllers, short_name, symbolic_name_in, version_in, controllers_in, exports_in, imports_in, requires_in}
use Rattle.manifest.specs.Headers.{Headers, no_headers, count, with_header}
use Rattle.manifest.specs.Reading.{State, start, bundle_of, same_version, taken, close_step, line_step, onward, walk, refused, stray_line, closed, lines_of, without, reading}
use Rattle.manifest.specs.Written.{version_text, controller_text, range_text, export_clause, need_clause, header_text, clauses_line, takes_all, manifest_text, written}
use Rattle.manifest.specs.Laws.{WritableName, WritableController, WritableExport, WritableNeed, Writable, Distinct, Lawful, ReadsBack}
use Rattle.manifest.specs.Given.{If, at-nth, never}
use Rattle.manifest.specs.Limits.{name_filled}
use Rattle.manifest.specs.Once.{Once, SameName}
use Rattle.manifest.proofs.ClauseValues.{given, given-value, Kind, Sound, exports_back, imports_back, requires_back, exports_sound, imports_sound, requires_sound}
use Rattle.manifest.proofs.LinesBack.{ended, ended-both, lines_back, text-stray, closed_back, ended-closed}
use Rattle.manifest.proofs.Numbers.{in_value, version_back, controllers_back, decimal-bytes, version-bytes, range-bytes, value-lacks, value_prints, version_filled, controllers_filled}
use Rattle.manifest.proofs.Bytes.{Prints, name_prints, every_append}

-- the lines lead from one state to another
abbrev Goes : State → List (List ℕ) → State → Type 0
Goes s [] t = s ≡ t
Goes s (l ∷ ls) t = (u : State) × (line_step s l ≡ Ok u) × Goes u ls t

goes_append : (s t u : State) (xs ys : List (List ℕ)) → Goes s xs t → Goes t ys u → Goes s (xs ++ ys) u
goes_append s t u [] ys h k = subst (λ v. Goes v ys u) (sym h) k
goes_append s t u (x ∷ xs) ys h k = (h.0, h.1, goes_append h.0 t u xs ys h.2 k)

goes_walk : (n : ℕ) (s t : State) (ls : List (List ℕ)) → Goes s ls t → walk n s ls ≡ Ok t.bundles
goes_walk n s t [] h = ap (λ u. Ok u.bundles) h
goes_walk n s t (l ∷ ls) h = ap (λ r. onward n r (λ u. walk (n + length l + 1) u ls)) h.1 ∙ goes_walk (n + length l + 1) h.0 t ls h.2

-- header lines
abbrev titled : Header → List ℕ
titled SymbolicName = codes "Bundle-SymbolicName"
titled BundleVersion = codes "Bundle-Version"
titled Controller = codes "X-Controller"
titled ExportPackage = codes "Export-Package"
titled ImportPackage = codes "Import-Package"
titled RequireBundle = codes "Require-Bundle"
titled Unknown = codes "X"

abbrev line : Header → List ℕ → List ℕ
line k value = titled k ++ (58 ∷ (32 ∷ value))

abbrev lines : Header → Option (List ℕ) → List (List ℕ)
lines k None = []
lines k (Some value) = line k value ∷ []

line_back : (s : State) (k : Header) (value : List ℕ) → 0 < length value → line_step s (line k value) ≡ results.result_map_both (λ h. record { bundles = s.bundles; headers = h }) (λ (n : ℕ). n) (with_header s.headers k value)
line_back s k [] h = absurd (omega arith)
line_back s SymbolicName (b ∷ bs) h = refl
line_back s BundleVersion (b ∷ bs) h = refl
line_back s Controller (b ∷ bs) h = refl
line_back s ExportPackage (b ∷ bs) h = refl
line_back s ImportPackage (b ∷ bs) h = refl
line_back s RequireBundle (b ∷ bs) h = refl
line_back s Unknown (b ∷ bs) h = refl

title_prints : (k : Header) → Prints (titled k)
title_prints SymbolicName = refl
title_prints BundleVersion = refl
title_prints Controller = refl
title_prints ExportPackage = refl
title_prints ImportPackage = refl
title_prints RequireBundle = refl
title_prints Unknown = refl

line_prints : (k : Header) (value : List ℕ) → Prints value → Prints (line k value)
line_prints k value h = every_append printable (titled k) (58 ∷ (32 ∷ value)) (title_prints k) h

abbrev state : List Bundle → Headers → State
state bs h = record { bundles = bs; headers = h }

-- a header that may be left out: h gives the headers with it and without it
module _ {X : Type 0} (bs : List Bundle) (k : Header) (text : X → List ℕ) (h : Option X → Headers) where
  goes_given : (o : Option X) → If o (λ x. Sound (text x)) → If o (λ x. with_header (h None) k (text x) ≡ Ok (h (Some x))) → Goes (state bs (h None)) (lines k (option_map text o)) (state bs (h o))
  goes_given None s e = refl
  goes_given (Some x) s e =
      (state bs (h (Some x)), line_back (state bs (h None)) k (text x) s.0 ∙ ap (results.result_map_both (λ g. state bs g) (λ (n : ℕ). n)) e, refl)

lines_print : {X : Type 0} (k : Header) (text : X → List ℕ) (o : Option X) → If o (λ x. Sound (text x)) → AllByRecursion Prints (lines k (option_map text o))
lines_print k text None s = tt
lines_print k text (Some x) s = (line_prints k (text x) s.1, tt)

if_either : {X : Type 0} (P : X → Type 0) (b : Bool) (x : X) → P x → If (cond b None (Some x)) P
if_either P true x h = tt
if_either P false x h = h

if_given : {X : Type 0} (Q P : List X → Type 0) (xs : List X) → Q xs → ((y : X) (ys : List X) → Q (y ∷ ys) → P (y ∷ ys)) → If (given xs) P
if_given Q P [] q f = tt
if_given Q P (x ∷ xs) q f = f x xs q

-- defaults
same-version_is : (v w : Version) → same_version v w ≡ true → v ≡ w
same-version_is v w h =
    let a = and_parts (eqb v.major w.major) (eqb v.minor w.minor && eqb v.micro w.micro) h in
    let b = and_parts (eqb v.minor w.minor) (eqb v.micro w.micro) a.1 in
    let x = eqb-true v.major w.major a.0 in
    let y = eqb-true v.minor w.minor b.0 in
    let z = eqb-true v.micro w.micro b.1 in
    λ i. record { major = x i; minor = y i; micro = z i }

takes_all_is : (r : Range ControllerNumber) → takes_all r ≡ true → all_controllers ≡ r
takes_all_is (AtLeast floor) h = let x = eqb-true floor.0 0 h in sym (λ i. AtLeast (record { 0 = x i }))
takes_all_is (Between floor ceiling) h = let z : ◌≡◌ {A = ℕ} 0 1 = cc in absurd (omega arith)

default_back : {X : Type 0} (b : Bool) (x d : X) → (b ≡ true → d ≡ x) → unwrap_or (cond b None (Some x)) d ≡ x
default_back true x d h = h refl
default_back false x d h = refl

-- imports and then requires are all the needs
abbrev Ordered : List Need → Type 0
Ordered ns = (i j : ℕ) (a b : Need) → i < j → slice_get ns i ≡ Some a → slice_get ns j ≡ Some b → is_import b.kind ≡ true → is_import a.kind ≡ true

abbrev imports : List Need → List Need
imports ns = filter (λ n. is_import n.kind) ns

abbrev requires : List Need → List Need
requires ns = filter (λ n. not (is_import n.kind)) ns

no_imports : (ns : List Need) → ((j : ℕ) (b : Need) → slice_get ns j ≡ Some b → is_import b.kind ≡ false) → (imports ns ≡ []) × (requires ns ≡ ns)
no_imports [] h = (refl, refl)
no_imports (n ∷ ns) h =
    let e = h zero n refl in
    let rest = no_imports ns (λ j. h (suc j)) in
    (rw e rest.0, rw e (ap (λ ms. n ∷ ms) rest.1))

needs-split : (ns : List Need) → Ordered ns → imports ns ++ requires ns ≡ ns
needs-split [] h = refl
needs-split (n ∷ ns) h = by (is_import n.kind) refl (needs-split ns (λ i j a b l. h (suc i) (suc j) a b (omega arith)))
  where
    later : is_import n.kind ≡ false → (j : ℕ) (b : Need) → slice_get ns j ≡ Some b → is_import b.kind ≡ false
    later e j b q = at_most (is_import b.kind) refl
      where
        at_most : (c : Bool) → is_import b.kind ≡ c → c ≡ false
        at_most true t = absurd (both_ways (is_import n.kind) e (h zero (suc j) n b (omega arith) refl q t))
        at_most false t = refl

    by : (c : Bool) → is_import n.kind ≡ c → imports ns ++ requires ns ≡ ns → cond c (n ∷ imports ns) (imports ns) ++ cond (not c) (n ∷ requires ns) (requires ns) ≡ n ∷ ns
    by true e rest = ap (λ ms. n ∷ ms) rest
    by false e rest = let none = no_imports ns (later e) in ap (λ ms. ms ++ (n ∷ requires ns)) none.0 ∙ ap (λ ms. n ∷ ms) none.1

-- what stands in a list stands in a longer one
nth_left : {X : Type 0} (xs ys : List X) (i : ℕ) (a : X) → slice_get xs i ≡ Some a → slice_get (xs ++ ys) i ≡ Some a
nth_left [] ys i a h = never a h
nth_left (x ∷ xs) ys zero a h = h
nth_left (x ∷ xs) ys (suc i) a h = nth_left xs ys i a h

nth_right : {X : Type 0} (xs ys : List X) (i : ℕ) (a : X) → slice_get ys i ≡ Some a → (k : ℕ) × (k ≡ length xs + i) × (slice_get (xs ++ ys) k ≡ Some a)
nth_right [] ys i a h = (i, omega arith, h)
nth_right (x ∷ xs) ys i a h = let r = nth_right xs ys i a h in (suc r.0, omega (arith, r.1), r.2)

nth-within : {X : Type 0} (xs : List X) (i : ℕ) (a : X) → slice_get xs i ≡ Some a → i < length xs
nth-within [] i a h = never a h
nth-within (x ∷ xs) zero a h = omega arith
nth-within (x ∷ xs) (suc i) a h = omega (arith, nth-within xs i a h)

-- what is known of the needs of one header
record Side (k : Bool) (ns : List Need) : Type 0 where
  kinds : AllByRecursion (Kind k) ns
  writable : AllByRecursion WritableNeed ns
  once : Once (SameName (λ n. n.name)) ns

module _ (xs ys : List Need) (few : FewNeeds (xs ++ ys)) where
  once-left : (k : Bool) → AllByRecursion (Kind k) xs → Once (SameName (λ n. n.name)) xs
  once-left k h i j a b p q r = few.once i j a b (nth_left xs ys i a p) (nth_left xs ys j b q) (at-nth (Kind k) xs i a h p ∙ sym (at-nth (Kind k) xs j b h q)) r

  once-right : (k : Bool) → AllByRecursion (Kind k) ys → Once (SameName (λ n. n.name)) ys
  once-right k h i j a b p q r =
      let u = nth_right xs ys i a p in
      let v = nth_right xs ys j b q in
      let e = few.once u.0 v.0 a b u.2 v.2 (at-nth (Kind k) ys i a h p ∙ sym (at-nth (Kind k) ys j b h q)) r in
      omega (arith, u.1, v.1, e)

module _ (ns : List Need) (few : FewNeeds ns) (h : AllByRecursion WritableNeed ns) where
  split : imports ns ++ requires ns ≡ ns
  split = needs-split ns few.order

  split-few : FewNeeds (imports ns ++ requires ns)
  split-few = subst FewNeeds (sym split) few

  imports_side : Side true (imports ns)
  imports_side =
      let kinds = kept_by_passes (λ n. is_import n.kind) ns in
      record { kinds = kinds; writable = all_kept_by (λ n. is_import n.kind) WritableNeed ns h; once = once-left (imports ns) (requires ns) split-few true kinds }

  requires_side : Side false (requires ns)
  requires_side =
      let kinds = All-weaker (λ n. not (is_import n.kind) ≡ true) (Kind false) (λ n e. not-true (is_import n.kind) e) (requires ns) (kept_by_passes (λ n. not (is_import n.kind)) ns) in
      record { kinds = kinds; writable = all_kept_by (λ n. not (is_import n.kind)) WritableNeed ns h; once = once-right (imports ns) (requires ns) split-few false kinds }

  sides_few : length (imports ns) + length (requires ns) ≤ 16
  sides_few = omega (arith, split-few.most, length-append (imports ns) (requires ns))

-- the values that are written, and their texts
abbrev version_given : Version → Option Version
version_given v = cond (same_version v no_version) None (Some v)

abbrev controllers_given : Range ControllerNumber → Option (Range ControllerNumber)
controllers_given r = cond (takes_all r) None (Some r)

abbrev exports_text : List Export → List ℕ
exports_text es = clauses_text Exports (map export_clause es)

abbrev needs_text : Grammar → List Need → List ℕ
needs_text g ns = clauses_text g (map need_clause ns)

-- the lines of a manifest, header by header
abbrev require_lines : Bundle → List (List ℕ)
require_lines b = lines RequireBundle (option_map (needs_text Requires) (given (requires b.needs)))

abbrev import_lines : Bundle → List (List ℕ)
import_lines b = lines ImportPackage (option_map (needs_text Imports) (given (imports b.needs)))

abbrev export_lines : Bundle → List (List ℕ)
export_lines b = lines ExportPackage (option_map exports_text (given b.exports))

abbrev controller_lines : Bundle → List (List ℕ)
controller_lines b = lines Controller (option_map (range_text controller_text) (controllers_given b.controllers))

abbrev version_lines : Bundle → List (List ℕ)
version_lines b = lines BundleVersion (option_map version_text (version_given b.version))

abbrev name_lines : Bundle → List (List ℕ)
name_lines b = lines SymbolicName (Some b.name)

abbrev from_requires : Bundle → List (List ℕ)
from_requires b = require_lines b ++ ([] ∷ [])

abbrev from_imports : Bundle → List (List ℕ)
from_imports b = import_lines b ++ from_requires b

abbrev from_exports : Bundle → List (List ℕ)
from_exports b = export_lines b ++ from_imports b

abbrev from_controllers : Bundle → List (List ℕ)
from_controllers b = controller_lines b ++ from_exports b

abbrev from_version : Bundle → List (List ℕ)
from_version b = version_lines b ++ from_controllers b

abbrev manifest_lines : Bundle → List (List ℕ)
manifest_lines b = name_lines b ++ from_version b

header-line : (k : Header) (value : List ℕ) → header_text (titled k) value ≡ ended (lines k (Some value))
header-line k value = sym (append_assoc (titled k) (58 ∷ (32 ∷ value)) (10 ∷ []))

either_line : {X : Type 0} (k : Header) (text : X → List ℕ) (b : Bool) (x : X) → cond b [] (header_text (titled k) (text x)) ≡ ended (lines k (option_map text (cond b None (Some x))))
either_line k text true x = refl
either_line k text false x = header-line k (text x)

clauses-line : {X : Type 0} (k : Header) (g : Grammar) (shape : X → Clause) (xs : List X) → clauses_line (titled k) g (map shape xs) ≡ ended (lines k (option_map (λ ys. clauses_text g (map shape ys)) (given xs)))
clauses-line k g shape [] = refl
clauses-line k g shape (x ∷ xs) = header-line k (clauses_text g (map shape (x ∷ xs)))

manifest-text : (b : Bundle) → manifest_text b ≡ ended (manifest_lines b)
manifest-text b =
    ended-both (name_lines b) (from_version b) _ _ (header-line SymbolicName b.name)
    (ended-both (version_lines b) (from_controllers b) _ _ (either_line BundleVersion version_text (same_version b.version no_version) b.version)
    (ended-both (controller_lines b) (from_exports b) _ _ (either_line Controller (range_text controller_text) (takes_all b.controllers) b.controllers)
    (ended-both (export_lines b) (from_imports b) _ _ (clauses-line ExportPackage Exports export_clause b.exports)
    (ended-both (import_lines b) (from_requires b) _ _ (clauses-line ImportPackage Imports need_clause (imports b.needs))
    (ended-both (require_lines b) ([] ∷ []) _ (10 ∷ []) (clauses-line RequireBundle Requires need_clause (requires b.needs)) refl)))))

-- each value is sound, and is read from its text
read_back : {X : Type 0} (value : List ℕ) (o : Option X) (x : X) → every in_value value ≡ true → o ≡ Some x → asks 7 (lacks 34 value) (gets 8 o Ok) ≡ Ok x
read_back value o x h e = ap (λ b. asks 7 b (gets 8 o Ok)) (value-lacks value h) ∙ ap (λ p. gets 8 p Ok) e

name_back : (n : Name) → WritableName n → symbolic_name_in n ≡ Ok n
name_back n h = ap (λ b. asks 7 b (asks 9 (short_name n) (Ok n))) h.0 ∙ ap (λ b. asks 9 b (Ok n)) (le-leb (length n) 48 h.1)

controller-bytes : (c : ControllerNumber) → WritableController c → every in_value (controller_text c) ≡ true
controller-bytes c h = decimal-bytes c.0 h

abbrev heads : Name → Option Version → Option (Range ControllerNumber) → Option (List Export) → Option (List Need) → Option (List Need) → Headers
heads n v c e i r = record { name = Some n; version = v; controllers = c; exports = e; imports = i; requires = r }

-- the headers get the value, where it is read
adds : {X : Type 0} (r : Result X ℕ) (x : X) (h : X → Headers) → r ≡ Ok x → results.result_map_both h (λ (n : ℕ). n) r ≡ Ok (h x)
adds r x h e = ap (results.result_map_both h (λ (n : ℕ). n)) e

module _ (b : Bundle) (w : Writable b) where
  name_sound : Sound b.name
  name_sound = (name_filled b.name w.name.0, name_prints b.name w.name.0)

  version_sound : If (version_given b.version) (λ v. Sound (version_text v))
  version_sound = if_either (λ v. Sound (version_text v)) (same_version b.version no_version) b.version (version_filled b.version w.version, value_prints (version_text b.version) (version-bytes b.version w.version))

  controllers-bytes : every in_value (range_text controller_text b.controllers) ≡ true
  controllers-bytes = range-bytes WritableController controller_text controller-bytes b.controllers w.controllers

  controllers_sound : If (controllers_given b.controllers) (λ r. Sound (range_text controller_text r))
  controllers_sound = if_either (λ r. Sound (range_text controller_text r)) (takes_all b.controllers) b.controllers (controllers_filled b.controllers w.controllers, value_prints (range_text controller_text b.controllers) controllers-bytes)

  exports-given : If (given b.exports) (λ es. Sound (exports_text es))
  exports-given = if_given (AllByRecursion WritableExport) (λ es. Sound (exports_text es)) b.exports w.exports exports_sound

  imports-known : Side true (imports b.needs)
  imports-known = imports_side b.needs w.few.needs w.needs

  requires-known : Side false (requires b.needs)
  requires-known = requires_side b.needs w.few.needs w.needs

  imports-given : If (given (imports b.needs)) (λ ns. Sound (needs_text Imports ns))
  imports-given = if_given (Side true) (λ ns. Sound (needs_text Imports ns)) (imports b.needs) imports-known (λ n ns s. imports_sound n ns s.kinds s.writable)

  requires-given : If (given (requires b.needs)) (λ ns. Sound (needs_text Requires ns))
  requires-given = if_given (Side false) (λ ns. Sound (needs_text Requires ns)) (requires b.needs) requires-known (λ n ns s. requires_sound n ns s.kinds s.writable)

  manifest_prints : AllByRecursion Prints (manifest_lines b)
  manifest_prints = (
    line_prints SymbolicName b.name name_sound.1,
    All-append Prints (version_lines b) (from_controllers b) (lines_print BundleVersion version_text (version_given b.version) version_sound)
        (All-append Prints (controller_lines b) (from_exports b) (lines_print Controller (range_text controller_text) (controllers_given b.controllers) controllers_sound)
        (All-append Prints (export_lines b) (from_imports b) (lines_print ExportPackage exports_text (given b.exports) exports-given)
        (All-append Prints (import_lines b) (from_requires b) (lines_print ImportPackage (needs_text Imports) (given (imports b.needs)) imports-given)
        (All-append Prints (require_lines b) ([] ∷ []) (lines_print RequireBundle (needs_text Requires) (given (requires b.needs)) requires-given) (refl, tt))))),
  )

-- the headers as they are read, and the bundle that they say
abbrev read : Bundle → Headers
read b = heads b.name (version_given b.version) (controllers_given b.controllers) (given b.exports) (given (imports b.needs)) (given (requires b.needs))

bundle_back : (b : Bundle) → Writable b → bundle_of b.name (read b) ≡ b
bundle_back b w =
    let v = default_back (same_version b.version no_version) b.version no_version (λ e. sym (same-version_is b.version no_version e)) in
    let c = default_back (takes_all b.controllers) b.controllers all_controllers (takes_all_is b.controllers) in
    let e = given-value b.exports in
    let n : unwrap_or (given (imports b.needs)) [] ++ unwrap_or (given (requires b.needs)) [] ≡ b.needs =
    ap (λ ns. ns ++ unwrap_or (given (requires b.needs)) []) (given-value (imports b.needs)) ∙ ap (λ ns. imports b.needs ++ ns) (given-value (requires b.needs)) ∙ needs-split b.needs w.few.needs.order in
    λ i. record { name = b.name; version = v i; controllers = c i; exports = e i; needs = n i }

close_read : (bs : List Bundle) (n : Name) (h : Headers) → h.name ≡ Some n → length bs < 64 → taken n (unwrap_or h.version no_version) bs ≡ false → close_step (state bs h) ≡ Ok (state (bs ++ (bundle_of n h ∷ [])) no_headers)
close_read bs n h e l t = rw (e, lt-ltb (length bs) 64 l, t) refl

module _ (bs : List Bundle) (b : Bundle) (w : Writable b) where
  name_goes : Goes (state bs no_headers) (name_lines b) (state bs (heads b.name None None None None None))
  name_goes =
      goes_given bs SymbolicName (λ n. n) (λ o. record { name = o; version = None; controllers = None; exports = None; imports = None; requires = None }) (Some b.name) (name_sound b w)
      (adds (symbolic_name_in b.name) b.name (λ n. heads n None None None None None) (name_back b.name w.name))

  version_goes : Goes (state bs (heads b.name None None None None None)) (version_lines b) (state bs (heads b.name (version_given b.version) None None None None))
  version_goes =
      goes_given bs BundleVersion version_text (λ o. heads b.name o None None None None) (version_given b.version) (version_sound b w)
      (if_either (λ v. with_header (heads b.name None None None None None) BundleVersion (version_text v) ≡ Ok (heads b.name (Some v) None None None None)) (same_version b.version no_version) b.version
      (adds (version_in (version_text b.version)) b.version (λ v. heads b.name (Some v) None None None None) (read_back (version_text b.version) (read_version (version_text b.version)) b.version (version-bytes b.version w.version) (version_back b.version w.version))))

  module _ (v : Option Version) where
    controllers_goes : Goes (state bs (heads b.name v None None None None)) (controller_lines b) (state bs (heads b.name v (controllers_given b.controllers) None None None))
    controllers_goes =
        let text = range_text controller_text b.controllers in
        goes_given bs Controller (range_text controller_text) (λ o. heads b.name v o None None None) (controllers_given b.controllers) (controllers_sound b w)
        (if_either (λ r. with_header (heads b.name v None None None None) Controller (range_text controller_text r) ≡ Ok (heads b.name v (Some r) None None None)) (takes_all b.controllers) b.controllers
        (adds (controllers_in text) b.controllers (λ r. heads b.name v (Some r) None None None) (read_back text (range controller_number text) b.controllers (controllers-bytes b w) (controllers_back b.controllers w.controllers))))

    module _ (c : Option (Range ControllerNumber)) where
      exports_goes : Goes (state bs (heads b.name v c None None None)) (export_lines b) (state bs (heads b.name v c (given b.exports) None None))
      exports_goes =
          goes_given bs ExportPackage exports_text (λ o. heads b.name v c o None None) (given b.exports) (exports-given b w)
          (if_given (λ es. FewExports es × AllByRecursion WritableExport es) (λ es. with_header (heads b.name v c None None None) ExportPackage (exports_text es) ≡ Ok (heads b.name v c (Some es) None None)) b.exports (w.few.exports, w.exports)
          (λ e es h. adds (exports_in (exports_text (e ∷ es))) (e ∷ es) (λ xs. heads b.name v c (Some xs) None None) (exports_back e es h.0 h.1)))

      module _ (e : Option (List Export)) where
        imports_goes : Goes (state bs (heads b.name v c e None None)) (import_lines b) (state bs (heads b.name v c e (given (imports b.needs)) None))
        imports_goes =
            goes_given bs ImportPackage (needs_text Imports) (λ o. heads b.name v c e o None) (given (imports b.needs)) (imports-given b w)
            (if_given (λ ns. (0 + length ns ≤ 16) × Side true ns) (λ ns. with_header (heads b.name v c e None None) ImportPackage (needs_text Imports ns) ≡ Ok (heads b.name v c e (Some ns) None)) (imports b.needs) (omega (arith, sides_few b.needs w.few.needs w.needs), imports-known b w)
            (λ n ns h. adds (imports_in 0 (needs_text Imports (n ∷ ns))) (n ∷ ns) (λ xs. heads b.name v c e (Some xs) None) (imports_back 0 n ns h.0 h.1.kinds h.1.writable h.1.once)))

        requires_goes : Goes (state bs (heads b.name v c e (given (imports b.needs)) None)) (require_lines b) (state bs (heads b.name v c e (given (imports b.needs)) (given (requires b.needs))))
        requires_goes =
            let i = given (imports b.needs) in
            goes_given bs RequireBundle (needs_text Requires) (λ o. heads b.name v c e i o) (given (requires b.needs)) (requires-given b w)
            (if_given (λ ns. (count i + length ns ≤ 16) × Side false ns) (λ ns. with_header (heads b.name v c e i None) RequireBundle (needs_text Requires ns) ≡ Ok (heads b.name v c e i (Some ns))) (requires b.needs) (omega (arith, sides_few b.needs w.few.needs w.needs, ap length (given-value (imports b.needs))), requires-known b w)
            (λ n ns h. adds (requires_in (count i) (needs_text Requires (n ∷ ns))) (n ∷ ns) (λ xs. heads b.name v c e i (Some xs)) (requires_back (count i) n ns h.0 h.1.kinds h.1.writable h.1.once)))

  close_back : length bs < 64 → taken b.name b.version bs ≡ false → close_step (state bs (read b)) ≡ Ok (state (bs ++ (b ∷ [])) no_headers)
  close_back l t =
      let is = bundle_back b w in
      close_read bs b.name (read b) refl l (ap (λ c. taken b.name c.version bs) is ∙ t) ∙ ap (λ c. Ok (state (bs ++ (c ∷ [])) no_headers)) is

  manifest_goes : length bs < 64 → taken b.name b.version bs ≡ false → Goes (state bs no_headers) (manifest_lines b) (state (bs ++ (b ∷ [])) no_headers)
  manifest_goes l t =
      let v = version_given b.version in
      let c = controllers_given b.controllers in
      let e = given b.exports in
      let i = given (imports b.needs) in
      let end = state (bs ++ (b ∷ [])) no_headers in
      goes_append (state bs no_headers) (state bs (heads b.name None None None None None)) end (name_lines b) (from_version b) name_goes
      (goes_append (state bs (heads b.name None None None None None)) (state bs (heads b.name v None None None None)) end (version_lines b) (from_controllers b) version_goes
      (goes_append (state bs (heads b.name v None None None None)) (state bs (heads b.name v c None None None)) end (controller_lines b) (from_exports b) (controllers_goes v)
      (goes_append (state bs (heads b.name v c None None None)) (state bs (heads b.name v c e None None)) end (export_lines b) (from_imports b) (exports_goes v c)
      (goes_append (state bs (heads b.name v c e None None)) (state bs (heads b.name v c e i None)) end (import_lines b) (from_requires b) (imports_goes v c e)
      (goes_append (state bs (heads b.name v c e i None)) (state bs (read b)) end (require_lines b) ([] ∷ []) (requires_goes v c e) (end, close_back l t, refl))))))

-- no earlier bundle has the name and version of a later one
taken_none : (b : Bundle) (bs : List Bundle) → ((i : ℕ) (a : Bundle) → slice_get bs i ≡ Some a → a.name ≡ b.name → a.version ≡ b.version → ⊥) → taken b.name b.version bs ≡ false
taken_none b [] h = refl
taken_none b (a ∷ more) h = or_from (equal b.name a.name && same_version b.version a.version) (taken b.name b.version more) (by (equal b.name a.name && same_version b.version a.version) refl) (taken_none b more (λ i. h (suc i)))
  where
    by : (t : Bool) → (equal b.name a.name && same_version b.version a.version) ≡ t → t ≡ false
    by true e =
        let both = and_parts (equal b.name a.name) (same_version b.version a.version) e in
        absurd (h zero a refl (sym ((equal-decides b.name a.name).0 both.0)) (sym (same-version_is b.version a.version both.1)))
    by false e = refl

distinct-taken : (done : List Bundle) (b : Bundle) (bs : List Bundle) → Distinct (done ++ (b ∷ bs)) → taken b.name b.version done ≡ false
distinct-taken done b bs d = taken_none b done apart
  where
    apart : (i : ℕ) (a : Bundle) → slice_get done i ≡ Some a → a.name ≡ b.name → a.version ≡ b.version → ⊥
    apart i a p n v =
        let r = nth_right done (b ∷ bs) 0 b refl in
        let e = d i r.0 a b (nth_left done (b ∷ bs) i a p) r.2 n v in
        omega (arith, r.1, e, nth-within done i a p)

-- the lines of all the manifests
abbrev all_lines : List Bundle → List (List ℕ)
all_lines [] = []
all_lines (b ∷ bs) = manifest_lines b ++ all_lines bs

written-text : (bs : List Bundle) → written bs ≡ ended (all_lines bs)
written-text [] = refl
written-text (b ∷ bs) = ended-both (manifest_lines b) (all_lines bs) (manifest_text b) (written bs) (manifest-text b) (written-text bs)

all_print : (bs : List Bundle) → AllByRecursion Writable bs → AllByRecursion Prints (all_lines bs)
all_print [] h = tt
all_print (b ∷ bs) h = All-append Prints (manifest_lines b) (all_lines bs) (manifest_prints b h.0) (all_print bs h.1)

all_right : {X : Type 0} (P : X → Type 0) (xs ys : List X) → AllByRecursion P (xs ++ ys) → AllByRecursion P ys
all_right P [] ys h = h
all_right P (x ∷ xs) ys h = all_right P xs ys h.1

all_goes : (done bs : List Bundle) → Lawful (done ++ bs) → Goes (state done no_headers) (all_lines bs) (state (done ++ bs) no_headers)
all_goes done [] h = ap (λ ds. state ds no_headers) (sym (append-nil done))
all_goes done (b ∷ bs) h =
    let more : (done ++ (b ∷ [])) ++ bs ≡ done ++ (b ∷ bs) = append_assoc done (b ∷ []) bs in
    let short : length done < 64 = omega (arith, h.most, length-append done (b ∷ bs)) in
    goes_append (state done no_headers) (state (done ++ (b ∷ [])) no_headers) (state (done ++ (b ∷ bs)) no_headers) (manifest_lines b) (all_lines bs)
    (manifest_goes done b (all_right Writable done (b ∷ bs) h.each).0 short (distinct-taken done b bs h.distinct))
    (subst (λ ds. Goes (state (done ++ (b ∷ [])) no_headers) (all_lines bs) (state ds no_headers)) more (all_goes (done ++ (b ∷ [])) bs (subst Lawful (sym more) h)))

-- the last of them is empty, and not the first
abbrev Ends : List (List ℕ) → Type 0
Ends ls = (first : List ℕ) × (rest : List (List ℕ)) × (ls ≡ (first ∷ rest) ++ ([] ∷ []))

grouped : (a b c d e z : List (List ℕ)) → a ++ (b ++ (c ++ (d ++ (e ++ z)))) ≡ (a ++ (b ++ (c ++ (d ++ e)))) ++ z
grouped a b c d e z = simp append_assoc

manifest_ends : (b : Bundle) → Ends (manifest_lines b)
manifest_ends b =
    (line SymbolicName b.name, version_lines b ++ (controller_lines b ++ (export_lines b ++ (import_lines b ++ require_lines b))), ap (λ ls. line SymbolicName b.name ∷ ls) (grouped (version_lines b) (controller_lines b) (export_lines b) (import_lines b) (require_lines b) ([] ∷ [])))

ends_more : (first : List ℕ) (xs ys : List (List ℕ)) → Ends ys → Ends ((first ∷ xs) ++ ys)
ends_more first xs ys h = (first, xs ++ (h.0 ∷ h.1), ap (λ ls. first ∷ (xs ++ ls)) h.2 ∙ ap (λ ls. first ∷ ls) (sym (append_assoc xs (h.0 ∷ h.1) ([] ∷ []))))

all_end : (b : Bundle) (bs : List Bundle) → Ends (all_lines (b ∷ bs))
all_end b [] = subst Ends (sym (append-nil (manifest_lines b))) (manifest_ends b)
all_end b (c ∷ bs) = ends_more (line SymbolicName b.name) (from_version b) (all_lines (c ∷ bs)) (all_end c bs)

-- such lines are read from their text
lines-read : (l : List ℕ) (ls : List (List ℕ)) (t : State) → AllByRecursion Prints (l ∷ ls) → Ends (l ∷ ls) → length (ended (l ∷ ls)) ≤ 65536 → Goes start (l ∷ ls) t → reading (ended (l ∷ ls)) ≡ Ok t.bundles
unfolding reading
lines-read l ls t prints ends small goes =
    let text = ended (l ∷ ls) in
    let close = ended-closed ends.0 ends.1 in
    let form : text ≡ close.0 ++ (10 ∷ (10 ∷ [])) = ap ended ends.2 ∙ close.1 in
    let some : eqb (length text) 0 ≡ false = ne_eqb (length text) 0 (λ e. omega (arith, e, ap length form, length-append close.0 (10 ∷ (10 ∷ [])))) in
    let shut : closed text ≡ true = ap closed form ∙ closed_back close.0 in
    ap (λ b. cond b (without (stray_line 0 (parts 10 text)) (cond (eqb (length text) 0) (Ok []) (cond (closed text) (walk 0 start (lines_of text)) (refused 3 (length text))))) (refused 1 0)) (le-leb (length text) 65536 small)
    ∙ ap (λ o. without o (cond (eqb (length text) 0) (Ok []) (cond (closed text) (walk 0 start (lines_of text)) (refused 3 (length text))))) (text-stray (l ∷ ls) prints)
    ∙ ap (λ b. cond b (Ok []) (cond (closed text) (walk 0 start (lines_of text)) (refused 3 (length text)))) some
    ∙ ap (λ b. cond b (walk 0 start (lines_of text)) (refused 3 (length text))) shut
    ∙ ap (walk 0 start) (lines_back l ls prints)
    ∙ goes_walk 0 start t (l ∷ ls) goes

nothing_read : reading [] ≡ Ok []
unfolding reading
nothing_read = refl

pub reads_back : ReadsBack
reads_back [] h small = nothing_read
reads_back (b ∷ bs) h small =
    let text = written-text (b ∷ bs) in
    ap reading text
    ∙ lines-read (line SymbolicName b.name) (from_version b ++ all_lines bs) (state (b ∷ bs) no_headers) (all_print (b ∷ bs) h.each) (all_end b bs) (subst (λ t. length t ≤ 65536) text small) (all_goes [] (b ∷ bs) h)
