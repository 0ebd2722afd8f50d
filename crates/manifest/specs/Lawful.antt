-- Whatever is read from a directory is lawful. A proof: a reader need not believe it.
use Rattle.std.specs.Prelude.{◌≡◌, ℕ, zero, suc, ◌+◌, ◌-◌, ◌<◌, ◌≤◌, Bool, true, false, cond, not, ◌&&◌, List, [], ◌∷◌, ◌++◌, map, length, take, drop, is_some, IfOk, Some, None, Ok, Err, codes, Option, Result, ◌==◌, nat_le, nat_lt, refl}
use Rattle.std.proofs.Common.{arith, sym, ap, subst, ◌∙◌, length-append}
use Rattle.std.specs.Option.{option_map, unwrap_or}
use Rattle.std.specs.Result as results
use Rattle.std.specs.List.{AllByRecursion, slice_get}
use Rattle.std.proofs.ByRecursion.{All-append, All-push, All-weaker}
use Rattle.std.proofs.lemmas.List.{length_push}
use Rattle.std.proofs.lemmas.Result.{IfOk-at_ok}
use Rattle.std.proofs.lemmas.Bool.{and_parts, and_from, or_parts, ltb-true, leb-true, eq-eqb, not-true, both_ways}
use Rattle.text.specs.Bytes.{digit, every, equal, lacks}
use Rattle.text.specs.Splitting.{split, parts, reach}
use Rattle.text.proofs.Equals.{equal-decides}
use Rattle.kinds.specs.declared.range.End.{End}
use Rattle.kinds.specs.declared.version.Version.{Version}
use Rattle.kinds.specs.Number.{decimal, number}
use Rattle.kinds.specs.declared.range.Range.TheVariants.{AtLeast}
use Rattle.kinds.specs.Controller.{controller as controller_number, numbered as controller_of}
use Rattle.kinds.specs.Range.{value_of}
use Rattle.kinds.specs.RangeText.{end_of, floor_of, ceiling_of, between, range}
use Rattle.kinds.specs.Version.{front, closes, numbered, version as read_version}
use Rattle.shelf.specs.Meaning.{Name, Export, Need, Bundle, bound, is_import, FewExports, FewNeeds}
use Rattle.shelf.specs.declared.need.NeedKind.{NeedKind}
use Rattle.shelf.specs.declared.need.NeedKind.TheVariants.{Import, Require}
use Rattle.shelf.specs.declared.need.Resolution.TheVariants.{Mandatory}
use Rattle.shelf.specs.declared.need.Visibility.TheVariants.{Private}
use Rattle.manifest.specs.declared.header.Grammar.{Grammar}
use Rattle.manifest.specs.declared.header.Grammar.TheVariants.{Exports, Imports, Requires}
use Rattle.manifest.specs.declared.header.Header.{Header}
use Rattle.manifest.specs.declared.header.Header.TheVariants.{SymbolicName, BundleVersion, Controller, ExportPackage, ImportPackage, RequireBundle, Unknown}
use Rattle.manifest.specs.Names.{all, is_name, none_twice}
use Rattle.manifest.specs.Parameters.{version_key, has_uses, has_resolution, has_visibility, Parameter, version, uses, resolution, visibility, after, quoted_after, names_of, resolution_of, visibility_of, only_if, parameter_of}
use Rattle.manifest.specs.Clauses.{RawClause, bare, once, with_parameter, with_parameters, clause_of, clause, each, form}
use Rattle.manifest.specs.Questions.{FirstNo, asks, gets}
use Rattle.manifest.specs.Values.{no_version, all_controllers, version_or, range_or, export_of, need_of, import_of, require_of, short_name, small_export, few_exports, few_needs, symbolic_name_in, version_in, controllers_in, clauses_in, exports_in, imports_in, requires_in}
use Rattle.manifest.specs.Headers.{Headers, no_headers, header_line, count, fresh, with_header, header_step}
use Rattle.manifest.specs.Reading.{State, start, bundle_of, same_version, taken, close_step, line_step, onward, walk, refused, stray_line, closed, lines_of, without, reading}
use Rattle.manifest.specs.Laws.{WritableName, WritableVersion, WritableController, WritableRange, WritableExport, WritableNeed, Writable, Lawful, ReadsLawful}
use Rattle.manifest.specs.Given.{If, if_any, if_map, if_bound, if_mapped, if_or, if_only, if_cond, if_value, made_asks, made_gets, made_mapped, all_any, all_both, all-nth, at-nth, all-All, each_holds, never}
use Rattle.manifest.specs.Once.{Once, Apart, once_one, once-append, SameName, once_named}

-- numbers, versions and ranges
number_small : (text : List ℕ) → If (number text) (λ n. n < 65536)
number_small text =
    if_cond (λ n. n < 65536) (nat_lt 0 (length text) && every digit text && nat_lt (decimal text) 65536) (Some (decimal text)) None
    (λ e. ltb-true (decimal text) 65536 (and_parts (nat_lt 0 (length text) && every digit text) (nat_lt (decimal text) 65536) e).1) tt

front-small : (ps : List (List ℕ)) → If (front ps) (λ n. n < 65536)
front-small [] = omega arith
front-small (p ∷ ps) = number_small p

numbered-small : (a b c : Option ℕ) → If a (λ n. n < 65536) → If b (λ n. n < 65536) → If c (λ n. n < 65536) → If (numbered a b c) WritableVersion
numbered-small None b c h k l = tt
numbered-small (Some x) None c h k l = tt
numbered-small (Some x) (Some y) None h k l = tt
numbered-small (Some x) (Some y) (Some z) h k l = (h, k, l)

version-small : (text : List ℕ) → If (read_version text) WritableVersion
version-small text =
    let ps = parts 46 text in
    if_cond WritableVersion (closes (drop 3 ps)) (numbered (front ps) (front (drop 1 ps)) (front (drop 2 ps))) None
    (λ _. numbered-small (front ps) (front (drop 1 ps)) (front (drop 2 ps)) (front-small ps) (front-small (drop 1 ps)) (front-small (drop 2 ps))) tt

controller-small : (text : List ℕ) → If (controller_number text) WritableController
controller-small text = if_mapped WritableController (number text) controller_of (number_small text)

module _ {K : Type 0} (P : K → Type 0) where
  abbrev EndHolds : End K → Type 0
  EndHolds e = P (value_of e)

  end_holds : (included : Option Bool) (value : Option K) → If value P → If (end_of included value) EndHolds
  end_holds None value h = tt
  end_holds (Some i) None h = tt
  end_holds (Some true) (Some v) h = h
  end_holds (Some false) (Some v) h = h

  between-holds : (floor ceiling : Option (End K)) → If floor EndHolds → If ceiling EndHolds → If (between floor ceiling) (WritableRange P)
  between-holds None ceiling h k = tt
  between-holds (Some f) None h k = tt
  between-holds (Some f) (Some c) h k = (h, k)

  range-holds : (reads : List ℕ → Option K) → ((text : List ℕ) → If (reads text) P) → (text : List ℕ) → If (range reads text) (WritableRange P)
  range-holds reads each text =
      let comma = reach false 44 false text in
      let low = take comma text in
      let high = drop (comma + 1) text in
      if_cond (WritableRange P) (nat_lt comma (length text)) (between (floor_of reads low) (ceiling_of reads high)) (option_map AtLeast (reads text))
      (λ _. between-holds (floor_of reads low) (ceiling_of reads high) (end_holds _ (reads (drop 1 low)) (each (drop 1 low))) (end_holds _ (reads (take (length high - 1) high)) (each (take (length high - 1) high))))
      (if_mapped (WritableRange P) (reads text) AtLeast (if_map P (λ k. WritableRange P (AtLeast k)) (reads text) (λ k h. h) (each text)))

version-or : (o : Option (List ℕ)) → If (version_or o) WritableVersion
version-or None = (omega arith, omega arith, omega arith)
version-or (Some text) = version-small text

range-or : (o : Option (List ℕ)) → If (range_or o) (WritableRange WritableVersion)
range-or None = (omega arith, omega arith, omega arith)
range-or (Some text) = range-holds WritableVersion read_version version-small text

-- what a clause says: its name and the names that it uses are names
abbrev Named : Name → Type 0
Named n = is_name n ≡ true

abbrev NamedRaw : RawClause → Type 0
NamedRaw c = Named c.name × If c.uses (AllByRecursion Named)

abbrev NamedParameter : Parameter → Type 0
NamedParameter (version text) = Unit {0}
NamedParameter (uses names) = AllByRecursion Named names
NamedParameter (resolution r) = Unit {0}
NamedParameter (visibility v) = Unit {0}

names-named : (text : List ℕ) → If (names_of text) (AllByRecursion Named)
names-named text = if_cond (AllByRecursion Named) (all is_name (parts 44 text)) (Some (parts 44 text)) None (all-All is_name (parts 44 text)) tt

parameter_named : (g : Grammar) (text : List ℕ) → If (parameter_of g text) NamedParameter
parameter_named g text =
    let v = quoted_after (version_key g) text in
    let q = quoted_after (codes "uses:=") text in
    let u = bound q names_of in
    let r = bound (after (codes "resolution:=") text) resolution_of in
    let w = bound (after (codes "visibility:=") text) visibility_of in
    if_or NamedParameter (option_map version v) _ (if_mapped NamedParameter v version (if_any (λ _. Unit {0}) v (λ _. tt)))
    (if_or NamedParameter (only_if (has_uses g) (option_map uses u)) _
    (if_only NamedParameter (has_uses g) (option_map uses u) (λ _. if_mapped NamedParameter u uses (if_bound (λ _. Unit {0}) (AllByRecursion Named) q names_of (λ t _. names-named t) (if_any (λ _. Unit {0}) q (λ _. tt)))))
    (if_or NamedParameter (only_if (has_resolution g) (option_map resolution r)) _
    (if_only NamedParameter (has_resolution g) (option_map resolution r) (λ _. if_mapped NamedParameter r resolution (if_any (λ _. Unit {0}) r (λ _. tt))))
    (if_only NamedParameter (has_visibility g) (option_map visibility w) (λ _. if_mapped NamedParameter w visibility (if_any (λ _. Unit {0}) w (λ _. tt))))))

once-named_raw : {X : Type 0} (o : Option X) (c : RawClause) → NamedRaw c → If (once o c) NamedRaw
once-named_raw None c h = h
once-named_raw (Some x) c h = tt

with_named : (c : RawClause) (p : Parameter) → NamedRaw c → NamedParameter p → If (with_parameter c p) NamedRaw
with_named c (version text) h k = once-named_raw c.version _ h
with_named c (uses names) h k = once-named_raw c.uses _ (h.0, k)
with_named c (resolution r) h k = once-named_raw c.resolution _ h
with_named c (visibility v) h k = once-named_raw c.visibility _ h

parameters-named : (g : Grammar) (c : Option RawClause) (ps : List (List ℕ)) → If c NamedRaw → If (with_parameters c (map (parameter_of g) ps)) NamedRaw
parameters-named g c [] h = h
parameters-named g c (p ∷ ps) h =
    parameters-named g (bound c (λ d. bound (parameter_of g p) (with_parameter d))) ps
    (if_bound NamedRaw NamedRaw c (λ d. bound (parameter_of g p) (with_parameter d)) (λ d k. if_bound NamedParameter NamedRaw (parameter_of g p) (with_parameter d) (λ q l. with_named d q k l) (parameter_named g p)) h)

clause-named : (g : Grammar) (ps : List (List ℕ)) → If (clause_of g ps) NamedRaw
clause-named g [] = tt
clause-named g (n ∷ ps) = if_cond NamedRaw (is_name n) (with_parameters (Some (bare n)) (map (parameter_of g) ps)) None (λ e. parameters-named g (Some (bare n)) ps (e, tt)) tt

form-named : (g : Grammar) (value : List ℕ) → If (form g value) (AllByRecursion NamedRaw)
form-named g value =
    let texts = split true 44 false value in
    each_holds (λ _. Unit {0}) NamedRaw (clause g) (λ text _. clause-named g (split true 59 false text)) texts (all_any (λ _. Unit {0}) texts (λ _. tt))

-- the values of the headers
clauses_hold : {X : Type 0} (g : Grammar) (reads : RawClause → Option X) (few : List X → Bool) (name : X → Name) (P : X → Type 0) (Q : List X → Type 0)
    → ((c : RawClause) → NamedRaw c → If (reads c) P) → ((xs : List X) → AllByRecursion P xs → few xs ≡ true → Once (SameName name) xs → Q xs)
    → (value : List ℕ) → IfOk (clauses_in g reads few name value) Q
clauses_hold g reads few name P Q one whole value =
    made_gets (AllByRecursion NamedRaw) Q 7 (form g value) (λ cs. gets 8 (each reads cs) (λ xs. asks 9 (few xs) (asks 10 (none_twice (map name xs)) (Ok xs)))) (form-named g value) (λ cs h.
    made_gets (AllByRecursion P) Q 8 (each reads cs) (λ xs. asks 9 (few xs) (asks 10 (none_twice (map name xs)) (Ok xs))) (each_holds NamedRaw P reads one cs h) (λ xs k.
    made_asks Q 9 (few xs) (asks 10 (none_twice (map name xs)) (Ok xs)) (λ f.
    made_asks Q 10 (none_twice (map name xs)) (Ok xs) (λ t. whole xs k f (once_named name xs t)))))

short_is : (n : Name) → short_name n ≡ true → length n ≤ 48
short_is n h = leb-true (length n) 48 h

-- exports
abbrev ReadExport : Export → Type 0
ReadExport e = Named e.name × WritableVersion e.version × AllByRecursion Named e.uses

abbrev GoodExports : List Export → Type 0
GoodExports es = FewExports es × AllByRecursion WritableExport es

export-read : (c : RawClause) → NamedRaw c → If (export_of c) ReadExport
export-read c h =
    if_mapped ReadExport (version_or c.version) (λ v. record { name = c.name; version = v; uses = unwrap_or c.uses [] })
    (if_map WritableVersion (λ v. Named c.name × WritableVersion v × AllByRecursion Named (unwrap_or c.uses [])) (version_or c.version) (λ v k. (h.0, k, if_value (AllByRecursion Named) c.uses [] h.1 tt)) (version-or c.version))

small-uses : (e : Export) → small_export e ≡ true → (length e.name ≤ 48) × (length e.uses ≤ 8) × AllByRecursion (λ n. short_name n ≡ true) e.uses
small-uses e h =
    let a = and_parts (short_name e.name) (nat_le (length e.uses) 8 && all short_name e.uses) h in
    let b = and_parts (nat_le (length e.uses) 8) (all short_name e.uses) a.1 in
    (short_is e.name a.0, leb-true (length e.uses) 8 b.0, all-All short_name e.uses b.1)

writable_export : (e : Export) → ReadExport e → small_export e ≡ true → WritableExport e
writable_export e h k =
    let s = small-uses e k in
    ((h.0, s.0), h.1, all_both Named (λ n. short_name n ≡ true) WritableName e.uses (λ n a b. (a, short_is n b)) h.2 s.2)

exports-good : (value : List ℕ) → IfOk (exports_in value) GoodExports
exports-good value = clauses_hold Exports export_of few_exports (λ e. e.name) ReadExport GoodExports export-read good value
  where
    good : (es : List Export) → AllByRecursion ReadExport es → few_exports es ≡ true → Once (SameName (λ e. e.name)) es → GoodExports es
    good es h f o =
        let both = and_parts (nat_le (length es) 16) (all small_export es) f in
        let small = all-All small_export es both.1 in (
          record {
            most = leb-true (length es) 16 both.0;
            uses = λ j. if_map (λ e. small_export e ≡ true) (λ e. length e.uses ≤ 8) (slice_get es j) (λ e k. (small-uses e k).1) (all-nth (λ e. small_export e ≡ true) es j small);
            once = o;
          },
          all_both ReadExport (λ e. small_export e ≡ true) WritableExport es writable_export h small,
        )

-- needs, of which all are imports or none
abbrev ReadNeed : Bool → Need → Type 0
ReadNeed k n = (is_import n.kind ≡ k) × Named n.name × WritableRange WritableVersion n.range

abbrev GoodNeeds : Bool → List Need → Type 0
GoodNeeds k ns = AllByRecursion (λ n. is_import n.kind ≡ k) ns × AllByRecursion WritableNeed ns × Once (SameName (λ n. n.name)) ns

need_read : (kind : NeedKind) (k : Bool) → is_import kind ≡ k → (c : RawClause) → NamedRaw c → If (need_of kind c) (ReadNeed k)
need_read kind k e c h =
    if_mapped (ReadNeed k) (range_or c.version) (λ r. record { kind = kind; name = c.name; range = r; resolution = unwrap_or c.resolution Mandatory })
    (if_map (WritableRange WritableVersion) (λ r. (is_import kind ≡ k) × Named c.name × WritableRange WritableVersion r) (range_or c.version) (λ r l. (e, h.0, l)) (range-or c.version))

needs-good : (k : Bool) (others : ℕ) (ns : List Need) → AllByRecursion (ReadNeed k) ns → few_needs others ns ≡ true → Once (SameName (λ n. n.name)) ns → (others + length ns ≤ 16) × GoodNeeds k ns
needs-good k others ns h f o =
    let both = and_parts (nat_le (others + length ns) 16) (all (λ n. short_name n.name) ns) f in (
      leb-true (others + length ns) 16 both.0,
      (
        All-weaker (ReadNeed k) (λ n. is_import n.kind ≡ k) (λ n l. l.0) ns h,
        all_both (ReadNeed k) (λ n. short_name n.name ≡ true) WritableNeed ns (λ n a b. ((a.1, short_is n.name b), a.2)) h (all-All (λ n. short_name n.name) ns both.1),
        o,
      ),
    )

imports-good : (others : ℕ) (value : List ℕ) → IfOk (imports_in others value) (λ ns. (others + length ns ≤ 16) × GoodNeeds true ns)
imports-good others value =
    clauses_hold Imports import_of (few_needs others) (λ n. n.name) (ReadNeed true) (λ ns. (others + length ns ≤ 16) × GoodNeeds true ns) (need_read Import true refl) (needs-good true others) value

requires-good : (others : ℕ) (value : List ℕ) → IfOk (requires_in others value) (λ ns. (others + length ns ≤ 16) × GoodNeeds false ns)
requires-good others value =
    clauses_hold Requires require_of (few_needs others) (λ n. n.name) (ReadNeed false) (λ ns. (others + length ns ≤ 16) × GoodNeeds false ns) (λ c. need_read (Require (unwrap_or c.visibility Private)) false refl c) (needs-good false others) value

-- the headers so far
record GoodHeaders (h : Headers) : Type 0 where
  name : If h.name WritableName
  version : If h.version WritableVersion
  controllers : If h.controllers (WritableRange WritableController)
  exports : If h.exports GoodExports
  imports : If h.imports (GoodNeeds true)
  requires : If h.requires (GoodNeeds false)
  most : count h.imports + count h.requires ≤ 16

fresh-good : {X : Type 0} (P : X → Type 0) (known : Option X) (value : Result X ℕ) (with : X → Headers) → IfOk value P → ((x : X) → P x → GoodHeaders (with x)) → IfOk (fresh known value with) GoodHeaders
fresh-good P known value with h f =
    made_asks GoodHeaders 6 (not (is_some known)) (results.result_map_both with (λ n. n) value) (λ _. made_mapped P GoodHeaders value with f h)

name-good : (value : List ℕ) → IfOk (symbolic_name_in value) WritableName
name-good value =
    made_asks WritableName 7 (is_name value) (asks 9 (short_name value) (Ok value)) (λ a.
    made_asks WritableName 9 (short_name value) (Ok value) (λ b. (a, short_is value b)))

read-good : {X : Type 0} (P : X → Type 0) (o : Option X) (value : List ℕ) → If o P → IfOk (asks 7 (lacks 34 value) (gets 8 o Ok)) P
read-good P o value h = made_asks P 7 (lacks 34 value) (gets 8 o Ok) (λ _. made_gets P P 8 o Ok h (λ x k. k))

header-good : (h : Headers) (k : Header) (value : List ℕ) → GoodHeaders h → IfOk (with_header h k value) GoodHeaders
header-good h SymbolicName value g = fresh-good WritableName h.name (symbolic_name_in value) _ (name-good value) (λ x p. record { name = p; version = g.version; controllers = g.controllers; exports = g.exports; imports = g.imports; requires = g.requires; most = g.most })
header-good h BundleVersion value g = fresh-good WritableVersion h.version (version_in value) _ (read-good WritableVersion (read_version value) value (version-small value)) (λ x p. record { name = g.name; version = p; controllers = g.controllers; exports = g.exports; imports = g.imports; requires = g.requires; most = g.most })
header-good h Controller value g =
    fresh-good (WritableRange WritableController) h.controllers (controllers_in value) _ (read-good (WritableRange WritableController) (range controller_number value) value (range-holds WritableController controller_number controller-small value)) (λ x p. record { name = g.name; version = g.version; controllers = p; exports = g.exports; imports = g.imports; requires = g.requires; most = g.most })
header-good h ExportPackage value g = fresh-good GoodExports h.exports (exports_in value) _ (exports-good value) (λ x p. record { name = g.name; version = g.version; controllers = g.controllers; exports = p; imports = g.imports; requires = g.requires; most = g.most })
header-good h ImportPackage value g =
    fresh-good (λ ns. (count h.requires + length ns ≤ 16) × GoodNeeds true ns) h.imports (imports_in (count h.requires) value) _ (imports-good (count h.requires) value)
    (λ x p. record { name = g.name; version = g.version; controllers = g.controllers; exports = g.exports; imports = p.1; requires = g.requires; most = omega (arith, p.0) })
header-good h RequireBundle value g =
    fresh-good (λ ns. (count h.imports + length ns ≤ 16) × GoodNeeds false ns) h.requires (requires_in (count h.imports) value) _ (requires-good (count h.imports) value)
    (λ x p. record { name = g.name; version = g.version; controllers = g.controllers; exports = g.exports; imports = g.imports; requires = p.1; most = p.0 })
header-good h Unknown value g = g

none-good : GoodHeaders no_headers
none-good = record { name = tt; version = tt; controllers = tt; exports = tt; imports = tt; requires = tt; most = omega arith }

-- the imports and then the requires
order-append : (xs ys : List Need) → AllByRecursion (λ n. is_import n.kind ≡ true) xs → AllByRecursion (λ n. is_import n.kind ≡ false) ys
    → (i j : ℕ) (a b : Need) → i < j → slice_get (xs ++ ys) i ≡ Some a → slice_get (xs ++ ys) j ≡ Some b → is_import b.kind ≡ true → is_import a.kind ≡ true
order-append [] ys h k i j a b l p q r = absurd (both_ways (is_import b.kind) (at-nth (λ n. is_import n.kind ≡ false) ys j b k q) r)
order-append (x ∷ xs) ys h k zero j a b l p q r = let is : x ≡ a = cc in subst (λ n. is_import n.kind ≡ true) is h.0
order-append (x ∷ xs) ys h k (suc i) zero a b l p q r = absurd (omega arith)
order-append (x ∷ xs) ys h k (suc i) (suc j) a b l p q r = order-append xs ys h.1 k i j a b (omega arith) p q r

abbrev Alike : Need → Need → Type 0
Alike a b = (is_import a.kind ≡ is_import b.kind) × (a.name ≡ b.name)

needs-few : (xs ys : List Need) → GoodNeeds true xs → GoodNeeds false ys → length xs + length ys ≤ 16 → FewNeeds (xs ++ ys) × AllByRecursion WritableNeed (xs ++ ys)
needs-few xs ys g h most = (
  record {
    most = omega (arith, length-append xs ys);
    order = order-append xs ys g.0 h.0;
    once = λ i j a b p q s t. both i j a b p q (s, t);
  },
  All-append WritableNeed xs ys g.1 h.1,
)
  where
    apart : Apart Alike xs ys
    apart i j a b p q r = both_ways (is_import b.kind) (at-nth (λ n. is_import n.kind ≡ false) ys j b h.0 q) (sym r.0 ∙ at-nth (λ n. is_import n.kind ≡ true) xs i a g.0 p)

    both : Once Alike (xs ++ ys)
    both = once-append Alike (λ a b r. (sym r.0, sym r.1)) xs ys (λ i j a b p q r. g.2 i j a b p q r.1) (λ i j a b p q r. h.2 i j a b p q r.1) apart

bundle-good : (n : Name) (h : Headers) → WritableName n → GoodHeaders h → Writable (bundle_of n h)
bundle-good n h name g =
    let needs = needs-few (unwrap_or h.imports []) (unwrap_or h.requires []) (if_value (GoodNeeds true) h.imports [] g.imports (none true)) (if_value (GoodNeeds false) h.requires [] g.requires (none false)) g.most in
    let exports = if_value GoodExports h.exports [] g.exports (record { most = omega arith; uses = λ j. tt; once = λ i j a b p q r. never a p }, tt) in
    record {
      few = record { exports = exports.0; needs = needs.0 };
      name = name;
      version = if_value WritableVersion h.version no_version g.version (omega arith, omega arith, omega arith);
      controllers = if_value (WritableRange WritableController) h.controllers all_controllers g.controllers (omega arith);
      exports = exports.1;
      needs = needs.1;
    }
  where
    none : (k : Bool) → GoodNeeds k []
    none k = (tt, tt, λ i j a b p q r. never a p)

-- the bundles so far
abbrev SameBundle : Bundle → Bundle → Type 0
SameBundle a b = (a.name ≡ b.name) × (a.version ≡ b.version)

same_version-eq : (v w : Version) → v ≡ w → same_version v w ≡ true
same_version-eq v w e =
    and_from (v.major == w.major) (v.minor == w.minor && v.micro == w.micro) (eq-eqb v.major w.major (ap (λ x. x.major) e))
    (and_from (v.minor == w.minor) (v.micro == w.micro) (eq-eqb v.minor w.minor (ap (λ x. x.minor) e)) (eq-eqb v.micro w.micro (ap (λ x. x.micro) e)))

not_taken : (c : Bundle) (bs : List Bundle) → taken c.name c.version bs ≡ false → (i : ℕ) (a : Bundle) → slice_get bs i ≡ Some a → SameBundle a c → ⊥
not_taken c [] h i a p r = never a p
not_taken c (b ∷ bs) h zero a p r =
    let is : b ≡ a = cc in
    let name : c.name ≡ b.name = sym (ap (λ x. x.name) is ∙ r.0) in
    let version : c.version ≡ b.version = sym (ap (λ x. x.version) is ∙ r.1) in
    both_ways (equal c.name b.name && same_version c.version b.version) (or_parts (equal c.name b.name && same_version c.version b.version) (taken c.name c.version bs) h).0
    (and_from (equal c.name b.name) (same_version c.version b.version) ((equal-decides c.name b.name).1 name) (same_version-eq c.version b.version version))
not_taken c (b ∷ bs) h (suc i) a p r = not_taken c bs (or_parts (equal c.name b.name && same_version c.version b.version) (taken c.name c.version bs) h).1 i a p r

lawful-push : (bs : List Bundle) (b : Bundle) → Lawful bs → Writable b → length bs < 64 → taken b.name b.version bs ≡ false → Lawful (bs ++ (b ∷ []))
lawful-push bs b h w l t =
    record {
      most = omega (arith, length_push bs b);
      each = All-push Writable bs b h.each w;
      distinct = λ i j x y p q r s. apart i j x y p q (r, s);
    }
  where
    last : Apart SameBundle bs (b ∷ [])
    last i zero x y p q r = let is : b ≡ y = cc in not_taken b bs t i x p (subst (SameBundle x) (sym is) r)
    last i (suc j) x y p q r = never y q

    apart : Once SameBundle (bs ++ (b ∷ []))
    apart = once-append SameBundle (λ x y r. (sym r.0, sym r.1)) bs (b ∷ []) (λ i j x y p q r. h.distinct i j x y p q r.0 r.1) (once_one SameBundle b) last

record GoodState (s : State) : Type 0 where
  bundles : Lawful s.bundles
  headers : GoodHeaders s.headers

close_good : (s : State) → GoodState s → IfOk (close_step s) GoodState
close_good s g =
    made_gets WritableName GoodState 11 s.headers.name _ g.headers.name (λ n name.
    made_asks GoodState 12 (nat_lt (length s.bundles) 64) _ (λ l.
    made_asks GoodState 13 (not (taken n (unwrap_or s.headers.version no_version) s.bundles)) _ (λ t. record {
      bundles = lawful-push s.bundles (bundle_of n s.headers) g.bundles (bundle-good n s.headers name g.headers) (ltb-true (length s.bundles) 64 l) (not-true (taken n (unwrap_or s.headers.version no_version) s.bundles) t);
      headers = none-good;
    })))

line-good : (s : State) (line : List ℕ) → GoodState s → IfOk (line_step s line) GoodState
line-good s [] g = close_good s g
line-good s (b ∷ bs) g =
    made_mapped GoodHeaders GoodState (header_step s.headers (b ∷ bs)) (λ h. record { bundles = s.bundles; headers = h }) (λ h k. record { bundles = g.bundles; headers = k })
    (made_gets (λ _. Unit {0}) GoodHeaders 5 (header_line (b ∷ bs)) (λ l. with_header s.headers l.header l.value) (if_any (λ _. Unit {0}) (header_line (b ∷ bs)) (λ _. tt)) (λ l _. header-good s.headers l.header l.value g.headers))

walk-good : (at : ℕ) (s : State) (ls : List (List ℕ)) → GoodState s → IfOk (walk at s ls) Lawful
walk-good at s [] g = g.bundles
walk-good at s (l ∷ ls) g = go (line_step s l) (line-good s l g) (λ t. walk-good (at + length l + 1) t ls)
  where
    go : (r : Result State ℕ) → IfOk r GoodState → ((t : State) → GoodState t → IfOk (walk (at + length l + 1) t ls) Lawful) → IfOk (onward at r (λ t. walk (at + length l + 1) t ls)) Lawful
    go (Ok t) k rest = rest t k
    go (Err n) k rest = tt

nothing_lawful : Lawful []
nothing_lawful = record { most = omega arith; each = tt; distinct = λ i j a b p q r s. never a p }

made_cond : {X E : Type 0} (P : X → Type 0) (b : Bool) (r s : Result X E) → IfOk r P → IfOk s P → IfOk (cond b r s) P
made_cond P true r s h k = h
made_cond P false r s h k = k

made_without : (o : Option ℕ) (r : Result (List Bundle) FirstNo) → IfOk r Lawful → IfOk (without o r) Lawful
made_without None r h = h
made_without (Some at) r h = tt

reading-good : (text : List ℕ) → IfOk (reading text) Lawful
unfolding reading
reading-good text =
    made_cond Lawful (nat_le (length text) 65536) _ (refused 1 0)
    (made_without (stray_line 0 (parts 10 text)) _
    (made_cond Lawful (length text == 0) (Ok []) _ nothing_lawful
    (made_cond Lawful (closed text) (walk 0 start (lines_of text)) (refused 3 (length text)) (walk-good 0 start (lines_of text) (record { bundles = nothing_lawful; headers = none-good })) tt)))
    tt

pub reads-lawful : ReadsLawful
reads-lawful text bs e = IfOk-at_ok Lawful e (reading-good text)
