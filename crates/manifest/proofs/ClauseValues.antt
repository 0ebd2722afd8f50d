-- Exports and needs are read from the text of their clauses, which has nothing unprintable in it.
use Rattle.std.proofs.Common.{◌≡◌, ℕ, zero, suc, ◌+◌, ◌<◌, ◌≤◌, Bool, true, false, not, ◌&&◌, leb, List, [], ◌∷◌, ◌++◌, map, length, Some, None, Ok, codes, Option, unwrap_or, sym, refl, ap, ◌∙◌, arith, length-append}
use Rattle.std.specs.Option.{option_map}
use Rattle.std.specs.List.{AllByRecursion, slice_get}
use Rattle.std.proofs.ByRecursion.{All-weaker, All-map}
use Rattle.std.proofs.lemmas.Option.{MatchOption-at_some}
use Rattle.std.proofs.lemmas.Bool.{and_from, or_from, not_from_false, le-leb}
use Rattle.text.specs.Bytes.{equal, printable}
use Rattle.text.specs.Splitting.{rejoined}
use Rattle.text.proofs.Equals.{equal-decides}
use Rattle.shelf.specs.Meaning.{Name, Export, Need, is_import, FewExports}
use Rattle.shelf.specs.declared.need.NeedKind.{NeedKind}
use Rattle.shelf.specs.declared.need.NeedKind.TheVariants.{Import, Require}
use Rattle.shelf.specs.declared.need.Resolution.TheVariants.{Mandatory, Optional}
use Rattle.shelf.specs.declared.need.Visibility.{Visibility}
use Rattle.shelf.specs.declared.need.Visibility.TheVariants.{Private, Reexport}
use Rattle.manifest.specs.declared.header.Grammar.{Grammar}
use Rattle.manifest.specs.declared.header.Grammar.TheVariants.{Exports, Imports, Requires}
use Rattle.manifest.specs.Names.{all, is_name, among, none_twice}
use Rattle.manifest.specs.Parameters.{version_key, has_resolution, Parameter, version, uses, resolution, visibility}
use Rattle.manifest.specs.Clauses.{RawClause, each, form}
use Rattle.manifest.specs.ClauseText.{Clause, quoted, parameter_text, clause_text, clauses_text, says, LawfulParameter, LawfulClause}
use Rattle.manifest.specs.Questions.{asks, gets}
use Rattle.manifest.specs.Values.{export_of, need_of, import_of, require_of, short_name, small_export, few_exports, few_needs, clauses_in, exports_in, imports_in, requires_in}
use Rattle.manifest.specs.Written.{version_text, range_text, uses_parameter, export_clause, visibility_parameter, need_clause}
use Rattle.manifest.specs.Laws.{WritableName, WritableVersion, WritableExport, WritableNeed}
use Rattle.manifest.specs.Given.{all_both, All-all}
use Rattle.manifest.specs.Limits.{name_filled}
use Rattle.manifest.specs.Once.{Once, once_rest, SameName}
use Rattle.manifest.proofs.Numbers.{version_back, versions_back, version-bytes, range-bytes, value-lacks, value_prints}
use Rattle.manifest.proofs.Bytes.{Prints, name_prints, every_append, every_join}
use Rattle.manifest.proofs.Orders.{every-order}

-- a list if there is anything in it
abbrev pub given : {X : Type 0} → List X → Option (List X)
given [] = None
given (x ∷ xs) = Some (x ∷ xs)

pub given-value : {X : Type 0} (xs : List X) → unwrap_or (given xs) [] ≡ xs
given-value [] = refl
given-value (x ∷ xs) = refl

-- where no two have the same name, none stands twice
unequal : (xs ys : List ℕ) → (xs ≡ ys → ⊥) → equal xs ys ≡ false
unequal xs ys h = by (equal xs ys) refl
  where
    by : (b : Bool) → equal xs ys ≡ b → b ≡ false
    by true e = absurd (h ((equal-decides xs ys).0 e))
    by false e = refl

module _ {X : Type 0} (name : X → Name) where
  among_none : (n : Name) (xs : List X) → ((j : ℕ) (b : X) → slice_get xs j ≡ Some b → n ≡ name b → ⊥) → among n (map name xs) ≡ false
  among_none n [] h = refl
  among_none n (x ∷ xs) h = or_from (equal n (name x)) (among n (map name xs)) (unequal n (name x) (h zero x refl)) (among_none n xs (λ j. h (suc j)))

  twice_none : (xs : List X) → Once (SameName name) xs → none_twice (map name xs) ≡ true
  twice_none [] h = refl
  twice_none (x ∷ xs) h =
      and_from (not (among (name x) (map name xs))) (none_twice (map name xs)) (not_from_false (among (name x) (map name xs)) (among_none (name x) xs apart)) (twice_none xs (once_rest (SameName name) x xs h))
    where
      apart : (j : ℕ) (b : X) → slice_get xs j ≡ Some b → name x ≡ name b → ⊥
      apart j b q e = let z : zero ≡ suc j = h zero (suc j) x b refl q e in omega arith

-- clauses are read as what they were written of
module _ {X : Type 0} (g : Grammar) (reads : RawClause → Option X) (few : List X → Bool) (name : X → Name) (shape : X → Clause) (raw : X → RawClause) (said : (x : X) → says (shape x) ≡ Some (raw x)) where
  each-says : (xs : List X) → each says (map shape xs) ≡ Some (map raw xs)
  each-says [] = refl
  each-says (x ∷ xs) = rw (said x, each-says xs) refl

  each-reads : (xs : List X) → AllByRecursion (λ x. reads (raw x) ≡ Some x) xs → each reads (map raw xs) ≡ Some xs
  each-reads [] h = refl
  each-reads (x ∷ xs) h = let a = h.0 in let b = each-reads xs h.1 in rw (a, b) refl

  clauses_back : (x : X) (xs : List X) → AllByRecursion (λ y. LawfulClause g (shape y)) (x ∷ xs) → AllByRecursion (λ y. reads (raw y) ≡ Some y) (x ∷ xs) → few (x ∷ xs) ≡ true → Once (SameName name) (x ∷ xs)
      → clauses_in g reads few name (clauses_text g (map shape (x ∷ xs))) ≡ Ok (x ∷ xs)
  clauses_back x xs lawful back small once =
      let written : form g (clauses_text g (map shape (x ∷ xs))) ≡ Some (map raw (x ∷ xs)) =
      every-order g (clauses_text g (map shape (x ∷ xs))) (map raw (x ∷ xs)) (record {
        clauses = map shape (x ∷ xs);
        some = λ e. let z : ◌≡◌ {A = ℕ} 0 1 = cc in omega arith;
        lawful = All-map (LawfulClause g) shape (x ∷ xs) lawful;
        text = refl;
        meaning = each-says (x ∷ xs);
      }) in
      ap (λ o. gets 7 o (λ cs. gets 8 (each reads cs) (λ ys. asks 9 (few ys) (asks 10 (none_twice (map name ys)) (Ok ys))))) written
      ∙ ap (λ o. gets 8 o (λ ys. asks 9 (few ys) (asks 10 (none_twice (map name ys)) (Ok ys)))) (each-reads (x ∷ xs) back)
      ∙ ap (λ b. asks 9 b (asks 10 (none_twice (map name (x ∷ xs))) (Ok (x ∷ xs)))) small
      ∙ ap (λ b. asks 10 b (Ok (x ∷ xs))) (twice_none name (x ∷ xs) once)

-- exports
abbrev export_raw : Export → RawClause
export_raw e = record { name = e.name; version = Some (version_text e.version); uses = given e.uses; resolution = None; visibility = None }

export-says : (e : Export) → says (export_clause e) ≡ Some (export_raw e)
export-says e = by e.uses
  where
    by : (us : List Name) → says (record { name = e.name; parameters = version (version_text e.version) ∷ uses_parameter us }) ≡ Some (record { name = e.name; version = Some (version_text e.version); uses = given us; resolution = None; visibility = None })
    by [] = refl
    by (u ∷ us) = refl

uses-lawful : (us : List Name) → AllByRecursion WritableName us → AllByRecursion (LawfulParameter Exports) (uses_parameter us)
uses-lawful [] h = tt
uses-lawful (u ∷ us) h = ((refl, λ e. let z : ◌≡◌ {A = ℕ} 0 1 = cc in omega arith, All-weaker WritableName (λ n. is_name n ≡ true) (λ n k. k.0) (u ∷ us) h), tt)

export-lawful : (e : Export) → WritableExport e → LawfulClause Exports (export_clause e)
export-lawful e h = (h.0.0, (value-lacks (version_text e.version) (version-bytes e.version h.1), uses-lawful e.uses h.2))

export_back : (e : Export) → WritableExport e → export_of (export_raw e) ≡ Some e
export_back e h =
    ap (option_map (λ v. record { name = e.name; version = v; uses = unwrap_or (given e.uses) [] })) (version_back e.version h.1)
    ∙ ap (λ us. Some (record { name = e.name; version = e.version; uses = us })) (given-value e.uses)

short_test : (n : Name) → WritableName n → short_name n ≡ true
short_test n h = le-leb (length n) 48 h.1

small_test : (e : Export) → WritableExport e → length e.uses ≤ 8 → small_export e ≡ true
small_test e h k =
    and_from (short_name e.name) (leb (length e.uses) 8 && all short_name e.uses) (short_test e.name h.0)
    (and_from (leb (length e.uses) 8) (all short_name e.uses) (le-leb (length e.uses) 8 k) (All-all short_name e.uses (All-weaker WritableName (λ n. short_name n ≡ true) short_test e.uses h.2)))

all_small : (es : List Export) → AllByRecursion WritableExport es → ((j : ℕ) (e : Export) → slice_get es j ≡ Some e → length e.uses ≤ 8) → all small_export es ≡ true
all_small [] h f = refl
all_small (e ∷ es) h f = and_from (small_export e) (all small_export es) (small_test e h.0 (f zero e refl)) (all_small es h.1 (λ j. f (suc j)))

pub exports_back : (e : Export) (es : List Export) → FewExports (e ∷ es) → AllByRecursion WritableExport (e ∷ es) → exports_in (clauses_text Exports (map export_clause (e ∷ es))) ≡ Ok (e ∷ es)
exports_back e es f h =
    clauses_back Exports export_of few_exports (λ x. x.name) export_clause export_raw export-says e es
    (All-weaker WritableExport (λ x. LawfulClause Exports (export_clause x)) export-lawful (e ∷ es) h)
    (All-weaker WritableExport (λ x. export_of (export_raw x) ≡ Some x) export_back (e ∷ es) h)
    (and_from (leb (length (e ∷ es)) 16) (all small_export (e ∷ es)) (le-leb (length (e ∷ es)) 16 f.most) (all_small (e ∷ es) h (λ j x q. MatchOption-at_some (Unit {0}) (λ y. length y.uses ≤ 8) x q (f.uses j))))
    f.once

-- needs
abbrev seen : NeedKind → Option Visibility
seen Import = None
seen (Require v) = Some v

abbrev need_raw : Need → RawClause
need_raw n = record { name = n.name; version = Some (range_text version_text n.range); uses = None; resolution = Some n.resolution; visibility = seen n.kind }

need_says : (n : Need) → says (need_clause n) ≡ Some (need_raw n)
need_says n = by n.kind
  where
    by : (k : NeedKind) → says (record { name = n.name; parameters = version (range_text version_text n.range) ∷ (resolution n.resolution ∷ visibility_parameter k) }) ≡ Some (record { name = n.name; version = Some (range_text version_text n.range); uses = None; resolution = Some n.resolution; visibility = seen k })
    by Import = refl
    by (Require v) = refl

need_back : (kind : NeedKind) (n : Need) → n.kind ≡ kind → WritableNeed n → need_of kind (need_raw n) ≡ Some n
need_back kind n e h =
    ap (option_map (λ r. record { kind = kind; name = n.name; range = r; resolution = n.resolution })) (versions_back n.range h.1)
    ∙ ap (λ k. Some (record { kind = k; name = n.name; range = n.range; resolution = n.resolution })) (sym e)

need_lawful : (g : Grammar) → has_resolution g ≡ true → (n : Need) → AllByRecursion (LawfulParameter g) (visibility_parameter n.kind) → WritableNeed n → LawfulClause g (need_clause n)
need_lawful g r n v h = (h.0.0, (value-lacks (range_text version_text n.range) (range-bytes WritableVersion version_text version-bytes n.range h.1), (r, v)))

-- the needs of a header, which are all imports or none
abbrev pub Kind : Bool → Need → Type 0
Kind k n = is_import n.kind ≡ k

few_test : (others : ℕ) (ns : List Need) → others + length ns ≤ 16 → AllByRecursion WritableNeed ns → few_needs others ns ≡ true
few_test others ns l h = and_from (leb (others + length ns) 16) (all (λ n. short_name n.name) ns) (le-leb (others + length ns) 16 l) (All-all (λ n. short_name n.name) ns (All-weaker WritableNeed (λ n. short_name n.name ≡ true) (λ n k. short_test n.name k.0) ns h))

module _ (g : Grammar) (k : Bool) (reads : RawClause → Option Need) (has : has_resolution g ≡ true) (shows : (kind : NeedKind) → is_import kind ≡ k → AllByRecursion (LawfulParameter g) (visibility_parameter kind)) where
  needs-lawful : (ns : List Need) → AllByRecursion (Kind k) ns → AllByRecursion WritableNeed ns → AllByRecursion (λ n. LawfulClause g (need_clause n)) ns
  needs-lawful ns a h = all_both (Kind k) WritableNeed (λ n. LawfulClause g (need_clause n)) ns (λ n e w. need_lawful g has n (shows n.kind e) w) a h

  needs_back : ((n : Need) → Kind k n → WritableNeed n → reads (need_raw n) ≡ Some n) → (others : ℕ) (n : Need) (ns : List Need) → others + length (n ∷ ns) ≤ 16 → AllByRecursion (Kind k) (n ∷ ns) → AllByRecursion WritableNeed (n ∷ ns) → Once (SameName (λ m. m.name)) (n ∷ ns)
      → clauses_in g reads (few_needs others) (λ m. m.name) (clauses_text g (map need_clause (n ∷ ns))) ≡ Ok (n ∷ ns)
  needs_back back others n ns l a h once =
      clauses_back g reads (few_needs others) (λ m. m.name) need_clause need_raw need_says n ns (needs-lawful (n ∷ ns) a h) (all_both (Kind k) WritableNeed (λ m. reads (need_raw m) ≡ Some m) (n ∷ ns) back a h) (few_test others (n ∷ ns) l h) once

shows_import : (kind : NeedKind) → is_import kind ≡ true → AllByRecursion (LawfulParameter Imports) (visibility_parameter kind)
shows_import Import e = tt
shows_import (Require v) e = let z : ◌≡◌ {A = ℕ} 0 1 = cc in absurd (omega arith)

shows_require : (kind : NeedKind) → is_import kind ≡ false → AllByRecursion (LawfulParameter Requires) (visibility_parameter kind)
shows_require Import e = let z : ◌≡◌ {A = ℕ} 0 1 = cc in absurd (omega arith)
shows_require (Require v) e = (refl, tt)

is-import : (kind : NeedKind) → is_import kind ≡ true → kind ≡ Import
is-import Import e = refl
is-import (Require v) e = let z : ◌≡◌ {A = ℕ} 0 1 = cc in absurd (omega arith)

is_require : (kind : NeedKind) → is_import kind ≡ false → kind ≡ Require (unwrap_or (seen kind) Private)
is_require Import e = let z : ◌≡◌ {A = ℕ} 0 1 = cc in absurd (omega arith)
is_require (Require v) e = refl

pub imports_back : (others : ℕ) (n : Need) (ns : List Need) → others + length (n ∷ ns) ≤ 16 → AllByRecursion (λ m. is_import m.kind ≡ true) (n ∷ ns) → AllByRecursion WritableNeed (n ∷ ns) → Once (SameName (λ m. m.name)) (n ∷ ns)
    → imports_in others (clauses_text Imports (map need_clause (n ∷ ns))) ≡ Ok (n ∷ ns)
imports_back = needs_back Imports true import_of refl shows_import (λ n e w. need_back Import n (is-import n.kind e) w)

pub requires_back : (others : ℕ) (n : Need) (ns : List Need) → others + length (n ∷ ns) ≤ 16 → AllByRecursion (λ m. is_import m.kind ≡ false) (n ∷ ns) → AllByRecursion WritableNeed (n ∷ ns) → Once (SameName (λ m. m.name)) (n ∷ ns)
    → requires_in others (clauses_text Requires (map need_clause (n ∷ ns))) ≡ Ok (n ∷ ns)
requires_back = needs_back Requires false require_of refl shows_require (λ n e w. need_back (Require (unwrap_or (seen n.kind) Private)) n (is_require n.kind e) w)

-- The bytes of clauses: a version's text has nothing unprintable in it
abbrev Shown : Parameter → Type 0
Shown (version text) = Prints text
Shown (uses names) = Unit {0}
Shown (resolution r) = Unit {0}
Shown (visibility v) = Unit {0}

key_prints : (g : Grammar) → Prints (version_key g)
key_prints Exports = refl
key_prints Imports = refl
key_prints Requires = refl

quoted_prints : (key text : List ℕ) → Prints key → Prints text → Prints (key ++ quoted text)
quoted_prints key text h k = every_append printable key (quoted text) h (every_append printable text (34 ∷ []) k refl)

parameter_prints : (g : Grammar) (p : Parameter) → LawfulParameter g p → Shown p → Prints (parameter_text g p)
parameter_prints g (version text) h k = quoted_prints (version_key g) text (key_prints g) k
parameter_prints g (uses names) h k = quoted_prints (codes "uses:=") (rejoined 44 names) refl (every_join printable 44 refl names (All-weaker (λ n. is_name n ≡ true) Prints name_prints names h.2))
parameter_prints g (resolution Mandatory) h k = refl
parameter_prints g (resolution Optional) h k = refl
parameter_prints g (visibility Private) h k = refl
parameter_prints g (visibility Reexport) h k = refl

joined_filled : (sep : ℕ) (p : List ℕ) (ps : List (List ℕ)) → 0 < length p → 0 < length (rejoined sep (p ∷ ps))
joined_filled sep p [] h = h
joined_filled sep p (q ∷ ps) h = omega (arith, length-append p (sep ∷ rejoined sep (q ∷ ps)))

clause_prints : (g : Grammar) (c : Clause) → LawfulClause g c → AllByRecursion Shown c.parameters → Prints (clause_text g c)
clause_prints g c h k =
    every_join printable 59 refl (c.name ∷ map (parameter_text g) c.parameters)
    (name_prints c.name h.0, All-map Prints (parameter_text g) c.parameters (all_both (LawfulParameter g) Shown (λ p. Prints (parameter_text g p)) c.parameters (parameter_prints g) h.1 k))

module _ {X : Type 0} (P : X → Type 0) (g : Grammar) (shape : X → Clause) (lawful : (x : X) → P x → LawfulClause g (shape x)) where
  clauses_print : ((x : X) → P x → AllByRecursion Shown (shape x).parameters) → (xs : List X) → AllByRecursion P xs → Prints (clauses_text g (map shape xs))
  clauses_print shown xs h =
      every_join printable 44 refl (map (clause_text g) (map shape xs))
      (All-map Prints (clause_text g) (map shape xs) (All-map (λ c. Prints (clause_text g c)) shape xs (All-weaker P (λ x. Prints (clause_text g (shape x))) (λ x p. clause_prints g (shape x) (lawful x p) (shown x p)) xs h)))

  clauses_filled : (x : X) (xs : List X) → P x → 0 < length (clauses_text g (map shape (x ∷ xs)))
  clauses_filled x xs p = joined_filled 44 (clause_text g (shape x)) (map (clause_text g) (map shape xs)) (joined_filled 59 (shape x).name (map (parameter_text g) (shape x).parameters) (name_filled (shape x).name (lawful x p).0))

uses_shown : (us : List Name) → AllByRecursion Shown (uses_parameter us)
uses_shown [] = tt
uses_shown (u ∷ us) = (tt, tt)

export_shown : (e : Export) → WritableExport e → AllByRecursion Shown (export_clause e).parameters
export_shown e h = (value_prints (version_text e.version) (version-bytes e.version h.1), uses_shown e.uses)

visibility_shown : (kind : NeedKind) → AllByRecursion Shown (visibility_parameter kind)
visibility_shown Import = tt
visibility_shown (Require v) = (tt, tt)

need_shown : (n : Need) → WritableNeed n → AllByRecursion Shown (need_clause n).parameters
need_shown n h = (value_prints (range_text version_text n.range) (range-bytes WritableVersion version_text version-bytes n.range h.1), (tt, visibility_shown n.kind))

-- a header's value that is not empty and prints
abbrev pub Sound : List ℕ → Type 0
Sound value = (0 < length value) × Prints value

pub exports_sound : (e : Export) (es : List Export) → AllByRecursion WritableExport (e ∷ es) → Sound (clauses_text Exports (map export_clause (e ∷ es)))
exports_sound e es h =
    (clauses_filled WritableExport Exports export_clause export-lawful e es h.0, clauses_print WritableExport Exports export_clause export-lawful export_shown (e ∷ es) h)

abbrev NeedOf : Bool → Need → Type 0
NeedOf k n = (is_import n.kind ≡ k) × WritableNeed n

module _ (g : Grammar) (k : Bool) (has : has_resolution g ≡ true) (shows : (kind : NeedKind) → is_import kind ≡ k → AllByRecursion (LawfulParameter g) (visibility_parameter kind)) where
  needs_sound : (n : Need) (ns : List Need) → AllByRecursion (Kind k) (n ∷ ns) → AllByRecursion WritableNeed (n ∷ ns) → Sound (clauses_text g (map need_clause (n ∷ ns)))
  needs_sound n ns a h =
      let both = all_both (Kind k) WritableNeed (NeedOf k) (n ∷ ns) (λ m e w. (e, w)) a h in
      (clauses_filled (NeedOf k) g need_clause lawful n ns both.0, clauses_print (NeedOf k) g need_clause lawful (λ m p. need_shown m p.1) (n ∷ ns) both)
    where
      lawful : (m : Need) → NeedOf k m → LawfulClause g (need_clause m)
      lawful m p = need_lawful g has m (shows m.kind p.0) p.1

pub imports_sound : (n : Need) (ns : List Need) → AllByRecursion (λ m. is_import m.kind ≡ true) (n ∷ ns) → AllByRecursion WritableNeed (n ∷ ns) → Sound (clauses_text Imports (map need_clause (n ∷ ns)))
imports_sound = needs_sound Imports true refl shows_import

pub requires_sound : (n : Need) (ns : List Need) → AllByRecursion (λ m. is_import m.kind ≡ false) (n ∷ ns) → AllByRecursion WritableNeed (n ∷ ns) → Sound (clauses_text Requires (map need_clause (n ∷ ns)))
requires_sound = needs_sound Requires false refl shows_require
