-- Clauses are read with their parameters in whatever order.
use Rattle.std.proofs.Common.{◌≡◌, ℕ, suc, ◌+◌, Bool, true, false, cond, not, ◌||◌, eqb, List, [], ◌∷◌, ◌++◌, map, length, Some, None, codes, Option, sym, refl, ap, ◌∙◌, arith}
use Rattle.std.specs.Option.{option_map, option_or}
use Rattle.std.specs.List.{AllByRecursion}
use Rattle.std.proofs.ByRecursion.{All-weaker, All-map}
use Rattle.std.proofs.lemmas.List.{take_at, length_push}
use Rattle.std.proofs.lemmas.Bool.{and_parts, or_parts, eq-eqb, not-true}
use Rattle.std.proofs.lemmas.Bool.Decides.{nat_tests}
use Rattle.text.specs.Bytes.{lacks}
use Rattle.text.specs.Splitting.{turned, parts, reach, rejoined}
use Rattle.shelf.specs.Meaning.{Name, bound}
use Rattle.shelf.specs.declared.need.Resolution.TheVariants.{Mandatory, Optional}
use Rattle.shelf.specs.declared.need.Visibility.TheVariants.{Private, Reexport}
use Rattle.manifest.specs.declared.header.Grammar.{Grammar}
use Rattle.manifest.specs.declared.header.Grammar.TheVariants.{Exports, Imports, Requires}
use Rattle.manifest.specs.Names.{all, is_name}
use Rattle.manifest.specs.Parameters.{version_key, Parameter, version, uses, resolution, visibility, after, unquoted, quoted_after, names_of, parameter_of}
use Rattle.manifest.specs.Clauses.{bare, with_parameters, clause_of, clause, each, form}
use Rattle.manifest.specs.ClauseText.{Clause, quoted, parameter_text, clause_text, clauses_text, says, LawfulParameter, LawfulClause}
use Rattle.manifest.specs.Laws.{EveryOrder}
use Rattle.manifest.specs.Given.{All-all}
use Rattle.manifest.proofs.Bytes.{in_name, every_weaker, every_join, name-bytes}
use Rattle.manifest.proofs.Calm.{Calm, at, calm_test, calm_fewer, calm-append, calm-every, calm-lacks, calm_join, split-join, and_none}

-- the marks between clauses and between their parts
abbrev mark : ℕ → Bool
mark b = eqb b 44 || eqb b 59

mark-comma : (x : ℕ) → mark x ≡ false → at 44 x ≡ false
mark-comma x h = (or_parts (eqb x 44) (eqb x 59) h).0

mark_semicolon : (x : ℕ) → mark x ≡ false → at 59 x ≡ false
mark_semicolon x h = (or_parts (eqb x 44) (eqb x 59) h).1

in_name-calm : (x : ℕ) → in_name x ≡ true → (mark x ≡ false) × (turned true false x ≡ false)
in_name-calm x h = (grind (arith, nat_tests), grind (arith, nat_tests))

name-calm : (n : Name) → is_name n ≡ true → Calm mark true false n
name-calm n h = calm-every in_name mark true in_name-calm n (name-bytes n h)

-- a quoted text
quoted-calm : (text : List ℕ) → lacks 34 text ≡ true → Calm mark true true (text ++ (34 ∷ []))
quoted-calm [] h = (refl, refl)
quoted-calm (x ∷ xs) h =
    let both = and_parts (not (eqb x 34)) (lacks 34 xs) h in
    (and_none (mark x), rw (not-true (eqb x 34) both.0) (quoted-calm xs both.1))

key_calm : (g : Grammar) → Calm mark true false (version_key g)
key_calm Exports = calm_test mark true false (codes "version=") refl
key_calm Imports = calm_test mark true false (codes "version=") refl
key_calm Requires = calm_test mark true false (codes "bundle-version=") refl

keyed_calm : (key text : List ℕ) → Calm mark true false key → lacks 34 text ≡ true → Calm mark true false (key ++ quoted text)
keyed_calm key text h k = calm-append mark true false key (quoted text) h (refl, quoted-calm text k)

names_lack : (ns : List Name) → AllByRecursion (λ n. is_name n ≡ true) ns → lacks 34 (rejoined 44 ns) ≡ true
names_lack ns h = every_join (λ x. not (eqb x 34)) 44 refl ns (All-weaker (λ n. is_name n ≡ true) (λ n. lacks 34 n ≡ true) (λ n k. every_weaker in_name (λ x. not (eqb x 34)) unquote n (name-bytes n k)) ns h)
  where
    unquote : (b : ℕ) → in_name b ≡ true → not (eqb b 34) ≡ true
    unquote b h = grind (arith, nat_tests)

parameter_calm : (g : Grammar) (p : Parameter) → LawfulParameter g p → Calm mark true false (parameter_text g p)
parameter_calm g (version text) h = keyed_calm (version_key g) text (key_calm g) h
parameter_calm g (uses names) h = keyed_calm (codes "uses:=") (rejoined 44 names) (calm_test mark true false (codes "uses:=") refl) (names_lack names h.2)
parameter_calm g (resolution Mandatory) h = calm_test mark true false (codes "resolution:=mandatory") refl
parameter_calm g (resolution Optional) h = calm_test mark true false (codes "resolution:=optional") refl
parameter_calm g (visibility Private) h = calm_test mark true false (codes "visibility:=private") refl
parameter_calm g (visibility Reexport) h = calm_test mark true false (codes "visibility:=reexport") refl

-- a parameter is read from its text
after_back : (key rest : List ℕ) → after key (key ++ rest) ≡ Some rest
after_back [] rest = refl
after_back (k ∷ ks) rest = rw (eq-eqb k k refl) (after_back ks rest)

reach-quote : (text : List ℕ) → lacks 34 text ≡ true → reach false 34 false (text ++ (34 ∷ [])) ≡ length text
reach-quote [] h = refl
reach-quote (x ∷ xs) h = let both = and_parts (not (eqb x 34)) (lacks 34 xs) h in rw (not-true (eqb x 34) both.0) (ap suc (reach-quote xs both.1))

unquoted_back : (text : List ℕ) → lacks 34 text ≡ true → unquoted (text ++ (34 ∷ [])) ≡ Some text
unquoted_back text h =
    rw (reach-quote text h, eq-eqb (length text + 1) (length (text ++ (34 ∷ []))) (sym (length_push text 34)), take_at text (34 ∷ []) (length text) refl) refl

quoted_back : (key text : List ℕ) → lacks 34 text ≡ true → quoted_after key (key ++ quoted text) ≡ Some text
quoted_back key text h = ap (λ o. bound (bound o (after (34 ∷ []))) unquoted) (after_back key (quoted text)) ∙ unquoted_back text h

names_back : (ns : List Name) → (ns ≡ [] → ⊥) → AllByRecursion (λ n. is_name n ≡ true) ns → names_of (rejoined 44 ns) ≡ Some ns
names_back [] some h = absurd (some refl)
names_back (n ∷ ns) some h =
    let whole : parts 44 (rejoined 44 (n ∷ ns)) ≡ n ∷ ns = split-join false 44 n ns (All-weaker (λ m. is_name m ≡ true) (Calm (at 44) false false) comma (n ∷ ns) h) in
    ap (λ ps. cond (all is_name ps) (Some ps) None) whole ∙ rw (All-all is_name (n ∷ ns) h) refl
  where
    other : (b : ℕ) → in_name b ≡ true → not (eqb b 44) ≡ true
    other b h = grind (arith, nat_tests)

    comma : (m : Name) → is_name m ≡ true → Calm (at 44) false false m
    comma m k = calm-lacks 44 m (every_weaker in_name (λ x. not (eqb x 44)) other m (name-bytes m k))

or_some : {X : Type 0} (a b : Option X) (x : X) → a ≡ Some x → option_or a b ≡ Some x
or_some a b x e = rw e refl

parameter_back : (g : Grammar) (p : Parameter) → LawfulParameter g p → parameter_of g (parameter_text g p) ≡ Some p
parameter_back g (version text) h = or_some _ _ (version text) (ap (option_map version) (quoted_back (version_key g) text h))
parameter_back Exports (uses names) h =
    ap (λ o. option_or (option_map uses (bound o names_of)) None) (quoted_back (codes "uses:=") (rejoined 44 names) (names_lack names h.2))
    ∙ ap (λ o. option_or (option_map uses o) None) (names_back names h.1 h.2)
parameter_back Imports (uses names) h = let z : ◌≡◌ {A = ℕ} 0 1 = cc h.0 in absurd (omega arith)
parameter_back Requires (uses names) h = let z : ◌≡◌ {A = ℕ} 0 1 = cc h.0 in absurd (omega arith)
parameter_back Exports (resolution r) h = let z : ◌≡◌ {A = ℕ} 0 1 = cc in absurd (omega arith)
parameter_back Imports (resolution Mandatory) h = refl
parameter_back Imports (resolution Optional) h = refl
parameter_back Requires (resolution Mandatory) h = refl
parameter_back Requires (resolution Optional) h = refl
parameter_back Exports (visibility v) h = let z : ◌≡◌ {A = ℕ} 0 1 = cc in absurd (omega arith)
parameter_back Imports (visibility v) h = let z : ◌≡◌ {A = ℕ} 0 1 = cc in absurd (omega arith)
parameter_back Requires (visibility Private) h = refl
parameter_back Requires (visibility Reexport) h = refl

parameters_back : (g : Grammar) (ps : List Parameter) → AllByRecursion (LawfulParameter g) ps → map (parameter_of g) (map (parameter_text g) ps) ≡ map Some ps
parameters_back g [] h = refl
parameters_back g (p ∷ ps) h = ap (λ o. o ∷ map (parameter_of g) (map (parameter_text g) ps)) (parameter_back g p h.0) ∙ ap (λ os. Some p ∷ os) (parameters_back g ps h.1)

-- and so is a clause
module _ (g : Grammar) (c : Clause) (h : LawfulClause g c) where
  pieces_calm : AllByRecursion (Calm mark true false) (c.name ∷ map (parameter_text g) c.parameters)
  pieces_calm = (name-calm c.name h.0, All-map (Calm mark true false) (parameter_text g) c.parameters (All-weaker (LawfulParameter g) (λ p. Calm mark true false (parameter_text g p)) (parameter_calm g) c.parameters h.1))

  clause-calm : Calm (at 44) true false (clause_text g c)
  clause-calm = calm_join (at 44) true 59 refl refl (c.name ∷ map (parameter_text g) c.parameters) (All-weaker (Calm mark true false) (Calm (at 44) true false) (calm_fewer mark (at 44) mark-comma true false) (c.name ∷ map (parameter_text g) c.parameters) pieces_calm)

  clause_back : clause g (clause_text g c) ≡ says c
  clause_back =
      ap (clause_of g) (split-join true 59 c.name (map (parameter_text g) c.parameters) (All-weaker (Calm mark true false) (Calm (at 59) true false) (calm_fewer mark (at 59) mark_semicolon true false) (c.name ∷ map (parameter_text g) c.parameters) pieces_calm))
      ∙ rw h.0 (ap (with_parameters (Some (bare c.name))) (parameters_back g c.parameters h.1))

each_back : (g : Grammar) (cs : List Clause) → AllByRecursion (LawfulClause g) cs → each (clause g) (map (clause_text g) cs) ≡ each says cs
each_back g [] h = refl
each_back g (c ∷ cs) h = let a = clause_back g c h.0 in let b = each_back g cs h.1 in rw (a, b) refl

pub every-order : EveryOrder
every-order g value cs w = go w.clauses w.some w.lawful w.text w.meaning
  where
    go : (ds : List Clause) → (ds ≡ [] → ⊥) → AllByRecursion (LawfulClause g) ds → value ≡ clauses_text g ds → each says ds ≡ Some cs → form g value ≡ Some cs
    go [] some lawful text meaning = absurd (some refl)
    go (d ∷ ds) some lawful text meaning =
        ap (form g) text
        ∙ ap (each (clause g)) (split-join true 44 (clause_text g d) (map (clause_text g) ds) (All-map (Calm (at 44) true false) (clause_text g) (d ∷ ds) (All-weaker (LawfulClause g) (λ c. Calm (at 44) true false (clause_text g c)) (clause-calm g) (d ∷ ds) lawful)))
        ∙ each_back g (d ∷ ds) lawful ∙ meaning
