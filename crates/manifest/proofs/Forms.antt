-- A value that follows the form is the text of its clauses.
use Rattle.std.proofs.Common.{◌≡◌, ℕ, suc, ◌+◌, ◌<◌, Bool, true, false, cond, not, ◌&&◌, eqb, List, [], ◌∷◌, ◌++◌, map, length, take, Some, None, codes, Option, sym, refl, ap, ◌∙◌, subst, arith}
use Rattle.std.proofs.lemmas.Bool.{eqb-true, and_from}
use Rattle.std.specs.Option.{option_map}
use Rattle.std.specs.List.{AllByRecursion}
use Rattle.text.specs.Bytes.{equal, lacks}
use Rattle.text.proofs.Equals.{equal-decides}
use Rattle.text.specs.Splitting.{split, parts, reach, rejoined}
use Rattle.text.proofs.Splits.{split_rejoined, some-piece}
use Rattle.shelf.specs.Meaning.{Name, bound}
use Rattle.shelf.specs.declared.need.Resolution.TheVariants.{Mandatory, Optional}
use Rattle.shelf.specs.declared.need.Visibility.TheVariants.{Private, Reexport}
use Rattle.manifest.specs.declared.header.Grammar.{Grammar}
use Rattle.manifest.specs.Names.{all, is_name}
use Rattle.manifest.specs.Parameters.{version_key, has_uses, has_resolution, has_visibility, Parameter, version, uses, resolution, visibility, after, unquoted, quoted_after, names_of, resolution_of, visibility_of, only_if, parameter_of}
use Rattle.manifest.specs.Clauses.{RawClause, bare, with_parameter, with_parameters, clause_of, clause, each, form}
use Rattle.manifest.specs.ClauseText.{Clause, quoted, resolution_text, visibility_text, parameter_text, clause_text, says, LawfulParameter, LawfulClause}
use Rattle.manifest.specs.Laws.{WrittenAs, OnlyWritten}
use Rattle.manifest.specs.Given.{If, if_map, if_bound, if_mapped, if_or, if_only, if_cond, all-All}

-- keys, quotes and words
after-says : (key text : List ℕ) → If (after key text) (λ rest. text ≡ key ++ rest)
after-says [] text = refl
after-says (k ∷ ks) [] = tt
after-says (k ∷ ks) (b ∷ bs) =
    if_cond (λ rest. b ∷ bs ≡ k ∷ (ks ++ rest)) (eqb k b) (after ks bs) None (λ e. if_map (λ rest. bs ≡ ks ++ rest) (λ rest. b ∷ bs ≡ k ∷ (ks ++ rest)) (after ks bs) (λ rest h. ap (λ x. x ∷ bs) (sym (eqb-true k b e)) ∙ ap (λ xs. k ∷ xs) h) (after-says ks bs)) tt

same_true : (xs ys : List ℕ) → equal xs ys ≡ true → xs ≡ ys
same_true xs ys h = (equal-decides xs ys).0 h

abbrev Unquotes : List ℕ → List ℕ → Type 0
Unquotes text t = (lacks 34 t ≡ true) × (text ≡ t ++ (34 ∷ []))

none_left : {X : Type 0} (xs : List X) → length xs ≡ 0 → xs ≡ []
none_left [] h = refl
none_left (x ∷ xs) h = let no : ⊥ = omega (arith, h) in elim no [ ]

quote-step : (x : ℕ) (xs : List ℕ) (b : Bool) → eqb x 34 ≡ b → (reach false 34 false xs + 1 ≡ length xs → Unquotes xs (take (reach false 34 false xs) xs))
    → cond (b && true) 0 (suc (reach false 34 false xs)) + 1 ≡ suc (length xs) → Unquotes (x ∷ xs) (take (cond (b && true) 0 (suc (reach false 34 false xs))) (x ∷ xs))
quote-step x xs true e ih h = let none : length xs ≡ 0 = omega (arith, h) in (refl, ap (λ y. y ∷ xs) (eqb-true x 34 e) ∙ ap (λ ys. 34 ∷ ys) (none_left xs none))
quote-step x xs false e ih h =
    let fewer : reach false 34 false xs + 1 ≡ length xs = omega (arith, h) in
    let rest : Unquotes xs (take (reach false 34 false xs) xs) = ih fewer in
    (and_from (not (eqb x 34)) (lacks 34 (take (reach false 34 false xs) xs)) (ap not e) rest.0, ap (λ ys. x ∷ ys) rest.1)

unquote : (text : List ℕ) → reach false 34 false text + 1 ≡ length text → Unquotes text (take (reach false 34 false text) text)
unquote [] h = let no : ⊥ = omega (arith, h) in elim no [ ]
unquote (x ∷ xs) h = quote-step x xs (eqb x 34) refl (unquote xs) h

unquoted-says : (text : List ℕ) → If (unquoted text) (Unquotes text)
unquoted-says text =
    if_cond (Unquotes text) (eqb (reach false 34 false text + 1) (length text)) (Some (take (reach false 34 false text) text)) None (λ e. unquote text (eqb-true (reach false 34 false text + 1) (length text) e)) tt

abbrev Quotes : List ℕ → List ℕ → List ℕ → Type 0
Quotes key text t = (lacks 34 t ≡ true) × (text ≡ key ++ quoted t)

quoted-says : (key text : List ℕ) → If (quoted_after key text) (Quotes key text)
quoted-says key text =
    if_bound (λ u. text ≡ key ++ (34 ∷ u)) (Quotes key text) (bound (after key text) (after (34 ∷ []))) unquoted (λ u h. if_map (Unquotes u) (Quotes key text) (unquoted u) (λ t k. (k.0, h ∙ ap (λ w. key ++ (34 ∷ w)) k.1)) (unquoted-says u))
    (if_bound (λ u. text ≡ key ++ u) (λ u. text ≡ key ++ (34 ∷ u)) (after key text) (after (34 ∷ [])) (λ u h. if_map (λ w. u ≡ 34 ∷ w) (λ w. text ≡ key ++ (34 ∷ w)) (after (34 ∷ []) u) (λ w k. h ∙ ap (λ z. key ++ z) k) (after-says (34 ∷ []) u)) (after-says key text))

abbrev NamesOf : List ℕ → List Name → Type 0
NamesOf text ns = (ns ≡ [] → ⊥) × AllByRecursion (λ n. is_name n ≡ true) ns × (rejoined 44 ns ≡ text)

not_none : (ps : List (List ℕ)) → 0 < length ps → ps ≡ [] → ⊥
not_none ps h e = let no : 0 < length {A = List ℕ} [] = subst (λ q. 0 < length q) e h in omega (arith, no)

names_say : (text : List ℕ) → If (names_of text) (NamesOf text)
names_say text =
    if_cond (NamesOf text) (all is_name (parts 44 text)) (Some (parts 44 text)) None (λ e. (not_none (parts 44 text) (some-piece false 44 false text), all-All is_name (parts 44 text) e, split_rejoined false 44 false text)) tt

resolution-says : (text : List ℕ) → If (resolution_of text) (λ r. text ≡ resolution_text r)
resolution-says text =
    if_cond (λ r. text ≡ resolution_text r) (equal text (codes "mandatory")) (Some Mandatory) (cond (equal text (codes "optional")) (Some Optional) None) (λ e. same_true text (codes "mandatory") e) (if_cond (λ r. text ≡ resolution_text r) (equal text (codes "optional")) (Some Optional) None (λ e. same_true text (codes "optional") e) tt)

visibility-says : (text : List ℕ) → If (visibility_of text) (λ v. text ≡ visibility_text v)
visibility-says text =
    if_cond (λ r. text ≡ visibility_text r) (equal text (codes "private")) (Some Private) (cond (equal text (codes "reexport")) (Some Reexport) None) (λ e. same_true text (codes "private") e) (if_cond (λ r. text ≡ visibility_text r) (equal text (codes "reexport")) (Some Reexport) None (λ e. same_true text (codes "reexport") e) tt)

-- parameters
abbrev Parameters : Grammar → List ℕ → Parameter → Type 0
Parameters g text p = LawfulParameter g p × (parameter_text g p ≡ text)

module _ (g : Grammar) (text : List ℕ) where
  version_parameter : If (option_map version (quoted_after (version_key g) text)) (Parameters g text)
  version_parameter = if_mapped (Parameters g text) (quoted_after (version_key g) text) version (if_map (Quotes (version_key g) text) (λ t. Parameters g text (version t)) (quoted_after (version_key g) text) (λ t h. (h.0, sym h.1)) (quoted-says (version_key g) text))

  uses-names : If (bound (quoted_after (codes "uses:=") text) names_of) (λ ns. (ns ≡ [] → ⊥) × AllByRecursion (λ n. is_name n ≡ true) ns × (parameter_text g (uses ns) ≡ text))
  uses-names = if_bound (Quotes (codes "uses:=") text) (λ ns. (ns ≡ [] → ⊥) × AllByRecursion (λ n. is_name n ≡ true) ns × (parameter_text g (uses ns) ≡ text)) (quoted_after (codes "uses:=") text) names_of (λ t h. if_map (NamesOf t) (λ ns. (ns ≡ [] → ⊥) × AllByRecursion (λ n. is_name n ≡ true) ns × (parameter_text g (uses ns) ≡ text)) (names_of t) (λ ns k. (k.0, k.1, ap (λ w. codes "uses:=" ++ quoted w) k.2 ∙ sym h.1)) (names_say t)) (quoted-says (codes "uses:=") text)

  uses-parameter : If (only_if (has_uses g) (option_map uses (bound (quoted_after (codes "uses:=") text) names_of))) (Parameters g text)
  uses-parameter = if_only (Parameters g text) (has_uses g) (option_map uses (bound (quoted_after (codes "uses:=") text) names_of)) (λ has. if_mapped (Parameters g text) (bound (quoted_after (codes "uses:=") text) names_of) uses (if_map (λ ns. (ns ≡ [] → ⊥) × AllByRecursion (λ n. is_name n ≡ true) ns × (parameter_text g (uses ns) ≡ text)) (λ ns. Parameters g text (uses ns)) (bound (quoted_after (codes "uses:=") text) names_of) (λ ns k. ((has, k.0, k.1), k.2)) uses-names))

  resolution_parameter : If (only_if (has_resolution g) (option_map resolution (bound (after (codes "resolution:=") text) resolution_of))) (Parameters g text)
  resolution_parameter = if_only (Parameters g text) (has_resolution g) (option_map resolution (bound (after (codes "resolution:=") text) resolution_of)) (λ has. if_mapped (Parameters g text) (bound (after (codes "resolution:=") text) resolution_of) resolution (if_bound (λ t. text ≡ codes "resolution:=" ++ t) (λ r. Parameters g text (resolution r)) (after (codes "resolution:=") text) resolution_of (λ t h. if_map (λ r. t ≡ resolution_text r) (λ r. Parameters g text (resolution r)) (resolution_of t) (λ r k. (has, ap (λ w. codes "resolution:=" ++ w) (sym k) ∙ sym h)) (resolution-says t)) (after-says (codes "resolution:=") text)))

  visibility-parameter : If (only_if (has_visibility g) (option_map visibility (bound (after (codes "visibility:=") text) visibility_of))) (Parameters g text)
  visibility-parameter = if_only (Parameters g text) (has_visibility g) (option_map visibility (bound (after (codes "visibility:=") text) visibility_of)) (λ has. if_mapped (Parameters g text) (bound (after (codes "visibility:=") text) visibility_of) visibility (if_bound (λ t. text ≡ codes "visibility:=" ++ t) (λ r. Parameters g text (visibility r)) (after (codes "visibility:=") text) visibility_of (λ t h. if_map (λ r. t ≡ visibility_text r) (λ r. Parameters g text (visibility r)) (visibility_of t) (λ r k. (has, ap (λ w. codes "visibility:=" ++ w) (sym k) ∙ sym h)) (visibility-says t)) (after-says (codes "visibility:=") text)))

  parameter_says : If (parameter_of g text) (Parameters g text)
  parameter_says =
      if_or (Parameters g text) (option_map version (quoted_after (version_key g) text)) _ version_parameter
      (if_or (Parameters g text) (only_if (has_uses g) (option_map uses (bound (quoted_after (codes "uses:=") text) names_of))) _ uses-parameter
      (if_or (Parameters g text) (only_if (has_resolution g) (option_map resolution (bound (after (codes "resolution:=") text) resolution_of))) _ resolution_parameter visibility-parameter))

-- clauses
abbrev Given : Grammar → Option RawClause → List (List ℕ) → RawClause → Type 0
Given g c ps d = (qs : List Parameter) × AllByRecursion (LawfulParameter g) qs × (map (parameter_text g) qs ≡ ps) × (with_parameters c (map Some qs) ≡ Some d)

nothing_more : (Q : RawClause → Type 0) (ps : List (Option Parameter)) → If (with_parameters None ps) Q
nothing_more Q [] = tt
nothing_more Q (p ∷ ps) = nothing_more Q ps

bound-none : (c : Option RawClause) → bound {B = RawClause} c (λ d. None) ≡ None
bound-none None = refl
bound-none (Some d) = refl

given-step : (g : Grammar) (c : Option RawClause) (text : List ℕ) (ps : List (List ℕ)) (p : Option Parameter) → If p (Parameters g text)
    → ((e : Option RawClause) → If (with_parameters e (map (parameter_of g) ps)) (Given g e ps))
    → If (with_parameters (bound c (λ d. bound p (with_parameter d))) (map (parameter_of g) ps)) (Given g c (text ∷ ps))
given-step g c text ps None h rest =
    subst (λ e. If (with_parameters e (map (parameter_of g) ps)) (Given g c (text ∷ ps))) (sym (bound-none c)) (nothing_more (Given g c (text ∷ ps)) (map (parameter_of g) ps))
given-step g c text ps (Some q) h rest =
    let e : Option RawClause = bound c (λ d. with_parameter d q) in
    if_map (Given g e ps) (Given g c (text ∷ ps)) (with_parameters e (map (parameter_of g) ps)) (λ d k. (q ∷ k.0, (h.0, k.1), ap (λ t. t ∷ map (parameter_text g) k.0) h.1 ∙ ap (λ ts. text ∷ ts) k.2, k.3)) (rest e)

given-says : (g : Grammar) (c : Option RawClause) (ps : List (List ℕ)) → If (with_parameters c (map (parameter_of g) ps)) (Given g c ps)
given-says g None [] = tt
given-says g (Some d) [] = ([], tt, refl, refl)
given-says g c (p ∷ ps) = given-step g c p ps (parameter_of g p) (parameter_says g p) (λ e. given-says g e ps)

abbrev Clauses : Grammar → List ℕ → RawClause → Type 0
Clauses g text d = (c : Clause) × LawfulClause g c × (clause_text g c ≡ text) × (says c ≡ Some d)

pieces_say : (g : Grammar) (text : List ℕ) (ps : List (List ℕ)) → rejoined 59 ps ≡ text → If (clause_of g ps) (Clauses g text)
pieces_say g text [] h = tt
pieces_say g text (n ∷ ps) h =
    if_cond (Clauses g text) (is_name n) (with_parameters (Some (bare n)) (map (parameter_of g) ps)) None (λ e. if_map (Given g (Some (bare n)) ps) (Clauses g text) (with_parameters (Some (bare n)) (map (parameter_of g) ps)) (λ d k. (record { name = n; parameters = k.0 }, (e, k.1), ap (λ ts. rejoined 59 (n ∷ ts)) k.2 ∙ h, k.3)) (given-says g (Some (bare n)) ps)) tt

clause-says : (g : Grammar) (text : List ℕ) → If (clause g text) (Clauses g text)
clause-says g text = pieces_say g text (split true 59 false text) (split_rejoined true 59 false text)

abbrev Listed : Grammar → List (List ℕ) → List RawClause → Type 0
Listed g ts ds = (cs : List Clause) × AllByRecursion (LawfulClause g) cs × (map (clause_text g) cs ≡ ts) × (each says cs ≡ Some ds)

listed_step : (g : Grammar) (t : List ℕ) (ts : List (List ℕ)) (d : Option RawClause) (ds : Option (List RawClause)) → If d (Clauses g t) → If ds (Listed g ts) → If (bound d (λ y. option_map (λ ys. y ∷ ys) ds)) (Listed g (t ∷ ts))
listed_step g t ts None ds h k = tt
listed_step g t ts (Some d) None h k = tt
listed_step g t ts (Some d) (Some ds) h k =
    (h.0 ∷ k.0, (h.1, k.1), ap (λ x. x ∷ map (clause_text g) k.0) h.2 ∙ ap (λ xs. t ∷ xs) k.2, ap (λ o. bound o (λ y. option_map (λ ys. y ∷ ys) (each says k.0))) h.3 ∙ ap (λ o. option_map (λ ys. d ∷ ys) o) k.3)

listed : (g : Grammar) (ts : List (List ℕ)) → If (each (clause g) ts) (Listed g ts)
listed g [] = ([], tt, refl, refl)
listed g (t ∷ ts) = listed_step g t ts (clause g t) (each (clause g) ts) (clause-says g t) (listed g ts)

empty-map : (g : Grammar) (cs : List Clause) (ts : List (List ℕ)) → map (clause_text g) cs ≡ ts → 0 < length ts → cs ≡ [] → ⊥
empty-map g cs ts e h k = not_none ts h (sym e ∙ ap (map (clause_text g)) k)

form-says : (g : Grammar) (value : List ℕ) → If (form g value) (WrittenAs g value)
form-says g value =
    if_map (Listed g (split true 44 false value)) (WrittenAs g value) (form g value) (λ ds k. record {
      clauses = k.0;
      some = empty-map g k.0 (split true 44 false value) k.2 (some-piece true 44 false value);
      lawful = k.1;
      text = sym (split_rejoined true 44 false value) ∙ ap (rejoined 44) (sym k.2);
      meaning = k.3;
    }) (listed g (split true 44 false value))

pub only-written : OnlyWritten
only-written g value cs e = subst (λ o. If o (WrittenAs g value)) e (form-says g value)
