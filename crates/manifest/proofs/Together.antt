-- The two headers with needs give few enough together.
use Rattle.std.proofs.Common.{◌≡◌, ℕ, ◌+◌, ◌≤◌, leb, List, map, length, IfOk, Ok, Option, subst, sym, arith}
use Rattle.std.proofs.lemmas.Bool.{and_parts, leb-true}
use Rattle.std.proofs.lemmas.List.{length-map}
use Rattle.arrayvec.specs.ArrayVec.{ArrayVec}
use Rattle.shelf.specs.Lent.{need_of}
use Rattle.shelf.specs.Meaning as meant
use Rattle.shelf.specs.declared.need.Need.{Need}
use Rattle.manifest.specs.declared.header.Grammar.{Grammar}
use Rattle.manifest.specs.Clauses.{RawClause, each, form}
use Rattle.manifest.specs.Given.{made_asks, made_gets, if_any}
use Rattle.manifest.specs.Index.{needs_in}
use Rattle.manifest.specs.Names.{none_twice}
use Rattle.manifest.specs.Values.{clauses_in, few_needs}

-- the needs that are read are few enough beside the others
module _ (g : Grammar) (reads : RawClause → Option meant.Need) (name : meant.Need → meant.Name) (others : ℕ) (value : List ℕ) where
  abbrev Few : List meant.Need → Type 0
  Few ns = others + length ns ≤ 16

  needs_few : IfOk (clauses_in g reads (few_needs others) name value) Few
  needs_few =
      made_gets (λ _. Unit {0}) Few 7 (form g value) _ (if_any (λ _. Unit {0}) (form g value) (λ _. tt)) (λ cs _.
      made_gets (λ _. Unit {0}) Few 8 (each reads cs) _ (if_any (λ _. Unit {0}) (each reads cs) (λ _. tt)) (λ ns _.
      made_asks Few 9 (few_needs others ns) _ (λ e.
      made_asks Few 10 (none_twice (map name ns)) (Ok ns) (λ d. leb-true (others + length ns) 16 (and_parts (leb (others + length ns) 16) _ e).0))))

  pub read_few : (ns : ArrayVec Need) → Ok (needs_in ns) ≡ clauses_in g reads (few_needs others) name value → others + length ns.items ≤ 16
  read_few ns e = let few : Few (needs_in ns) = subst (λ r. IfOk r Few) (sym e) needs_few in omega (arith, few, length-map ns.items need_of)
