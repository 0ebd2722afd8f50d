-- What a directory says keeps the limits of a shelf, and no name in it is empty. A proof: a reader need not believe it.
use Rattle.std.specs.Prelude.{◌≡◌, ℕ, zero, suc, ◌<◌, ◌≤◌, true, List, [], ◌∷◌, map, length, IfSome, Some, Ok, refl}
use Rattle.std.proofs.Common.{arith, sym, ap, subst}
use Rattle.std.specs.List.{AllByRecursion}
use Rattle.std.proofs.ByRecursion.{All-weaker}
use Rattle.shelf.specs.Meaning.{Name, Bundle, bundle_at, FewItems, WellFormed}
use Rattle.manifest.specs.Names.{is_name}
use Rattle.manifest.specs.Reading.{reading}
use Rattle.manifest.specs.Laws.{WritableName, WritableExport, WritableNeed, Writable, LawfulFormed}
use Rattle.manifest.specs.Lawful.{reads-lawful}

length-all : (bs : List Bundle) → length (map Some bs) ≡ length bs
length-all [] = refl
length-all (b ∷ bs) = ap suc (length-all bs)

each-few : (bs : List Bundle) → AllByRecursion Writable bs → (place : ℕ) → IfSome (bundle_at (map Some bs) place) FewItems
each-few [] h place = tt
each-few (b ∷ bs) h zero = h.0.few
each-few (b ∷ bs) h (suc place) = each-few bs h.1 place

pub lawful-formed : LawfulFormed
lawful-formed bs h = record { places = subst (λ n. n ≤ 64) (sym (length-all bs)) h.most; each = each-few bs h.each }

pub reads-formed : (text : List ℕ) (bs : List Bundle) → reading text ≡ Ok bs → WellFormed (map Some bs)
reads-formed text bs e = lawful-formed bs (reads-lawful text bs e)

-- no name is empty
pub name_filled : (n : Name) → is_name n ≡ true → 0 < length n
name_filled [] h = let z : ◌≡◌ {A = ℕ} 0 1 = cc in absurd (omega arith)
name_filled (x ∷ xs) h = omega arith

abbrev pub Filled : Name → Type 0
Filled n = 0 < length n

pub record FilledBundle (b : Bundle) : Type 0 where
  pub name : Filled b.name
  pub exports : AllByRecursion (λ e. Filled e.name × AllByRecursion Filled e.uses) b.exports
  pub needs : AllByRecursion (λ n. Filled n.name) b.needs

pub writable_filled : (b : Bundle) → Writable b → FilledBundle b
writable_filled b w =
    record {
      name = name_filled b.name w.name.0;
      exports = All-weaker WritableExport (λ e. Filled e.name × AllByRecursion Filled e.uses) (λ e h. (name_filled e.name h.0.0, All-weaker WritableName Filled (λ n k. name_filled n k.0) e.uses h.2)) b.exports w.exports;
      needs = All-weaker WritableNeed (λ n. Filled n.name) (λ n h. name_filled n.name h.0.0) b.needs w.needs;
    }

pub reads_filled : (text : List ℕ) (bs : List Bundle) → reading text ≡ Ok bs → AllByRecursion FilledBundle bs
reads_filled text bs e = All-weaker Writable FilledBundle writable_filled bs (reads-lawful text bs e).each
