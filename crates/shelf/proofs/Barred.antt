-- Lists in which no item bars a later one: by their first item, under a map, and as the limits say it of exports and needs.
use Rattle.std.proofs.Common.{ℕ, zero, suc, ◌<◌, ◌≤◌, List, ◌∷◌, map, length, get_or, IfSome, sym, refl, subst, inl, inr, ⊎_elim, arith}
use Rattle.std.specs.List.{AllWithin, HoldsAt, slice_get}
use Rattle.std.proofs.lemmas.Option.{get_or_from_slice_get, same_Some, slice_get-get_or, slice_get_within}
use Rattle.std.proofs.lemmas.Bool.{both_ways, cases_Bool, cases_order}
use Rattle.shelf.specs.Meaning.{Export, Need, FewExports, FewNeeds, is_import}
use Rattle.shelf.specs.Limits.{BarsNeed, Clear, SameExport}
use Rattle.shelf.proofs.Every.{nth_mapped, nth_unmapped}

-- an item more in front
pub clear-cons : {T : Type 0} (barred : T → T → Type 0) (x : T) (xs : List T) → AllWithin (λ y. barred x y → ⊥) xs 0 (length xs) → Clear barred xs → Clear barred (x ∷ xs)
clear-cons barred x xs none clear zero (suc j) a b lt p q h =
    none j b (omega arith) (slice_get_within xs j b q) (subst (λ v. barred v (get_or xs j b)) (sym (same_Some x a p)) (subst (λ v. barred a v) (sym (get_or_from_slice_get xs j b b q)) h))
clear-cons barred x xs none clear (suc i) (suc j) a b lt p q h = clear i j a b (omega arith) p q h
clear-cons barred x xs none clear i zero a b lt p q h = omega arith

pub clear-rest : {T : Type 0} (barred : T → T → Type 0) (x : T) (xs : List T) → Clear barred (x ∷ xs) → Clear barred xs
clear-rest barred x xs clear i j a b lt p q h = clear (suc i) (suc j) a b (omega arith) p q h

pub not_clear : {T : Type 0} (barred : T → T → Type 0) (x : T) (xs : List T) → (k : ℕ) × (k < length xs) × HoldsAt (barred x) xs k → Clear barred (x ∷ xs) → ⊥
not_clear barred x xs (k, lt, h) clear = clear 0 (suc k) x (get_or xs k x) (omega arith) refl (slice_get-get_or xs k x lt) (h x)

pub clear_map : {X Y : Type 0} (barred : Y → Y → Type 0) (f : X → Y) (xs : List X) → Clear (λ x y. barred (f x) (f y)) xs → Clear barred (map f xs)
clear_map barred f xs clear i j v w lt p q h =
    let (x, x-at, x-is) = nth_unmapped f xs i v p in
    let (y, y-at, y-is) = nth_unmapped f xs j w q in
    clear i j x y lt x-at y-at (subst (λ a. barred a (f y)) (sym x-is) (subst (λ b. barred v b) (sym y-is) h))

pub clear_unmap : {X Y : Type 0} (barred : Y → Y → Type 0) (f : X → Y) (xs : List X) → Clear barred (map f xs) → Clear (λ x y. barred (f x) (f y)) xs
clear_unmap barred f xs clear i j x y lt p q h = clear i j (f x) (f y) lt (nth_mapped f xs i x p) (nth_mapped f xs j y q) h

pub few-exports : (es : List Export) → length es ≤ 16 → ((j : ℕ) → IfSome (slice_get es j) (λ e. length e.uses ≤ 8)) → Clear SameExport es → FewExports es
few-exports es most uses clear =
    record {
      most = most;
      uses = uses;
      once = λ i j e f p q s.
          ⊎_elim
          (λ same. same)
          (⊎_elim (λ lt. absurd (clear i j e f lt p q s)) (λ gt. absurd (clear j i f e gt q p (sym s))))
          (cases_order i j);
    }

pub exports_clear : (es : List Export) → FewExports es → Clear SameExport es
exports_clear es few i j e f lt p q s = omega (arith, few.once i j e f p q s)

pub few-needs : (ns : List Need) → length ns ≤ 16 → Clear BarsNeed ns → FewNeeds ns
few-needs ns most clear =
    record {
      most = most;
      order = λ i j a b lt p q import.
          ⊎_elim (λ is. is) (λ isnt. absurd (clear i j a b lt p q (inr (isnt, import)))) (cases_Bool (is_import a.kind));
      once = λ i j a b p q k s.
          ⊎_elim
          (λ same. same)
          (⊎_elim
          (λ lt. absurd (clear i j a b lt p q (inl (k, s))))
          (λ gt. absurd (clear j i b a gt q p (inl (sym k, sym s)))))
          (cases_order i j);
    }

pub needs_clear : (ns : List Need) → FewNeeds ns → Clear BarsNeed ns
needs_clear ns few i j a b lt p q h =
    ⊎_elim
    (λ same. omega (arith, few.once i j a b p q same.0 same.1))
    (λ late. both_ways (is_import a.kind) late.0 (few.order i j a b lt p q late.1))
    h
