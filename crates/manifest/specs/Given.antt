-- What holds of an answer, if there is one. Lemmas for the proofs: a reader need not believe them.
use Rattle.std.specs.Prelude.{◌≡◌, ℕ, zero, suc, Bool, true, false, cond, List, [], ◌∷◌, IfSome, IfOk, Some, None, Ok, Err, Option, Result, refl}
use Rattle.std.proofs.Common.{arith}
use Rattle.std.specs.Option.{option_map, option_or, unwrap_or}
use Rattle.std.specs.Result as results
use Rattle.std.specs.List.{AllByRecursion, slice_get}
use Rattle.std.proofs.lemmas.Option.{MatchOption-at_some}
use Rattle.std.proofs.lemmas.Bool.{and_parts, and_from}
use Rattle.shelf.specs.Meaning.{bound}
use Rattle.manifest.specs.Names.{all}
use Rattle.manifest.specs.Parameters.{only_if}
use Rattle.manifest.specs.Clauses.{each}
use Rattle.manifest.specs.Questions.{asks, gets}

-- nothing is not something
pub never : {X A : Type 0} (x : X) → ◌≡◌ {A = Option X} None (Some x) → A
never x h = let z : ◌≡◌ {A = ℕ} 0 1 = cc in absurd (omega arith)

-- what holds of what there is, if there is any
abbrev pub If : {X : Type 0} → Option X → (X → Type 0) → Type 0
If o P = IfSome o P

pub if_any : {X : Type 0} (P : X → Type 0) (o : Option X) → ((x : X) → P x) → If o P
if_any P None h = tt
if_any P (Some x) h = h x

pub if_map : {X : Type 0} (P Q : X → Type 0) (o : Option X) → ((x : X) → P x → Q x) → If o P → If o Q
if_map P Q None f h = tt
if_map P Q (Some x) f h = f x h

pub if_bound : {X Y : Type 0} (P : X → Type 0) (Q : Y → Type 0) (o : Option X) (f : X → Option Y) → ((x : X) → P x → If (f x) Q) → If o P → If (bound o f) Q
if_bound P Q None f g h = tt
if_bound P Q (Some x) f g h = g x h

pub if_mapped : {X Y : Type 0} (Q : Y → Type 0) (o : Option X) (f : X → Y) → If o (λ x. Q (f x)) → If (option_map f o) Q
if_mapped Q None f h = tt
if_mapped Q (Some x) f h = h

pub if_or : {X : Type 0} (P : X → Type 0) (a b : Option X) → If a P → If b P → If (option_or a b) P
if_or P None b h k = k
if_or P (Some x) b h k = h

pub if_only : {X : Type 0} (P : X → Type 0) (b : Bool) (o : Option X) → (b ≡ true → If o P) → If (only_if b o) P
if_only P true o h = h refl
if_only P false o h = tt

pub if_cond : {X : Type 0} (P : X → Type 0) (b : Bool) (o p : Option X) → (b ≡ true → If o P) → If p P → If (cond b o p) P
if_cond P true o p h k = h refl
if_cond P false o p h k = k

pub if_value : {X : Type 0} (P : X → Type 0) (o : Option X) (d : X) → If o P → P d → P (unwrap_or o d)
if_value P None d h k = k
if_value P (Some x) d h k = h

-- the same of a result: `made r P`
pub made_asks : {X : Type 0} (P : X → Type 0) (n : ℕ) (b : Bool) (rest : Result X ℕ) → (b ≡ true → IfOk rest P) → IfOk (asks n b rest) P
made_asks P n true rest h = h refl
made_asks P n false rest h = tt

pub made_gets : {X Y : Type 0} (P : X → Type 0) (Q : Y → Type 0) (n : ℕ) (o : Option X) (rest : X → Result Y ℕ) → If o P → ((x : X) → P x → IfOk (rest x) Q) → IfOk (gets n o rest) Q
made_gets P Q n None rest h f = tt
made_gets P Q n (Some x) rest h f = f x h

pub made_mapped : {X Y : Type 0} (P : X → Type 0) (Q : Y → Type 0) (r : Result X ℕ) (f : X → Y) → ((x : X) → P x → Q (f x)) → IfOk r P → IfOk (results.result_map_both f (λ (n : ℕ). n) r) Q
made_mapped P Q (Ok x) f g h = g x h
made_mapped P Q (Err n) f g h = tt

-- and of every element
pub all_any : {X : Type 0} (P : X → Type 0) (xs : List X) → ((x : X) → P x) → AllByRecursion P xs
all_any P [] h = tt
all_any P (x ∷ xs) h = (h x, all_any P xs h)

pub all_both : {X : Type 0} (P Q R : X → Type 0) (xs : List X) → ((x : X) → P x → Q x → R x) → AllByRecursion P xs → AllByRecursion Q xs → AllByRecursion R xs
all_both P Q R [] f h k = tt
all_both P Q R (x ∷ xs) f h k = (f x h.0 k.0, all_both P Q R xs f h.1 k.1)

pub all-nth : {X : Type 0} (P : X → Type 0) (xs : List X) (i : ℕ) → AllByRecursion P xs → If (slice_get xs i) P
all-nth P [] i h = tt
all-nth P (x ∷ xs) zero h = h.0
all-nth P (x ∷ xs) (suc i) h = all-nth P xs i h.1

pub at-nth : {X : Type 0} (P : X → Type 0) (xs : List X) (i : ℕ) (a : X) → AllByRecursion P xs → slice_get xs i ≡ Some a → P a
at-nth P xs i a h e = MatchOption-at_some (Unit {0}) P a e (all-nth P xs i h)

-- a test of every element
pub all-All : {X : Type 0} (p : X → Bool) (xs : List X) → all p xs ≡ true → AllByRecursion (λ x. p x ≡ true) xs
all-All p [] h = tt
all-All p (x ∷ xs) h = let both = and_parts (p x) (all p xs) h in (both.0, all-All p xs both.1)

pub All-all : {X : Type 0} (p : X → Bool) (xs : List X) → AllByRecursion (λ x. p x ≡ true) xs → all p xs ≡ true
All-all p [] h = refl
All-all p (x ∷ xs) h = and_from (p x) (all p xs) h.0 (All-all p xs h.1)

each_step : {Y : Type 0} (Q : Y → Type 0) (o : Option Y) (rest : Option (List Y)) → If o Q → If rest (AllByRecursion Q) → If (bound o (λ y. option_map (λ ys. y ∷ ys) rest)) (AllByRecursion Q)
each_step Q None rest h k = tt
each_step Q (Some y) None h k = tt
each_step Q (Some y) (Some ys) h k = (h, k)

pub each_holds : {X Y : Type 0} (P : X → Type 0) (Q : Y → Type 0) (f : X → Option Y) → ((x : X) → P x → If (f x) Q) → (xs : List X) → AllByRecursion P xs → If (each f xs) (AllByRecursion Q)
each_holds P Q f g [] h = tt
each_holds P Q f g (x ∷ xs) h = each_step Q (f x) (each f xs) (g x h.0) (each_holds P Q f g xs h.1)
