-- Proofs, nothing to believe: what reads as a number or as a version has no comma in it.
use Rattle.std.specs.Prelude.{◌≡◌, ℕ, Bool, true, false, cond, not, ◌&&◌, List, [], ◌∷◌, ◌++◌, length, drop, Some, None, Option, ◌==◌, nat_lt, refl}
use Rattle.std.proofs.Common.{arith, subst}
use Rattle.std.specs.List.{AllByRecursion}
use Rattle.std.specs.Option.{option_map}
use Rattle.std.proofs.lemmas.Bool.Decides.{nat_tests}
use Rattle.text.specs.Bytes.{digit, word, every, lacks}
use Rattle.text.specs.Splitting.{parts, rejoined}
use Rattle.text.proofs.Splits.{split_rejoined}
use Rattle.kinds.specs.declared.controller.ControllerNumber.{ControllerNumber}
use Rattle.kinds.specs.declared.version.Version.{Version}
use Rattle.kinds.specs.Controller.{controller, numbered as controller_of}
use Rattle.kinds.specs.Number.{number}
use Rattle.kinds.specs.Version.{front, closes, numbered, version}

-- what passes one test of every byte passes a weaker one
every_weaker : (p q : ℕ → Bool) → ((b : ℕ) → p b ≡ true → q b ≡ true) → (text : List ℕ) → every p text ≡ true → every q text ≡ true
every_weaker p q weaker [] h = refl
every_weaker p q weaker (b ∷ bs) h = grind (arith, weaker, every_weaker p q weaker bs)

digit_no_comma : (b : ℕ) → digit b ≡ true → not (b == 44) ≡ true
digit_no_comma b h = grind (arith, nat_tests)

word_no_comma : (b : ℕ) → word b ≡ true → not (b == 44) ≡ true
word_no_comma b h = grind (arith, nat_tests)

every_append : (p : ℕ → Bool) (xs ys : List ℕ) → every p xs ≡ true → every p ys ≡ true → every p (xs ++ ys) ≡ true
every_append p [] ys h k = k
every_append p (x ∷ xs) ys h k = grind (arith, every_append p xs ys)

-- pieces without a comma, joined by dots, have none
joined_lacks : (ps : List (List ℕ)) → AllByRecursion (λ p. lacks 44 p ≡ true) ps → lacks 44 (rejoined 46 ps) ≡ true
joined_lacks [] h = refl
joined_lacks (p ∷ []) h = h.0
joined_lacks (p ∷ (q ∷ ps)) h = every_append (λ x. not (x == 44)) p (46 ∷ rejoined 46 (q ∷ ps)) h.0 (joined_lacks (q ∷ ps) h.1)

-- where a test with an answer answers, it passed
passed : {X : Type 0} (t : Bool) (o : Option X) (x : X) → cond t o None ≡ Some x → (t ≡ true) × (o ≡ Some x)
passed t o x e = (grind arith, grind arith)

pub number-lacks : (text : List ℕ) (n : ℕ) → number text ≡ Some n → lacks 44 text ≡ true
number-lacks text n e =
    let digits : every digit text ≡ true = grind arith in every_weaker digit (λ x. not (x == 44)) digit_no_comma text digits

mapped-some : (o : Option ℕ) (x : ControllerNumber) → option_map controller_of o ≡ Some x → o ≡ Some x.0
mapped-some o x e = grind arith

pub controller-lacks : (text : List ℕ) (x : ControllerNumber) → controller text ≡ Some x → lacks 44 text ≡ true
controller-lacks text x e = number-lacks text x.0 (mapped-some (number text) x e)

all-numbered : (a b c : Option ℕ) (v : Version) → numbered a b c ≡ Some v → (x : ℕ) × (y : ℕ) × (z : ℕ) × (a ≡ Some x) × (b ≡ Some y) × (c ≡ Some z)
all-numbered a b c v e = (v.major, v.minor, v.micro, grind arith, grind arith, grind arith)

qualifier_lacks : (q : List ℕ) → (nat_lt 0 (length q) && every word q) ≡ true → lacks 44 q ≡ true
qualifier_lacks q h = every_weaker word (λ x. not (x == 44)) word_no_comma q (grind arith)

parts_lack : (ps : List (List ℕ)) (x y z : ℕ) → closes (drop 3 ps) ≡ true → front ps ≡ Some x → front (drop 1 ps) ≡ Some y → front (drop 2 ps) ≡ Some z → AllByRecursion (λ p. lacks 44 p ≡ true) ps
parts_lack [] x y z h a b c = tt
parts_lack (p ∷ []) x y z h a b c = (number-lacks p x a, tt)
parts_lack (p ∷ (q ∷ [])) x y z h a b c = (number-lacks p x a, (number-lacks q y b, tt))
parts_lack (p ∷ (q ∷ (r ∷ []))) x y z h a b c = (number-lacks p x a, (number-lacks q y b, (number-lacks r z c, tt)))
parts_lack (p ∷ (q ∷ (r ∷ (s ∷ [])))) x y z h a b c =
    (number-lacks p x a, (number-lacks q y b, (number-lacks r z c, (qualifier_lacks s h, tt))))
parts_lack (p ∷ (q ∷ (r ∷ (s ∷ (t ∷ ps))))) x y z h a b c = absurd (cc)

pub version-lacks : (text : List ℕ) (v : Version) → version text ≡ Some v → lacks 44 text ≡ true
version-lacks text v e =
    let ps = parts 46 text in
    let read = passed (closes (drop 3 ps)) (numbered (front ps) (front (drop 1 ps)) (front (drop 2 ps))) v e in
    let n = all-numbered (front ps) (front (drop 1 ps)) (front (drop 2 ps)) v read.1 in
    let P : List ℕ → Type 0 = λ t. lacks 44 t ≡ true in
    subst P (split_rejoined false 46 false text) (joined_lacks ps (parts_lack ps n.0 n.1 n.2 read.0 n.3 n.4 n.5))
