-- Tests of every byte of a text, and the bytes of names.
use Rattle.std.proofs.Common.{◌≡◌, ℕ, Bool, true, false, ◌||◌, eqb, List, [], ◌∷◌, ◌++◌, refl, subst, arith}
use Rattle.std.specs.List.{AllByRecursion}
use Rattle.std.proofs.ByRecursion.{All-weaker}
use Rattle.std.proofs.lemmas.Bool.{and_parts, and_from}
use Rattle.std.proofs.lemmas.Bool.Decides.{nat_tests}
use Rattle.text.specs.Bytes.{word, every, printable, is_word}
use Rattle.text.specs.Splitting.{parts, rejoined}
use Rattle.text.proofs.Splits.{split_rejoined}
use Rattle.shelf.specs.Meaning.{Name}
use Rattle.manifest.specs.Names.{is_name}
use Rattle.manifest.specs.Given.{all-All}

pub every_weaker : (p q : ℕ → Bool) → ((b : ℕ) → p b ≡ true → q b ≡ true) → (text : List ℕ) → every p text ≡ true → every q text ≡ true
every_weaker p q f [] h = refl
every_weaker p q f (b ∷ bs) h = let both = and_parts (p b) (every p bs) h in and_from (q b) (every q bs) (f b both.0) (every_weaker p q f bs both.1)

pub every_append : (p : ℕ → Bool) (xs ys : List ℕ) → every p xs ≡ true → every p ys ≡ true → every p (xs ++ ys) ≡ true
every_append p [] ys h k = k
every_append p (x ∷ xs) ys h k = let both = and_parts (p x) (every p xs) h in and_from (p x) (every p (xs ++ ys)) both.0 (every_append p xs ys both.1 k)

pub every_join : (p : ℕ → Bool) (b : ℕ) → p b ≡ true → (ps : List (List ℕ)) → AllByRecursion (λ x. every p x ≡ true) ps → every p (rejoined b ps) ≡ true
every_join p b e [] h = refl
every_join p b e (x ∷ []) h = h.0
every_join p b e (x ∷ (y ∷ ps)) h = every_append p x (b ∷ rejoined b (y ∷ ps)) h.0 (and_from (p b) (every p (rejoined b (y ∷ ps))) e (every_join p b e (y ∷ ps) h.1))

-- the bytes of names
abbrev pub in_name : ℕ → Bool
in_name b = word b || eqb b 46

word_in_name : (b : ℕ) → word b ≡ true → in_name b ≡ true
word_in_name b h = rw h refl

pub name-bytes : (n : Name) → is_name n ≡ true → every in_name n ≡ true
name-bytes n h =
    subst (λ t. every in_name t ≡ true) (split_rejoined false 46 false n)
    (every_join in_name 46 refl (parts 46 n) (All-weaker (λ p. is_word p ≡ true) (λ p. every in_name p ≡ true) (λ p k. every_weaker word in_name word_in_name p (and_parts _ _ k).1) (parts 46 n) (all-All is_word (parts 46 n) h)))

-- nothing unprintable stands in it
abbrev pub Prints : List ℕ → Type 0
Prints text = every printable text ≡ true

pub name_prints : (n : Name) → is_name n ≡ true → Prints n
name_prints n h = every_weaker in_name printable prints n (name-bytes n h)
  where
    prints : (b : ℕ) → in_name b ≡ true → printable b ≡ true
    prints b h = grind (arith, nat_tests)
