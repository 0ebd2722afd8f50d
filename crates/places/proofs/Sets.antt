-- Sets of 64 places, as the functions change and compare them.
use Rattle.std.proofs.Common.{◌≡◌, ℕ, ◌-◌, ◌*◌, ◌%◌, ◌^◌, ◌<◌, ◌≤◌, min, max, Bool, true, false, not, ◌&&◌, ◌||◌, eqb, ltb, Decides, ⊎_elim, sym, refl, ap, ◌∙◌, arith}
use mathlib.Core.Bool.{or_comm}
use lib.Bits.{bit_or, bit_and}
use Rattle.std.specs.Int.{bit_at, bit_not, trailing_zeros, w64}
use Rattle.std.proofs.lemmas.Bool.{and_from, and_left, and_right, both_ways, cases_eq, cases_lt, eq-eqb, le-ltb, lt-ltb, ne_eqb}
use Rattle.std.proofs.lemmas.Bool.Decides.{Decides-eqb, Decides-like, nat_tests}
use Rattle.std.proofs.lemmas.Nat.{and_le_l, one_shl}
use Rattle.std.proofs.lemmas.Nat.Bits.{bit_at_above, bit_at_and, bit_at-lt, bit_at_not, bit_at_or, bit_at-pow_other, bit_at-pow_same, bit_at-trailing_zeros, bit_at-zero, same_from_bits}
use Rattle.places.specs.Members.{member, only}
use Rattle.places.specs.Sets.{Lowest, has}
use Rattle.places.specs.declared.set.PlaceSet.{PlaceSet}

of_max : (x y : ℕ) → x < 2 → y < 2 → eqb (max x y) 1 ≡ (eqb x 1 || eqb y 1)
of_max x y p q = grind (arith, nat_tests)

of_min : (x y : ℕ) → x < 2 → y < 2 → eqb (min x y) 1 ≡ (eqb x 1 && eqb y 1)
of_min x y p q = grind (arith, nat_tests)

of_rest : (x : ℕ) → x < 2 → eqb (1 - x) 1 ≡ not (eqb x 1)
of_rest x p = grind (arith, nat_tests)

same_bit : (x y : ℕ) → x < 2 → y < 2 → eqb x 1 ≡ eqb y 1 → x ≡ y
same_bit x y p q e = grind (arith, nat_tests)

pub member-or : (a b p : ℕ) → member (bit_or a b) p ≡ (member a p || member b p)
member-or a b p = ap (λ n. eqb n 1) (bit_at_or a b p) ∙ of_max (bit_at a p) (bit_at b p) (bit_at-lt a p) (bit_at-lt b p)

pub member-and : (a b p : ℕ) → member (bit_and a b) p ≡ (member a p && member b p)
member-and a b p = ap (λ n. eqb n 1) (bit_at_and a b p) ∙ of_min (bit_at a p) (bit_at b p) (bit_at-lt a p) (bit_at-lt b p)

-- no bit past the width
pub member_past : (n p : ℕ) → n < 2 ^ 64 → 64 ≤ p → member n p ≡ false
member_past n p lt le = ap (λ b. eqb b 1) (bit_at_above n 64 p lt le)

-- `a & !b`
pub member-without : (a b p : ℕ) → a < 2 ^ 64 → b < 2 ^ 64 → member (bit_and a (bit_not w64 b)) p ≡ (member a p && not (member b p))
member-without a b p a-in b-in =
    member-and a (bit_not w64 b) p
    ∙ ⊎_elim
    (λ lt. ap (λ t. member a p && t) (ap (λ n. eqb n 1) (bit_at_not w64 b p b-in lt) ∙ of_rest (bit_at b p) (bit_at-lt b p)))
    (λ le. and_left (member a p) (member (bit_not w64 b) p) (member_past a p a-in le) ∙ sym (and_left (member a p) (not (member b p)) (member_past a p a-in le)))
    (cases_lt p 64)

-- `1 << place`
member_shl : (place p : ℕ) → place < 64 → member (1 * 2 ^ place % 2 ^ 64) p ≡ only place p
member_shl place p h =
    ap (λ n. member n p) (one_shl place 64 h)
    ∙ ⊎_elim
    (λ same. rw same (ap (λ n. eqb n 1) (bit_at-pow_same place) ∙ sym (and_from (eqb place place) (ltb place 64) (eq-eqb place place refl) (lt-ltb place 64 h))))
    (λ other. ap (λ n. eqb n 1) (bit_at-pow_other place p other) ∙ sym (and_left (eqb p place) (ltb place 64) (ne_eqb p place other)))
    (cases_eq p place)

pub member-insert : (n place p : ℕ) → place < 64 → member (bit_or n (1 * 2 ^ place % 2 ^ 64)) p ≡ (only place p || member n p)
member-insert n place p h =
    member-or n (1 * 2 ^ place % 2 ^ 64) p ∙ ap (λ t. member n p || t) (member_shl place p h) ∙ or_comm (member n p) (only place p)

pub member-remove : (n place p : ℕ) → n < 2 ^ 64 → place < 64 → member (bit_and n (bit_not w64 (1 * 2 ^ place % 2 ^ 64))) p ≡ (member n p && not (only place p))
member-remove n place p lt h =
    member-without n (1 * 2 ^ place % 2 ^ 64) p lt (omega arith) ∙ ap (λ t. member n p && not t) (member_shl place p h)

-- what is no place is not taken out
pub member-kept : (n place p : ℕ) → 64 ≤ place → member n p ≡ (member n p && not (only place p))
member-kept n place p h = go (member n p) (eqb p place) (ltb place 64) (le-ltb place 64 h)
  where
    go : (x y z : Bool) → z ≡ false → x ≡ (x && not (y && z))
    go true true z e = rw e
    go true false z e = refl
    go false y z e = refl

-- without a bit that it has, a number is lower
pub lower-without : (n place : ℕ) → n < 2 ^ 64 → place < 64 → member n place ≡ true → bit_and n (bit_not w64 (1 * 2 ^ place % 2 ^ 64)) < n
lower-without n place lt h here =
    let m = bit_and n (bit_not w64 (1 * 2 ^ place % 2 ^ 64)) in
    let gone : member m place ≡ false =
    member-remove n place place lt h ∙ ap (λ t. member n place && not t) (and_from (eqb place place) (ltb place 64) (eq-eqb place place refl) (lt-ltb place 64 h)) ∙ and_right (member n place) false refl in
    let differs : m ≡ n → ⊥ = λ same. both_ways (member m place) gone (ap (λ k. member k place) same ∙ here) in
    omega (arith, and_le_l n (bit_not w64 (1 * 2 ^ place % 2 ^ 64)))

same_members : (a b : ℕ) → ((p : ℕ) → member a p ≡ member b p) → a ≡ b
same_members a b e = same_from_bits a b (λ p. same_bit (bit_at a p) (bit_at b p) (bit_at-lt a p) (bit_at-lt b p) (e p))

pub same-decides : (a b : ℕ) → Decides (eqb a b) ((p : ℕ) → member a p ≡ member b p)
same-decides a b = Decides-like (eqb a b) (λ e p. ap (λ n. member n p) e) (same_members a b) (Decides-eqb a b)

member-none : (p : ℕ) → member 0 p ≡ false
member-none p = ap (λ n. eqb n 1) (bit_at-zero p)

pub empty-decides : (n : ℕ) → Decides (eqb n 0) ((p : ℕ) → member n p ≡ false)
empty-decides n =
    Decides-like (eqb n 0) (λ same p. same p ∙ member-none p) (λ none p. none p ∙ sym (member-none p)) (same-decides n 0)

pub lowest : (s : PlaceSet) → 0 < s.0 → s.0 < 2 ^ 64 → Lowest s (trailing_zeros w64 s.0)
lowest s pos lt =
    let (inside, there, none) = bit_at-trailing_zeros w64 s.0 pos lt in
    (inside, eq-eqb (bit_at s.0 (trailing_zeros w64 s.0)) 1 there, least none)
  where
    least : ((i : ℕ) → i < trailing_zeros w64 s.0 → bit_at s.0 i ≡ 0) → (p : ℕ) → has s p ≡ true → trailing_zeros w64 s.0 ≤ p
    least none p here =
        ⊎_elim (λ below. absurd (both_ways (has s p) (ap (λ n. eqb n 1) (none p below)) here)) (λ le. le) (cases_lt p (trailing_zeros w64 s.0))

-- what a set made by a test has, where the test says what f says and f holds of no number from 64 on
pub those-has : (s : PlaceSet) (f : ℕ → Bool) → ((p : ℕ) → p < 64 → has s p ≡ f p) → ((p : ℕ) → 64 ≤ p → has s p ≡ false) → ((p : ℕ) → 64 ≤ p → f p ≡ false) → (p : ℕ) → has s p ≡ f p
those-has s f places others past p =
    ⊎_elim (λ lt. places p lt) (λ le. others p le ∙ sym (past p le)) (cases_lt p 64)

-- what the functions do to the members and tell of them
pub ruleset operations = (member-or, member-and, member-without, member-insert, member-remove, member-kept, member_past, lower-without, same-decides, empty-decides)
