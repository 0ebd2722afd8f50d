-- A table of memberships, by one computed test over all its rows.
use Rattle.std.proofs.Common.{◌≡◌, ℕ, Bool, true, false, cond, not, ◌&&◌, List, [], ◌∷◌, Some, None, Decides, Option, arith, rules, MatchOption}
use Rattle.std.specs.List.{AllByRecursion}
use Rattle.std.proofs.lemmas.Bool.{and_parts}
use Rattle.std.proofs.lemmas.Bool.Decides.{nat_tests}
use Rattle.kinds.specs.declared.range.End.TheVariants.{Included}
use Rattle.kinds.specs.declared.range.Range.{Range}
use Rattle.kinds.specs.declared.controller.ControllerNumber.{ControllerNumber}
use Rattle.kinds.specs.declared.version.Version.{Version}
use Rattle.kinds.specs.Controller.{before}
use Rattle.kinds.specs.Examples.{Answered, Holding}
use Rattle.kinds.specs.Order.{Trichotomy}
use Rattle.kinds.specs.declared.range.Range.TheVariants.{AtLeast, Between}
use Rattle.kinds.specs.Range.{value_of, Above, Under, Holds, holding}
use Rattle.kinds.specs.RangeText.{range}
use Rattle.kinds.specs.Version.{lower, version}

-- the test of membership decides it, under the order's law
module _ {K : Type 0} (below : K → K → Bool) (either : (x y : K) → Trichotomy below x y) where
  pub holding-decides : (r : Range K) (v : K) → Decides (holding below r v) (Holds below r v)
  holding-decides (AtLeast floor) v = grind (arith, either v floor)
  holding-decides (Between floor ceiling) v = grind (arith, either v (value_of floor), either v (value_of ceiling))

pub version_either : (x y : Version) → Trichotomy lower x y
version_either x y = search rules

pub controller_either : (x y : ControllerNumber) → Trichotomy before x y
controller_either x y = search rules

answered : (b : Bool) (t : Bool) {P : Type 0} → Decides t P → cond b t (not t) ≡ true → Answered b P
answered true t d e = d.0 e
answered false t d e = λ p. let h = d.1 p in (cc)

-- whether a row is right, as a test
abbrev verdict : Option (Range Version) → Version → Bool → Bool
verdict None v b = false
verdict (Some r) v b = cond b (holding lower r v) (not (holding lower r v))

abbrev pub right : List (List ℕ × Version × Bool) → Bool
right [] = true
right (row ∷ rows) = verdict (range version row.0) row.1 row.2 && right rows

row_right : (o : Option (Range Version)) (v : Version) (b : Bool) → verdict o v b ≡ true → MatchOption o ⊥ (λ r. Answered b (Holds lower r v))
row_right None v b e = absurd (cc)
row_right (Some r) v b e = answered b (holding lower r v) (holding-decides lower version_either r v) e

pub all_right : (rows : List (List ℕ × Version × Bool)) → right rows ≡ true → AllByRecursion Holding rows
all_right [] e = tt
all_right (row ∷ rows) e =
    let both = and_parts (verdict (range version row.0) row.1 row.2) (right rows) e in
    (row_right (range version row.0) row.1 row.2 both.0, all_right rows both.1)

-- not below 2 and not above 1
pub nothing_between : (x : Version) → Above lower (Included (record { major = 2; minor = 0; micro = 0 })) x → Under lower (Included (record { major = 1; minor = 0; micro = 0 })) x → ⊥
nothing_between x a u = grind (arith, nat_tests)
