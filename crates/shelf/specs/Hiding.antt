-- A proof, nothing to believe: what hiding does to the bundle at a place, and that it keeps the limits.
use Rattle.std.specs.Prelude.{◌≡◌, ℕ, zero, suc, Bool, true, false, cond, List, [], ◌∷◌, length, IfSome, Some, None, MatchBool, Option, slice_index_or, refl}
use Rattle.std.proofs.Common.{ap}
use Rattle.std.specs.Option.{option_flatten}
use Rattle.shelf.specs.Meaning.{Meaning, Bundle, bundle_at, FewItems, WellFormed}
use Rattle.shelf.specs.Hidden.{hidden_by, Covered}

flag : (f : Bool) (o : Option Bundle) → option_flatten (Some (cond f None o)) ≡ cond f None (option_flatten (Some o))
flag true o = refl
flag false o = refl

none_either : (f : Bool) → ◌≡◌ {A = Option Bundle} None (cond f None None)
none_either true = refl
none_either false = refl

pub hidden_at : (fs : List Bool) (m : Meaning) (place : ℕ) → bundle_at (hidden_by fs m) place ≡ cond (slice_index_or fs place false) None (bundle_at m place)
hidden_at [] m place = refl
hidden_at (f ∷ fs) [] zero = none_either f
hidden_at (f ∷ fs) [] (suc place) = none_either (slice_index_or fs place false)
hidden_at (f ∷ fs) (b ∷ m) zero = flag f b
hidden_at (f ∷ fs) (b ∷ m) (suc place) = hidden_at fs m place

cover : (f : Bool) (o p : Option Bundle) → p ≡ cond f None o → MatchBool f (p ≡ None) (p ≡ o)
cover true o p e = e
cover false o p e = e

pub covered : (fs : List Bool) (m : Meaning) (place : ℕ) (r : Bool) → r ≡ slice_index_or fs place false → Covered r fs m place
covered fs m place r e = cover r (bundle_at m place) (bundle_at (hidden_by fs m) place) (rw e (hidden_at fs m place))

pub length_hidden : (fs : List Bool) (m : Meaning) → length (hidden_by fs m) ≡ length m
length_hidden [] m = refl
length_hidden (f ∷ fs) [] = refl
length_hidden (f ∷ fs) (b ∷ m) = ap suc (length_hidden fs m)

few_either : (f : Bool) (o : Option Bundle) → IfSome o FewItems → IfSome (cond f None o) FewItems
few_either true o h = tt
few_either false o h = h

pub hidden_formed : (fs : List Bool) (m : Meaning) → WellFormed m → WellFormed (hidden_by fs m)
hidden_formed fs m w =
    record {
      places = rw length_hidden w.places;
      each = λ place. rw hidden_at (few_either (slice_index_or fs place false) (bundle_at m place) (w.each place));
    }
