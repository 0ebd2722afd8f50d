use Rattle.std.proofs.Common.{◌≡◌, ℕ, ◌<◌, ◌≤◌, false, get_or}
use Rattle.places.specs.Sets.{has}
use Rattle.places.proofs.set.PlaceSet.those.Given as goal

abbrev pub invariant-loop-place : goal.invariant-loop-place
invariant-loop-place l =
    record {
      asked : (p : ℕ) → p < l.place → has l.found p ≡ get_or l.flags p false;
      others : (p : ℕ) → l.place ≤ p → has l.found p ≡ false;
    }
