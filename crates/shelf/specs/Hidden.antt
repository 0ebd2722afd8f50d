-- The meaning under flags: a flagged place is absent, every other is as below, and the count stays.
use Rattle.std.specs.Prelude.{◌≡◌, ℕ, ◌≤◌, Bool, cond, List, [], ◌∷◌, None, MatchBool, Result, slice_set}
use Rattle.shelf.specs.Meaning.{Meaning, bundle_at}
use Rattle.shelf.specs.Refusal.{HideAnswer}
use Rattle.shelf.specs.declared.refusal.HideRefusal.{HideRefusal}

abbrev pub hidden_by : List Bool → Meaning → Meaning
hidden_by [] m = m
hidden_by (f ∷ fs) [] = []
hidden_by (f ∷ fs) (b ∷ m) = cond f None b ∷ hidden_by fs m

-- what a place's flag means: a hidden place is found absent, any other as below
abbrev pub Covered : Bool → List Bool → Meaning → ℕ → Type 0
Covered hidden flags m place = MatchBool hidden (bundle_at (hidden_by flags m) place ≡ None) (bundle_at (hidden_by flags m) place ≡ bundle_at m place)

-- what becomes of the flags where one place is to have that flag: the others stay, and where it is refused all do
abbrev pub Marked : {T : Type 0} → List Bool → ℕ → Bool → List Bool → Result T HideRefusal → Type 0
Marked old place flag new r = (new ≡ slice_set old place flag) × HideAnswer place r × (64 ≤ place → new ≡ old)
