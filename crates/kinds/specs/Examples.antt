-- Worked examples, as tables.
use Rattle.std.specs.Prelude.{◌≡◌, ℕ, Bool, true, false, List, [], ◌∷◌, Some, None, codes, Option, MatchOption}
use Rattle.std.specs.List.{AllByRecursion}
use Rattle.kinds.specs.declared.controller.ControllerNumber.{ControllerNumber}
use Rattle.kinds.specs.declared.version.Version.{Version}
use Rattle.kinds.specs.Controller.{controller, numbered}
use Rattle.kinds.specs.Range.{Holds}
use Rattle.kinds.specs.RangeText.{range}
use Rattle.kinds.specs.Version.{lower, version}

abbrev v : ℕ → ℕ → ℕ → Version
v major minor micro = record { major = major; minor = minor; micro = micro }

-- a text, and the version that it reads as
abbrev pub versions : List (List ℕ × Option Version)
versions =
    (codes "1.2", Some (v 1 2 0))
    ∷ ((codes "65535", Some (v 65535 0 0))
    ∷ ((codes "65536", None)
    ∷ ((codes "0.65536", None)
    ∷ ((codes "01.002", Some (v 1 2 0))
    ∷ ((codes "0000000000000000000000007", Some (v 7 0 0))
    ∷ ((codes "1.2.3.a-b_c", Some (v 1 2 3))
    ∷ ((codes "1.2.3.4", Some (v 1 2 3))
    ∷ ((codes "", None)
    ∷ ((codes "1.", None)
    ∷ ((codes ".1", None)
    ∷ ((codes "1..2", None)
    ∷ ((codes "1.2.3.", None)
    ∷ ((codes "1.2.3.4.5", None)
    ∷ ((codes "1.2.a", None)
    ∷ ((codes "1.2.3.a b", None)
    ∷ ((codes "+1", None)
    ∷ ((codes " 1", None) ∷ [])))))))))))))))))

-- a text, and the controller number that it reads as
abbrev pub controllers : List (List ℕ × Option ControllerNumber)
controllers =
    (codes "7", Some (numbered 7))
    ∷ ((codes "007", Some (numbered 7))
    ∷ ((codes "65535", Some (numbered 65535)) ∷ ((codes "65536", None) ∷ ((codes "", None) ∷ ((codes "1.0", None) ∷ ((codes "-1", None) ∷ []))))))

-- texts that read as no range of versions
abbrev pub unreadable : List (List ℕ)
unreadable =
    codes ""
    ∷ (codes "[1,2"
    ∷ (codes "1,2]"
    ∷ (codes "[1]"
    ∷ (codes "[1,2,3]"
    ∷ (codes "[1,2)]"
    ∷ (codes "[,2]" ∷ (codes "[1,]" ∷ (codes "[1, 2]" ∷ (codes "]1,2[" ∷ (codes "1." ∷ []))))))))))

-- a range, a version, and whether the range holds it
abbrev pub memberships : List (List ℕ × Version × Bool)
memberships =
    (codes "[1.0,2.0)", v 1 0 0, true)
    ∷ ((codes "[1.0,2.0)", v 2 0 0, false)
    ∷ ((codes "[1.0,2.0)", v 1 65535 65535, true)
    ∷ ((codes "(1.0,2.0]", v 1 0 0, false)
    ∷ ((codes "(1.0,2.0]", v 1 0 1, true)
    ∷ ((codes "(1.0,2.0]", v 2 0 0, true)
    ∷ ((codes "[1,1]", v 1 0 0, true)
    ∷ ((codes "[1,1)", v 1 0 0, false)
    ∷ ((codes "1.2", v 1 2 0, true)
    ∷ ((codes "1.2", v 9 0 0, true) ∷ ((codes "1.2", v 1 1 65535, false) ∷ ((codes "[2,1]", v 1 5 0, false) ∷ [])))))))))))

abbrev pub ReadsAsVersion : List ℕ × Option Version → Type 0
ReadsAsVersion row = version row.0 ≡ row.1

abbrev pub ReadsAsController : List ℕ × Option ControllerNumber → Type 0
ReadsAsController row = controller row.0 ≡ row.1

abbrev pub ReadsNot : List ℕ → Type 0
ReadsNot text = range version text ≡ None

-- P where the answer is yes, and not P where it is no
abbrev pub Answered : Bool → Type 0 → Type 0
Answered true P = P
Answered false P = P → ⊥

abbrev pub Holding : List ℕ × Version × Bool → Type 0
Holding row = MatchOption (range version row.0) ⊥ (λ r. Answered row.2 (Holds lower r row.1))

-- `[2,1]` reads, and holds nothing
abbrev pub Nothing : Type 0
Nothing = MatchOption (range version (codes "[2,1]")) ⊥ (λ r. (x : Version) → Holds lower r x → ⊥)

pub record Examples : Type 0 where
  pub of_versions : AllByRecursion ReadsAsVersion versions
  pub of_controllers : AllByRecursion ReadsAsController controllers
  pub of_no_ranges : AllByRecursion ReadsNot unreadable
  pub of_memberships : AllByRecursion Holding memberships
  pub of_nothing : Nothing
