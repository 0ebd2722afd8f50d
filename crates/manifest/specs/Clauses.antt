-- Clauses: a name and its parameters. What a header's value says before any version or range in it is read.
use Rattle.std.specs.Prelude.{ℕ, true, false, cond, List, [], ◌∷◌, map, Some, None, Option}
use Rattle.std.specs.Option.{option_map}
use Rattle.text.specs.Splitting.{split}
use Rattle.shelf.specs.Meaning.{Name, bound}
use Rattle.shelf.specs.declared.need.Resolution.{Resolution}
use Rattle.shelf.specs.declared.need.Visibility.{Visibility}
use Rattle.manifest.specs.declared.header.Grammar.{Grammar}
use Rattle.manifest.specs.Names.{is_name}
use Rattle.manifest.specs.Parameters.{Parameter, version, uses, resolution, visibility, parameter_of}

-- what a clause says, each parameter if it is given
pub record RawClause : Type 0 where
  pub name : Name
  pub version : Option (List ℕ)
  pub uses : Option (List Name)
  pub resolution : Option Resolution
  pub visibility : Option Visibility

abbrev pub bare : Name → RawClause
bare n = record { name = n; version = None; uses = None; resolution = None; visibility = None }

-- the clause, unless it had the parameter already
abbrev pub once : {X : Type 0} → Option X → RawClause → Option RawClause
once None c = Some c
once (Some x) c = None

-- the clause with one parameter more
abbrev pub with_parameter : RawClause → Parameter → Option RawClause
with_parameter c (version text) = once c.version (record { name = c.name; version = Some text; uses = c.uses; resolution = c.resolution; visibility = c.visibility })
with_parameter c (uses names) = once c.uses (record { name = c.name; version = c.version; uses = Some names; resolution = c.resolution; visibility = c.visibility })
with_parameter c (resolution r) = once c.resolution (record { name = c.name; version = c.version; uses = c.uses; resolution = Some r; visibility = c.visibility })
with_parameter c (visibility v) = once c.visibility (record { name = c.name; version = c.version; uses = c.uses; resolution = c.resolution; visibility = Some v })

-- the same for parameters one after the other, in any order
abbrev pub with_parameters : Option RawClause → List (Option Parameter) → Option RawClause
with_parameters c [] = c
with_parameters c (p ∷ ps) = with_parameters (bound c (λ d. bound p (with_parameter d))) ps

-- a name, and then parameters
abbrev pub clause_of : Grammar → List (List ℕ) → Option RawClause
clause_of g [] = None
clause_of g (n ∷ ps) = cond (is_name n) (with_parameters (Some (bare n)) (map (parameter_of g) ps)) None

-- f of every element, or none
abbrev pub each : {X Y : Type 0} → (X → Option Y) → List X → Option (List Y)
each f [] = Some []
each f (x ∷ xs) = let rest = each f xs in bound (f x) (λ y. option_map (λ ys. y ∷ ys) rest)

-- one clause: its name and parameters stand between the semicolons outside quotes
abbrev pub clause : Grammar → List ℕ → Option RawClause
clause g text = clause_of g (split true 59 false text)

-- the clauses of a value stand between the commas outside quotes
abbrev pub form : Grammar → List ℕ → Option (List RawClause)
form g value = each (clause g) (split true 44 false value)
