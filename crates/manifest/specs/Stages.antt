-- The clauses of a value on the way to what the header says: read, and kept where they are within the limits.
use Rattle.std.specs.Prelude.{ℕ, ◌+◌, Bool, cond, ◌&&◌, List, [], ◌∷◌, length, Some, None, Ok, Option, Result, nat_le}
use Rattle.std.specs.Borrow.{Bor}
use Rattle.std.specs.Option.{unwrap_or}
use Rattle.text.specs.Bytes.{equal}
use Rattle.shelf.specs.Meaning.{Name, Need}
use Rattle.shelf.specs.declared.need.NeedKind.{NeedKind}
use Rattle.shelf.specs.declared.need.NeedKind.TheVariants.{Import, Require}
use Rattle.shelf.specs.declared.need.Visibility.{Visibility}
use Rattle.shelf.specs.declared.need.Visibility.TheVariants.{Private}
use Rattle.manifest.specs.declared.header.Grammar.{Grammar}
use Rattle.manifest.specs.declared.header.Grammar.TheVariants.{Exports, Imports, Requires}
use Rattle.manifest.specs.Clauses.{RawClause, each}
use Rattle.manifest.specs.Names.{all}
use Rattle.manifest.specs.Questions.{asks, gets}
use Rattle.manifest.specs.Values.{need_of, short_name}

abbrev pub kind_by : Grammar → Option Visibility → NeedKind
kind_by Exports v = Import
kind_by Imports v = Import
kind_by Requires v = Require (unwrap_or v Private)

abbrev pub need_by : Grammar → RawClause → Option Need
need_by g c = need_of (kind_by g c.visibility) c

abbrev pub short_need : Need → Bool
short_need n = short_name n.name

-- what was read is kept where it is small: the questions 8 and 9 of one clause
abbrev pub kept : {X : Type 0} → (X → Bool) → Option X → Result X ℕ
kept small read = gets 8 read (λ x. asks 9 (small x) (Ok x))

-- names between commas, at most 8
abbrev pub few_names : List Name → Bool
few_names ns = nat_le (length ns) 8 && all short_name ns

-- at most n with the others, and each small
abbrev pub few : {X : Type 0} → ℕ → (X → Bool) → ℕ → List X → Bool
few n small others xs = nat_le (others + length xs) n && all small xs

-- the questions 7 to 9 of a value's clauses: all follow the form, all read, and they are few enough by themselves
abbrev pub clauses_kept : {X : Type 0} → ℕ → (X → Bool) → (RawClause → Option X) → Option (List RawClause) → Result (List X) ℕ
clauses_kept n small reads clauses = gets 7 clauses (λ cs. kept (few n small 0) (each reads cs))

-- kept where it passes
abbrev pub within : {X : Type 0} → (X → Bool) → X → Option X
within small x = cond (small x) (Some x) None

-- what a text reads as; what a missing one stands for
abbrev pub read_or : {X : Type 0} → X → (List ℕ → Option X) → Option (List ℕ) → Option X
read_or missing reads None = Some missing
read_or missing reads (Some text) = reads text

-- what a word stands for in a table
abbrev pub stands_for : {X : Type 0} → List ℕ → List (Bor (List ℕ) × X) → Option X
stands_for word [] = None
stands_for word ((text, x) ∷ rest) = cond (equal word text.now) (Some x) (stands_for word rest)
