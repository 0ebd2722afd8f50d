-- Packages in buckets, by which numbers are found: for inner functions, no public contract cites this.
use Rattle.std.specs.Prelude.{◌≡◌, ℕ, ◌+◌, ◌*◌, ◌/◌, ◌%◌, ◌<◌, List, [], ◌∷◌, IsSomeAnd, Option, MatchOption, slice_index_or}
use Rattle.shelf.specs.Meaning.{Name, Meaning}
use Rattle.digest.specs.Packages.{ExportOf, NumberOf, package_at}

abbrev pub rolled : ℕ → Name → ℕ
rolled h [] = h
rolled h (b ∷ bs) = rolled ((h * 33 + b) % 65536) bs

abbrev pub bucket_of : Name → ℕ
bucket_of q = rolled 0 q % 256

-- q has the number n and is in bucket c
abbrev pub InBucket : Meaning → ℕ → ℕ → Name → Type 0
InBucket m c n q = NumberOf m q n × (bucket_of q ≡ c)

-- r is the last number before the bound of a package in the bucket, if there is one
abbrev pub Last : Meaning → ℕ → ℕ → Option ℕ → Type 0
Last m c bound r =
    MatchOption r ((i : ℕ) (q : Name) → i < bound → InBucket m c i q → ⊥)
    (λ n. (n < bound) × IsSomeAnd (package_at m (n / 16) (n % 16)) (InBucket m c n) × ((i : ℕ) (q : Name) → n < i → i < bound → InBucket m c i q → ⊥))

-- the buckets of the exports before the bound: for each its last number, and for each number the one before it in its bucket
pub record Indexed (m : Meaning) (bound : ℕ) (newest older : List (Option ℕ)) : Type 0 where
  pub buckets : (c : ℕ) (z : Option ℕ) → c < 256 → Last m c bound (slice_index_or newest c z)
  pub links : (n : ℕ) (q : Name) (z : Option ℕ) → n < bound → NumberOf m q n → Last m (bucket_of q) n (slice_index_or older n z)

-- what looking up q among the numbers before the bound finds
abbrev pub Finds : Meaning → ℕ → Name → Option ℕ → Type 0
Finds m bound q r = MatchOption r ((i : ℕ) → i < bound → NumberOf m q i → ⊥) (λ n. (n < bound) × NumberOf m q n)

-- each export before the bound has the number of its package
abbrev pub KeepsNumbers : Meaning → ℕ → List (Option ℕ) → Type 0
KeepsNumbers m bound numbers = (i : ℕ) (q : Name) (z : Option ℕ) → i < bound → ExportOf m i q → IsSomeAnd (slice_index_or numbers i z) (NumberOf m q)
