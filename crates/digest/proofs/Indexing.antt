-- One export more in the index.
use Rattle.std.proofs.Common.{◌≡◌, ℕ, ◌+◌, ◌/◌, ◌%◌, ◌<◌, List, length, get_or, set, Some, None, Option, sym, refl, ap, ◌∙◌, inl, inr, arith, below_more, get_or-set_same, get_or-set_other, replicate}
use Rattle.std.specs.Option.{IsSomeAnd, unwrap_or}
use Rattle.std.proofs.lemmas.List.{get_or-replicate}
use Rattle.std.proofs.lemmas.Bool.{cases_eq}
use Rattle.shelf.specs.Meaning.{Name, Meaning}
use Rattle.digest.specs.Index.{bucket_of, Finds, InBucket, Last, Indexed, KeepsNumbers}
use Rattle.digest.specs.Packages.{ExportOf, NumberOf, package_at}
use Rattle.digest.proofs.Numbers.{numberless, one_number, same_package}

module _ (m : Meaning) (n : ℕ) (newest older : List (Option ℕ)) (x : Indexed m n newest older) where
  last_skip : (c : ℕ) (r : Option ℕ) → Last m c n r → ((q : Name) → InBucket m c n q → ⊥) → Last m c (n + 1) r
  last_skip c None l never = λ i q h b. below_more (λ i. (q : Name) → InBucket m c i q → ⊥) n (λ i h q b. l i q h b) never i h q b
  last_skip c (Some k) (lt, there, none) never =
      (omega arith, there, λ i q a h b. below_more (λ i. k < i → (q : Name) → InBucket m c i q → ⊥) n (λ i h a q b. none i q a h b) (λ a. never) i h a q b)

  pub index_skip : ((q : Name) → NumberOf m q n → ⊥) → Indexed m (n + 1) newest older
  index_skip never = record {
    buckets = λ c z h. last_skip c _ (x.buckets c z h) (λ q b. never q b.0);
    links = λ i q z h f. below_more (λ i. (q : Name) → NumberOf m q i → Last m (bucket_of q) i (get_or older i z)) n (λ i b q f. x.links i q z b f) (λ q f. absurd (never q f)) i h q f;
  }

  module _ (q : Name) (f : NumberOf m q n) (wide : length newest ≡ 256) (long : n < length older) (z₀ : Option ℕ) where
    old : (p : Name) → NumberOf m p n → Last m (bucket_of p) n (get_or newest (bucket_of q) z₀)
    old p g = let s : q ≡ p = same_package m n q p f.named g.named in rw (← s) (x.buckets (bucket_of q) z₀ (omega arith))

    here : Last m (bucket_of q) (n + 1) (Some n)
    here = (omega arith, rw f.named (f, refl), λ i p a h b. absurd (omega arith))

    pub index_new : Indexed m (n + 1) (set newest (bucket_of q) (Some n)) (set older n (get_or newest (bucket_of q) z₀))
    index_new = record {
      buckets = λ c z h. elim (cases_eq c (bucket_of q)) [
        | inl e ↦ rw (e, get_or-set_same newest (bucket_of q) (Some n) z (omega arith)) here
        | inr ne ↦ rw (get_or-set_other newest (bucket_of q) c (Some n) z ne) (last_skip c _ (x.buckets c z h) (λ p b. ne (sym b.1 ∙ ap bucket_of (same_package m n p q b.0.named f.named))))
      ];
      links = λ i p z h g. below_more (λ i. (p : Name) → NumberOf m p i → Last m (bucket_of p) i (get_or (set older n (get_or newest (bucket_of q) z₀)) i z)) n
          (λ i b p g. rw (get_or-set_other older n i (get_or newest (bucket_of q) z₀) z (omega arith)) (x.links i p z b g))
          (λ p g. rw (get_or-set_same older n (get_or newest (bucket_of q) z₀) z long) (old p g)) i h p g;
    }

pub index_none : (m : Meaning) → Indexed m 0 (replicate 256 None) (replicate 1024 None)
index_none m = record {
  buckets = λ c z h. rw (get_or-replicate {A = Option ℕ} 256 c None z h) (λ i q lt. absurd (omega arith));
  links = λ n q z h. absurd (omega arith);
}

-- the number of the next export's package, by what is found before it
pub number_next : (m : Meaning) (n : ℕ) (q : Name) → ExportOf m n q → (found : Option ℕ) (r : ℕ) → Finds m n q found → r ≡ unwrap_or found n → NumberOf m q r
number_next m n q e None r never h = rw h (record { named = e; least = numberless m q n never })
number_next m n q e (Some k) r f h = rw h f.1

-- an export that is not there has no package, and one whose package has an older number is not its first
pub unnumbered_next : (m : Meaning) (n : ℕ) → package_at m (n / 16) (n % 16) ≡ None → (q : Name) → NumberOf m q n → ⊥
unnumbered_next m n none q f = let clash : ◌≡◌ {A = Option Name} None (Some q) = sym none ∙ f.named in cc

pub numbered_before : (m : Meaning) (n k : ℕ) (q : Name) → ExportOf m n q → NumberOf m q k → (k ≡ n → ⊥) → (p : Name) → NumberOf m p n → ⊥
numbered_before m n k q e f other p g = let same : p ≡ q = same_package m n p q g.named e in other (one_number m q k n f (rw same at g))

module _ (m : Meaning) (n : ℕ) (numbers : List (Option ℕ)) (x : KeepsNumbers m n numbers) where
  pub numbered_new : (q : Name) (k : ℕ) → ExportOf m n q → NumberOf m q k → n < length numbers → KeepsNumbers m (n + 1) (set numbers n (Some k))
  numbered_new q k e f long = λ i p z h g. below_more (λ i. (p : Name) → ExportOf m i p → IsSomeAnd (get_or (set numbers n (Some k)) i z) (NumberOf m p)) n
      (λ i b p g. rw (get_or-set_other numbers n i (Some k) z (omega arith)) (x i p z b g))
      (λ p g. let same : q ≡ p = same_package m n q p e g in rw (get_or-set_same numbers n (Some k) z long) (rw same at f)) i h p g

  pub numbered_skip : package_at m (n / 16) (n % 16) ≡ None → KeepsNumbers m (n + 1) numbers
  numbered_skip none = λ i p z h g. below_more (λ i. (p : Name) → ExportOf m i p → IsSomeAnd (get_or numbers i z) (NumberOf m p)) n
      (λ i b p g. x i p z b g) (λ p g. absurd (let clash : ◌≡◌ {A = Option Name} None (Some p) = sym none ∙ g in cc)) i h p g
