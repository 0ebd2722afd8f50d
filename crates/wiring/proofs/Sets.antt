-- Touches and conflicts over two ways of telling sources.
use Rattle.std.proofs.Common.{ℕ}
use Rattle.shelf.specs.Meaning.{Name, Meaning}
use Rattle.wiring.specs.Conflicts.{Touches, direct, through, Conflict}
use Rattle.wiring.specs.Laws.{Alike}
use Rattle.wiring.specs.Sources.{Sourcing, Sees}

-- two ways that agree on the set C, which sources do not leave
module _ (m : Meaning) (S S' : Sourcing) (C : ℕ → Type 0)
    (to : (p : Name) (b x : ℕ) → C b → S p b x → S' p b x) (from : (p : Name) (b x : ℕ) → C b → S' p b x → S p b x)
    (keeps : (p : Name) (b x : ℕ) → C b → S p b x → C x) where
  touches_inside : (b : ℕ) → C b → (x j : ℕ) → Touches m S b x j → C x
  touches_inside b h x j (direct p e s) = keeps p b x h s
  touches_inside b h y i (through {x} {j} k q r u s e) = keeps q x y (touches_inside b h x j r) s

  touches_to : (b : ℕ) → C b → (x j : ℕ) → Touches m S b x j → Touches m S' b x j
  touches_to b h x j (direct p e s) = direct p e (to p b x h s)
  touches_to b h y i (through {x} {j} k q r u s e) =
      through k q (touches_to b h x j r) u (to q x y (touches_inside b h x j r) s) e

  sees_to : (p : Name) (b : ℕ) → C b → Sees S p b → Sees S' p b
  sees_to p b h (x, s) = (x, to p b x h s)

  conflict_to : (b : ℕ) → C b → (x j k : ℕ) → Conflict m S b x j k → Conflict m S' b x j k
  conflict_to b h x j k c =
      let i : C x = touches_inside b h x j c.touches in
      record {
        about = c.about;
        touches = touches_to b h x j c.touches;
        lists = c.lists;
        here = sees_to c.about b h c.here;
        there = sees_to c.about x i c.there;
        differ = λ same. c.differ (λ y. (
          λ s. from c.about x y i ((same y).0 (to c.about b y h s)),
          λ s. from c.about b y h ((same y).1 (to c.about x y i s)),
        ));
      }

module _ (m : Meaning) (S S' : Sourcing) (C : ℕ → Type 0)
    (to : (p : Name) (b x : ℕ) → C b → S p b x → S' p b x) (from : (p : Name) (b x : ℕ) → C b → S' p b x → S p b x)
    (keeps : (p : Name) (b x : ℕ) → C b → S p b x → C x) where
  keeps_too : (p : Name) (b x : ℕ) → C b → S' p b x → C x
  keeps_too p b x h s = keeps p b x h (from p b x h s)

  pub alike : (b : ℕ) → C b → Alike m S S' b
  alike b h =
      record {
        sources = λ p x. (to p b x h, from p b x h);
        touches = λ x j. (touches_to m S S' C to from keeps b h x j, touches_to m S' S C from to keeps_too b h x j);
        conflicts = λ x j k. (conflict_to m S S' C to from keeps b h x j k, conflict_to m S' S C from to keeps_too b h x j k);
      }
