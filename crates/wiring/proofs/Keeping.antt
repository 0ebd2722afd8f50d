-- What a table knows stays so in every table that extends it.
use Rattle.std.proofs.Common.{◌≡◌, ℕ, is_some, Some, sym, ap, ◌∙◌, inl, inr}
use Rattle.shelf.specs.Meaning.{Name, Meaning}
use Rattle.wiring.specs.declared.choice.Choice.TheVariants.{From}
use Rattle.wiring.specs.Conflicts.{Touches, direct, through, Conflict}
use Rattle.wiring.specs.Laws.{Extends, Persistence}
use Rattle.wiring.specs.Partial.{Decided, Settled, Known, KnownSource}
use Rattle.wiring.specs.Sources.{Imports, Brought, Source, Sees}
use Rattle.wiring.specs.Wirings.{Table, seed, step}

module _ (m : Meaning) (t t' : Table) (ext : Extends t t') where
  on : (b k c : ℕ) → t b k ≡ Some (From c) → t' b k ≡ Some (From c)
  on b k c e = ext b k (ap is_some e) ∙ e

  back : (b k c : ℕ) → Decided (t b k) → t' b k ≡ Some (From c) → t b k ≡ Some (From c)
  back b k c d e = sym (ext b k d) ∙ e

  stays : (b k : ℕ) → Decided (t b k) → Decided (t' b k)
  stays b k d = ap is_some (ext b k d) ∙ d

  imports_on : (b : ℕ) (p : Name) (c : ℕ) → Imports m t b p c → Imports m t' b p c
  imports_on b p c (k, i, e) = (k, i, on b k c e)

  brought_on : (b c : ℕ) → Brought m t b c → Brought m t' b c
  brought_on b c (seed (k, r, e)) = seed (k, r, on b k c e)
  brought_on b c (step {a} l (k, r, e)) = step (brought_on b a l) (k, r, on a k c e)

  brought_back : (b : ℕ) → Settled m t b → (c : ℕ) → Brought m t' b c → Brought m t b c
  brought_back b s c (seed (k, r, e)) = seed (k, r, back b k c (s.0 k r) e)
  brought_back b s c (step {a} l (k, r, e)) =
      let l₀ : Brought m t b a = brought_back b s a l in
      step l₀ (k, r, back a k c (s.1 a k l₀ r) e)

  source_on : (p : Name) (b x : ℕ) → Known m t p b → Source m t p b x → Source m t' p b x
  source_on p b x n (inl i) = inl (imports_on b p x i)
  source_on p b x n (inr (none, near, ex)) =
      inr (
        λ c i. none c (i.0, i.1, back b i.0 c (n.0 i.0 i.1) i.2),
        elim near [ inl e ↦ inl e | inr l ↦ inr (brought_on b x l) ],
        ex,
      )

  source_back : (p : Name) (b x : ℕ) → Known m t p b → Source m t' p b x → Source m t p b x
  source_back p b x n (inl (k, i, e)) = inl (k, i, back b k x (n.0 k i) e)
  source_back p b x (d, inl (c, i)) (inr (none, near, ex)) = absurd (none c (imports_on b p c i))
  source_back p b x (d, inr s) (inr (none, near, ex)) =
      inr (λ c i. none c (imports_on b p c i), elim near [ inl e ↦ inl e | inr l ↦ inr (brought_back b s x l) ], ex)

  known_on : (p : Name) (b : ℕ) → Known m t p b → Known m t' p b
  known_on p b (d, inl (c, i)) = (λ k i. stays b k (d k i), inl (c, imports_on b p c i))
  known_on p b (d, inr s) =
      (λ k i. stays b k (d k i), inr (λ k r. stays b k (s.0 k r), λ a k l r. stays a k (s.1 a k (brought_back b s a l) r)))

  both_on : (p : Name) (b x : ℕ) → KnownSource m t p b x → KnownSource m t' p b x
  both_on p b x s = (known_on p b s.0, source_on p b x s.0 s.1)

  touches_on : (b x j : ℕ) → Touches m (KnownSource m t) b x j → Touches m (KnownSource m t') b x j
  touches_on b x j (direct p e s) = direct p e (both_on p b x s)
  touches_on b y i (through {x} {j} k q r u s e) = through k q (touches_on b x j r) u (both_on q x y s) e

  sees_on : (p : Name) (b : ℕ) → Sees (KnownSource m t) p b → Sees (KnownSource m t') p b
  sees_on p b (x, s) = (x, both_on p b x s)

  conflict_on : (b x j k : ℕ) → Conflict m (KnownSource m t) b x j k → Conflict m (KnownSource m t') b x j k
  conflict_on b x j k c =
      let q = c.about in
      let nb = c.here.1.0 in
      let nx = c.there.1.0 in
      record {
        about = q;
        touches = touches_on b x j c.touches;
        lists = c.lists;
        here = sees_on q b c.here;
        there = sees_on q x c.there;
        differ = λ same. c.differ (λ y. (
          λ s. (nx, source_back q x y nx ((same y).0 (both_on q b y s)).1),
          λ s. (nb, source_back q b y nb ((same y).1 (both_on q x y s)).1),
        ));
      }

-- what is known is so
module _ (m : Meaning) (t : Table) where
  touches_so : (b x j : ℕ) → Touches m (KnownSource m t) b x j → Touches m (Source m t) b x j
  touches_so b x j (direct p e s) = direct p e s.1
  touches_so b y i (through {x} {j} k q r u s e) = through k q (touches_so b x j r) u s.1 e

  conflict_so : (b x j k : ℕ) → Conflict m (KnownSource m t) b x j k → Conflict m (Source m t) b x j k
  conflict_so b x j k c =
      record {
        about = c.about;
        touches = touches_so b x j c.touches;
        lists = c.lists;
        here = (c.here.0, c.here.1.1);
        there = (c.there.0, c.there.1.1);
        differ = λ same. c.differ (λ y.
            (λ s. (c.there.1.0, (same y).0 s.1), λ s. (c.here.1.0, (same y).1 s.1)));
      }

pub persistence : Persistence
persistence m t t' ext =
    record {
      known = known_on m t t' ext;
      sources = λ p b x n. (source_on m t t' ext p b x n, source_back m t t' ext p b x n);
      touches = λ b x j r. touches_so m t' b x j (touches_on m t t' ext b x j r);
      known_touches = touches_on m t t' ext;
      conflicts = λ b x j k c. conflict_so m t' b x j k (conflict_on m t t' ext b x j k c);
      known_conflicts = conflict_on m t t' ext;
    }
