-- What is so at a bundle rests on the choices of a set that its wires do not leave.
use Rattle.std.proofs.Common.{ℕ, ◌↔◌, is_some, sym, refl, ap, ◌∙◌, inl, inr}
use Rattle.shelf.specs.Meaning.{Name, Meaning}
use Rattle.wiring.specs.Laws.{Agree, Alike, Closed, Onward, Locality}
use Rattle.wiring.specs.Partial.{Decided, Known, KnownSource}
use Rattle.wiring.specs.Sources.{Brought, Source}
use Rattle.wiring.specs.Wirings.{Table, Reaches, seed, step}
use Rattle.wiring.proofs.Sets.{alike}

module _ (m : Meaning) (t : Table) (C : ℕ → Type 0) (closed : Closed C t) where
  pub brought_inside : (b : ℕ) → C b → (c : ℕ) → Brought m t b c → C c
  brought_inside b h c (seed (k, r, e)) = closed b k c h e
  brought_inside b h c (step {a} l (k, r, e)) = closed a k c (brought_inside b h a l) e

  pub source_inside : (p : Name) (b x : ℕ) → C b → Source m t p b x → C x
  source_inside p b x h (inl (k, i, e)) = closed b k x h e
  source_inside p b x h (inr (none, inl e, ex)) = rw e h
  source_inside p b x h (inr (none, inr l, ex)) = brought_inside b h x l

  module _ (t' : Table) (agree : Agree C t t') where
    closed_too : Closed C t'
    closed_too b k c h e = closed b k c h (sym (agree b k h) ∙ e)

    brought_same : (b : ℕ) → C b → (c : ℕ) → Brought m t b c → Brought m t' b c
    brought_same b h c (seed (k, r, e)) = seed (k, r, agree b k h ∙ e)
    brought_same b h c (step {a} l (k, r, e)) = step (brought_same b h a l) (k, r, agree a k (brought_inside b h a l) ∙ e)

    source_same : (p : Name) (b x : ℕ) → C b → Source m t p b x → Source m t' p b x
    source_same p b x h (inl (k, i, e)) = inl (k, i, agree b k h ∙ e)
    source_same p b x h (inr (none, near, ex)) =
        inr (λ c i. none c (i.0, i.1, sym (agree b i.0 h) ∙ i.2), elim near [ inl e ↦ inl e | inr l ↦ inr (brought_same b h x l) ], ex)

    decided_same : (b k : ℕ) → C b → Decided (t b k) → Decided (t' b k)
    decided_same b k h d = ap is_some (agree b k h) ∙ d

    known_same : (p : Name) (b : ℕ) → C b → ((c : ℕ) → Brought m t' b c → Brought m t b c) → Known m t p b → Known m t' p b
    known_same p b h back (d, inl (c, (k, i, e))) = (λ k i. decided_same b k h (d k i), inl (c, (k, i, agree b k h ∙ e)))
    known_same p b h back (d, inr s) = (
      λ k i. decided_same b k h (d k i),
      inr (
        λ k r. decided_same b k h (s.0 k r),
        λ a k l r. decided_same a k (brought_inside b h a (back a l)) (s.1 a k (back a l) r),
      ),
    )

    reach_inside : (b : ℕ) → C b → (c : ℕ) → Reaches t b c → C c
    reach_inside b h c (seed (k, e)) = closed b k c h e
    reach_inside b h c (step {a} l (k, e)) = closed a k c (reach_inside b h a l) e

    reach-same : (b : ℕ) → C b → (c : ℕ) → Reaches t b c → Reaches t' b c
    reach-same b h c (seed (k, e)) = seed (k, agree b k h ∙ e)
    reach-same b h c (step {a} l (k, e)) = step (reach-same b h a l) (k, agree a k (reach_inside b h a l) ∙ e)

-- the same both ways
module _ (m : Meaning) (t t' : Table) (C : ℕ → Type 0) (closed : Closed C t) (agree : Agree C t t') where
  closed' : Closed C t'
  closed' = closed_too m t C closed t' agree

  agree' : Agree C t' t
  agree' b k h = sym (agree b k h)

  source_to : (p : Name) (b x : ℕ) → C b → Source m t p b x → Source m t' p b x
  source_to = source_same m t C closed t' agree

  source_from : (p : Name) (b x : ℕ) → C b → Source m t' p b x → Source m t p b x
  source_from = source_same m t' C closed' t agree'

  pub whole-alike : (b : ℕ) → C b → Alike m (Source m t) (Source m t') b
  whole-alike = alike m (Source m t) (Source m t') C source_to source_from (source_inside m t C closed)

  pub known_both : (p : Name) (b : ℕ) → C b → Known m t p b ↔ Known m t' p b
  known_both p b h = (
    known_same m t C closed t' agree p b h (brought_same m t' C closed' t agree' b h),
    known_same m t' C closed' t agree' p b h (brought_same m t C closed t' agree b h),
  )

  pub known_alike : (b : ℕ) → C b → Alike m (KnownSource m t) (KnownSource m t') b
  known_alike =
      alike m (KnownSource m t) (KnownSource m t') C
      (λ p b x h s. ((known_both p b h).0 s.0, source_to p b x h s.1))
      (λ p b x h s. ((known_both p b h).1 s.0, source_from p b x h s.1))
      (λ p b x h s. source_inside m t C closed p b x h s.1)

  pub reach-both : (b c : ℕ) → C b → Reaches t b c ↔ Reaches t' b c
  reach-both b c h = (reach-same m t C closed t' agree b h c, reach-same m t' C closed' t agree' b h c)

here-closed : (t : Table) (b : ℕ) → Closed (Onward t b) t
here-closed t b a k c (inl e) w = inr (seed (k, rw e at w))
here-closed t b a k c (inr l) w = inr (step l (k, w))

pub locality : Locality
locality =
    record {
      whole = λ m t t' b ag. whole-alike m t t' (Onward t b) (here-closed t b) ag b (inl refl);
      known = λ m t t' b ag p. known_both m t t' (Onward t b) (here-closed t b) ag p b (inl refl);
      partial = λ m t t' b ag. known_alike m t t' (Onward t b) (here-closed t b) ag b (inl refl);
    }
