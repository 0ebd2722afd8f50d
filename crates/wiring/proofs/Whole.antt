-- Whole wirings: all is known of them, and their parts are whole.
use Rattle.std.proofs.Common.{◌≡◌, ℕ, Bool, true, false, cond, IsSomeAnd, Some, None, Option, refl, ap, inr}
use Rattle.kinds.specs.declared.controller.ControllerNumber.{ControllerNumber}
use Rattle.shelf.specs.Meaning.{Name, Need, Meaning, need_at, is_import}
use Rattle.wiring.specs.declared.choice.Choice.{Choice}
use Rattle.wiring.specs.declared.choice.Choice.TheVariants.{Unwired, From}
use Rattle.wiring.specs.Candidates.{own}
use Rattle.wiring.specs.Conflicts.{Consistent}
use Rattle.wiring.specs.Laws.{Agree, Alike, Closed, Complete, Exactness, Restriction, Steadiness}
use Rattle.wiring.specs.Partial.{Decided, Settled, Known, KnownSource}
use Rattle.wiring.specs.Sources.{Requiring, Source}
use Rattle.wiring.specs.Wirings.{Bare, In, Legal, Table, Wiring}
use Rattle.wiring.proofs.Sets.{alike}
use Rattle.wiring.proofs.Within.{brought_inside, source_inside, whole-alike, reach-both}

-- a require is not own
require-chosen : (m : Meaning) (b : ℕ) (n : Need) → is_import n.kind ≡ false → own m b n ≡ false
require-chosen m b n e = rw e

module _ (m : Meaning) (C : ℕ → Type 0) (t : Table) (closed : Closed C t) (all : Complete m C t) where
  requires_settled : (b k : ℕ) → C b → Requiring m b k → Decided (t b k)
  requires_settled b k h (n, at, kind) = all b k n h at (require-chosen m b n kind)

  settled : (b : ℕ) → C b → Settled m t b
  settled b h = (
    λ k r. requires_settled b k h r,
    λ a k l (n, at, kind). requires_settled a k (brought_inside m t C closed b h a l) (n, at, ap is_import kind),
  )

  all_known : (p : Name) (b : ℕ) → C b → Known m t p b
  all_known p b h = (λ k (n, at, kind, name, free). all b k n h at free, inr (settled b h))

  all_alike : (b : ℕ) → C b → Alike m (KnownSource m t) (Source m t) b
  all_alike =
      alike m (KnownSource m t) (Source m t) C (λ p b x h s. s.1) (λ p b x h s. (all_known p b h, s))
      (λ p b x h s. source_inside m t C closed p b x h s.1)

-- no wire is where a kept choice is unwired
bare_wire : (o : Option Choice) (c : ℕ) → Bare o → o ≡ Some (From c) → ⊥
bare_wire None c h e = cc
bare_wire (Some d) c h e = cc

module _ (m : Meaning) (controller : ControllerNumber) (has : ℕ → Bool) where
  legal_in : (b : ℕ) (n : Need) (o : Option Choice) (c : ℕ) → IsSomeAnd o (Legal m controller has b n) → o ≡ Some (From c) → In has c
  legal_in b n None c l e = absurd l
  legal_in b n (Some Unwired) c l e = absurd (cc)
  legal_in b n (Some (From x)) c l e = let f : x ≡ c = cc in rw (← f) l.0

  legal_decided : (b : ℕ) (n : Need) (o : Option Choice) → IsSomeAnd o (Legal m controller has b n) → Decided o
  legal_decided b n None l = absurd l
  legal_decided b n (Some d) l = refl

module _ (m : Meaning) (controller : ControllerNumber) (has : ℕ → Bool) (t : Table) (w : Wiring m controller has t) where
  wiring-closed : Closed (In has) t
  wiring-closed b k c h e = go (need_at m b k) refl
    where
      by : (n : Need) → need_at m b k ≡ Some n → (f : Bool) → own m b n ≡ f → In has c
      by n z true o = absurd (bare_wire (t b k) c (w.owned b k n h z o) e)
      by n z false o = legal_in m controller has b n (t b k) c (w.chosen b k n h z o) e

      go : (o : Option Need) → need_at m b k ≡ o → In has c
      go None z = absurd (bare_wire (t b k) c (w.lacking b k h z) e)
      go (Some n) z = by n z (own m b n) refl

  wiring_complete : Complete m (In has) t
  wiring_complete b k n h z o = legal_decided m controller has b n (t b k) (w.chosen b k n h z o)

pub exactness : Exactness
exactness =
    record {
      whole = λ m controller has t w. (wiring-closed m controller has t w, wiring_complete m controller has t w);
      known = λ m has t. all_known m (In has) t;
      alike = λ m has t. all_alike m (In has) t;
    }

pub steadiness : Steadiness
steadiness =
    record {
      reach = λ m controller has t t' w ag. reach-both m t t' (In has) (wiring-closed m controller has t w) ag;
      alike = λ m controller has t t' w ag. whole-alike m t t' (In has) (wiring-closed m controller has t w) ag;
    }

-- a part that wires do not leave
module _ (m : Meaning) (controller : ControllerNumber) (has part : ℕ → Bool) (t t' : Table)
    (inside : (b : ℕ) → In part b → In has b) (closed : Closed (In part) t) (agree : Agree (In part) t t') where
  legal_part : (b k : ℕ) (n : Need) → In part b → (o : Option Choice) → t b k ≡ o → IsSomeAnd o (Legal m controller has b n) → IsSomeAnd o (Legal m controller part b n)
  legal_part b k n h None e l = l
  legal_part b k n h (Some Unwired) e l = l
  legal_part b k n h (Some (From c)) e l = (closed b k c h e, l.1)

  part-wiring : Wiring m controller has t → Wiring m controller part t'
  part-wiring w =
      record {
        fitting = λ b h. w.fitting b (inside b h);
        chosen = λ b k n h z o. rw (agree b k h) (legal_part b k n h (t b k) refl (w.chosen b k n (inside b h) z o));
        owned = λ b k n h z o. rw (agree b k h) (w.owned b k n (inside b h) z o);
        lacking = λ b k h z. rw (agree b k h) (w.lacking b k (inside b h) z);
      }

  part_consistent : Consistent m controller has t → Consistent m controller part t'
  part_consistent w =
      record {
        wiring = part-wiring w.wiring;
        free = λ b x j k h c. w.free b x j k (inside b h) (((whole-alike m t t' (In part) closed agree b h).conflicts x j k).1 c);
      }

pub restriction : Restriction
restriction =
    record {
      part = λ m controller has part t t' w inside closed agree. part_consistent m controller has part t t' inside closed agree w;
      cuts = λ has t b k h. ap (λ f. cond f (t b k) None) h;
    }
