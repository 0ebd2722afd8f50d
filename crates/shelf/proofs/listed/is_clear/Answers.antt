use Rattle.std.proofs.Common.{refl, sym, subst, rules}
use Rattle.std.proofs.lemmas.Bool.{MatchBool-at_true, MatchBool-at_false}
use Rattle.std.proofs.lemmas.Iterator.{YieldsList-from_slice, cases_from_any}
use Rattle.shelf.specs.Limits.{Clear}
use Rattle.shelf.proofs.Barred.{clear-cons, clear-rest, not_clear}
use Rattle.shelf.proofs.Every.{decides_no}
use Rattle.shelf.proofs.listed.is_clear.Goals as goal

pub returns-then-any : goal.returns-then-any
returns-then-any g c =
    let barred = g.T.Listed.barred in
    let item = c.in-Some.item.now in
    let later = c.in-Some.later.now in
    let tested =
    cases_from_any _ _ c.any.result (λ y. barred item y) (λ y. barred item y → ⊥) c.any.ensures.ran
    (YieldsList-from_slice later c.iter.ensures.rest) (λ x q k. search rules) (λ x q k. search rules) in
    decides_no _ refl
    (λ clear. not_clear barred item later (MatchBool-at_true _ _ c.if-any.true tested) (subst (Clear barred) c.in-Some.ensures.cases.0 (c.loop-item.invariant.part clear)))

pub loop-item-preserved : goal.loop-item-preserved
loop-item-preserved g c =
    let barred = g.T.Listed.barred in
    let item = c.in-Some.item.now in
    let later = c.in-Some.later.now in
    let tested =
    cases_from_any _ _ c.any.result (λ y. barred item y) (λ y. barred item y → ⊥) c.any.ensures.ran
    (YieldsList-from_slice later c.iter.ensures.rest) (λ x q k. search rules) (λ x q k. search rules) in
    record {
      whole = λ clear.
          c.loop-item.invariant.whole
          (subst (Clear barred) (sym c.in-Some.ensures.cases.0) (clear-cons barred item later (MatchBool-at_false _ _ c.if-any.false tested) clear));
      part = λ clear. clear-rest barred item later (subst (Clear barred) c.in-Some.ensures.cases.0 (c.loop-item.invariant.part clear));
    }
