use Rattle.std.proofs.Common.{rules, sym, ◌∙◌}
use Rattle.wiring.specs.Candidates.{offered_at}
use Rattle.digest.proofs.Told.{never_absent, never_unnumbered, offered_of, offers_import, offers_require, serving, unserved}
use Rattle.digest.proofs.digest.Digest.offered.Goals as goal

pub returns-then-not-contains : goal.returns-then-not-contains
returns-then-not-contains c = λ m controller d.
    let a = c.args in
    unserved _ (offered_at m controller a.b a.k a.c) (search rules) (sym (c.candidates.ensures m controller d a.c) ∙ sym c.contains.ensures.value ∙ c.if-not-contains.true)

pub returns-in_err-need : goal.returns-in_err-need
returns-in_err-need c = λ m controller d.
    let a = c.args in
    c.from_residual.ensures ∙ offered_of m controller a.b a.k a.c (c.in_err-need.ensures m controller d)

pub returns-in_err-need-in-Import : goal.returns-in_err-need-in-Import
returns-in_err-need-in-Import c = λ m controller d.
    let a = c.args in
    let (n, there, is) = c.in_ok-need.ensures m controller d in
    let served = serving m controller a.b a.k a.c n c.in_ok-need.need there is (sym (c.candidates.ensures m controller d a.c) ∙ sym c.contains.ensures.value ∙ c.if-not-contains.false) in
    absurd (never_unnumbered m d.formed controller a.b a.c n c.in_ok-need.need is served c.in-Import.is c.in_err-need-in-Import.was)

pub returns-in_err-provider-in-Require : goal.returns-in_err-provider-in-Require
returns-in_err-provider-in-Require c = λ m controller d.
    let a = c.args in
    let (n, there, is) = c.in_ok-need.ensures m controller d in
    let served = serving m controller a.b a.k a.c n c.in_ok-need.need there is (sym (c.candidates.ensures m controller d a.c) ∙ sym c.contains.ensures.value ∙ c.if-not-contains.false) in
    absurd (never_absent m d.formed controller a.b a.c n c.in_ok-need.need is served (c.in_err-provider-in-Require.ensures m controller d))

pub returns-in_ok-need-in-Import : goal.returns-in_ok-need-in-Import
returns-in_ok-need-in-Import c = λ m controller d.
    let a = c.args in
    let (n, there, is) = c.in_ok-need.ensures m controller d in
    let served = serving m controller a.b a.k a.c n c.in_ok-need.need there is (sym (c.candidates.ensures m controller d a.c) ∙ sym c.contains.ensures.value ∙ c.if-not-contains.false) in
    offers_import m d.formed controller a.b a.c n c.in_ok-need.need is served c.in_ok-need-in-Import.field-0 c.version_of.result
    c.in-Import.is c.in_ok-need-in-Import.was (c.version_of.ensures m controller d)
    ∙ offered_of m controller a.b a.k a.c there

pub returns-in_ok-provider-in-Require : goal.returns-in_ok-provider-in-Require
returns-in_ok-provider-in-Require c = λ m controller d.
    let a = c.args in
    let (n, there, is) = c.in_ok-need.ensures m controller d in
    let served = serving m controller a.b a.k a.c n c.in_ok-need.need there is (sym (c.candidates.ensures m controller d a.c) ∙ sym c.contains.ensures.value ∙ c.if-not-contains.false) in
    let provider = c.in_ok-provider-in-Require.ensures m controller d in
    offers_require m d.formed controller a.b a.c n c.in_ok-need.need is served c.in-Require.field-0 _ c.in-Require.is provider.version
    ∙ offered_of m controller a.b a.k a.c there
