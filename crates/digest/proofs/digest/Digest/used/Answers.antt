use Rattle.std.proofs.Common.{ap, refl, inr}
use Rattle.std.specs.List.{slice_get}
use Rattle.shelf.specs.Meaning.{bound, used_at}
use Rattle.digest.specs.Packages.{Numbering}
use Rattle.digest.specs.Providers.{number_in}
use Rattle.digest.proofs.Past.{use_out}
use Rattle.digest.proofs.Told.{got_item, got_past, numbering_as, unnumbered}
use Rattle.digest.proofs.digest.Digest.used.Goals as goal

pub returns-in_err-export : goal.returns-in_err-export
returns-in_err-export c = λ m controller d.
    unnumbered m _ _ (ap (λ o. bound o (λ e. slice_get e.uses c.args.k)) (c.in_err-export.ensures m controller d)) c.from_residual.ensures

pub returns-in_err-get : goal.returns-in_err-get
returns-in_err-get c = λ m controller d.
    let a = c.args in
    let export = c.in_ok-export.ensures m controller d in
    let past = got_past 8 (λ k u. Numbering m (used_at m a.b a.j k) (number_in u)) c.in_ok-export.field-0.now.used a.k export.used c.in_err-get.ensures.lookup in
    unnumbered m _ _ (use_out m d.formed a.b a.j a.k (inr (inr past))) c.from_residual-in_err-get.ensures

pub returns : goal.returns
returns c = λ m controller d.
    let a = c.args in
    let export = c.in_ok-export.ensures m controller d in
    numbering_as m _ _ c.as_option.result (number_in c.in_ok-get.field-0.now) refl c.as_option.ensures
    (got_item 8 (λ k u. Numbering m (used_at m a.b a.j k) (number_in u)) c.in_ok-export.field-0.now.used a.k export.used c.in_ok-get.field-0 c.in_ok-get.ensures.lookup)
