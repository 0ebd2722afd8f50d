use Rattle.std.proofs.Common.{ap, inr}
use Rattle.std.specs.List.{slice_get}
use Rattle.shelf.specs.Meaning.{bound}
use Rattle.digest.specs.Providers.{ExportAt}
use Rattle.digest.proofs.Past.{export_past}
use Rattle.digest.proofs.Told.{got_item, got_past, lent}
use Rattle.digest.proofs.digest.Digest.export.Goals as goal

pub returns-in_err-provider : goal.returns-in_err-provider
returns-in_err-provider c = λ m controller d.
    rw c.from_residual.ensures (ap (λ o. bound o (λ x. slice_get x.exports c.args.j)) (c.in_err-provider.ensures m controller d))

pub returns-in_err-get : goal.returns-in_err-get
returns-in_err-get c = λ m controller d.
    let provider = c.in_ok-provider.ensures m controller d in
    rw c.from_residual-in_err-get.ensures
    (export_past m d.formed c.args.b c.args.j (inr (got_past 16 (ExportAt m c.args.b) c.in_ok-provider.field-0.now.exports c.args.j provider.exports c.in_err-get.ensures.lookup)))

pub returns : goal.returns
returns c = λ m controller d.
    let provider = c.in_ok-provider.ensures m controller d in
    lent _ _ c.as_ref.result c.in_ok-get.field-0.now c.as_ref.ensures.value
    (got_item 16 (ExportAt m c.args.b) c.in_ok-provider.field-0.now.exports c.args.j provider.exports c.in_ok-get.field-0 c.in_ok-get.ensures.lookup)
