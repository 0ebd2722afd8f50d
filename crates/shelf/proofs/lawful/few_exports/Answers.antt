use Rattle.std.proofs.Common.{sym, ◌∙◌, arith}
use lib.ListN.{length-map}
use Rattle.std.proofs.lemmas.Bool.{both_ways, lt-leb}
use Rattle.shelf.specs.Plain.{export_meant}
use Rattle.shelf.proofs.Every.{decides_no}
use Rattle.shelf.proofs.Keeping.{exports_keep, uses_keep}
use Rattle.shelf.proofs.lawful.few_exports.Goals as goal
use Rattle.shelf.proofs.lawful.few_exports.Goals.{then-exports-le-EXPORTS, else-exports-le-EXPORTS}

pub returns-then-few_uses : goal.returns-then-few_uses
returns-then-few_uses c =
    let xs = c.args.exports.now in
    elim c.if-exports-le-EXPORTS.branch [
      | then-exports-le-EXPORTS w ↦
          exports_keep xs c.is_clear.result w.if-exports-le-EXPORTS.true (w.few_uses.ensures.0 (sym w.value-is ∙ c.if-few_uses.true)) c.is_clear.ensures
      | else-exports-le-EXPORTS w ↦ absurd (both_ways _ (lt-leb _ _ w.if-exports-le-EXPORTS.false) (sym w.value-is ∙ c.if-few_uses.true))
    ]

pub returns-else-few_uses : goal.returns-else-few_uses
returns-else-few_uses c =
    let xs = c.args.exports.now in
    elim c.if-exports-le-EXPORTS.branch [
      | then-exports-le-EXPORTS w ↦
          decides_no _ c.if-few_uses.false
          (λ few. both_ways _ (sym w.value-is ∙ c.if-few_uses.false) (w.few_uses.ensures.1 (uses_keep xs few)))
      | else-exports-le-EXPORTS w ↦
          decides_no _ c.if-few_uses.false (λ few. omega (arith, few.most, length-map xs export_meant, w.if-exports-le-EXPORTS.false))
    ]
