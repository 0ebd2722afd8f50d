use Rattle.std.proofs.Common.{◌≡◌, ℕ, subst, sym, ◌∙◌, arith}
use Rattle.std.proofs.lemmas.Option.{slice_get_read}
use Rattle.digest.specs.Exporters.{Gathered}
use Rattle.digest.proofs.Gathering.{gathered_none, gathered_add, gathered_skip, exporting}
use Rattle.digest.proofs.exporters.Exporters.gather.Goals as goal
use Rattle.digest.proofs.exporters.Exporters.gather.Goals.{in-Some, in_default}

pub loop-place-init : goal.loop-place-init
loop-place-init c = gathered_none c.args.providers.now c.empty.result c.empty.ensures

pub loop-place-preserved : goal.loop-place-preserved
loop-place-preserved c =
    let providers = c.args.providers.now in
    let l = c.loop-place in
    let o = c.index-providers-place.result in
    let at = slice_get_read providers 64 l.place o (sym c.told-providers) c.loop-place-test.true c.index-providers-place.is in
    elim c.match-provider.branch [
      | in-Some w ↦ rw w.exporters-is (gathered_add providers l.place o at l.exporters.sets l.invariant w.in-Some.provider _ (c.index-providers-place.is ∙ w.in-Some.is) w.add.ensures)
      | in_default w ↦ rw w.exporters-is (gathered_skip providers l.place o at l.exporters.sets l.invariant (c.index-providers-place.is ∙ w.in_default.is))
    ]

pub returns : goal.returns
returns c = λ m w told.
    let l = c.loop-place in
    let done : l.place ≡ 64 = omega arith in
    exporting m w c.args.providers.now told l.exporters.sets (subst (λ (i : ℕ). Gathered c.args.providers.now i l.exporters.sets) done l.invariant)
