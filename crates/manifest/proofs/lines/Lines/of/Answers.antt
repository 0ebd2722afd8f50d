use Rattle.manifest.proofs.Totals.{fits_lines}
use Rattle.manifest.proofs.lines.Lines.of.Goals as goal

pub invariant_of-result : goal.invariant_of-result
invariant_of-result c = record { fits = fits_lines c.args.text.now _ c.plain.ensures.pieces c.requires }
