use Rattle.manifest.specs.Lawful.{reads-lawful}
use Rattle.manifest.specs.Limits.{lawful-formed}
use Rattle.manifest.proofs.Back.{reads_back}
use Rattle.manifest.proofs.Forms.{only-written}
use Rattle.manifest.proofs.Offsets.{points_at-lines}
use Rattle.manifest.proofs.Orders.{every-order}
use Rattle.manifest.proofs.laws_hold.Goals as goal

pub returns : goal.returns
returns c = (only-written, every-order, points_at-lines, reads-lawful, reads_back, lawful-formed)
