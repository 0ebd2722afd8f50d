-- A digest of a shelf for a controller: every part of it says what the shelf means.
use Rattle.kinds.specs.declared.controller.ControllerNumber.{ControllerNumber}
use Rattle.shelf.specs.Meaning.{Meaning, WellFormed}
use Rattle.digest.specs.Exporters.{Exporting}
use Rattle.digest.specs.Needs.{Fitting, Needing}
use Rattle.digest.specs.Providers.{Providing}
use Rattle.digest.specs.declared.digest.Digest.{Digest}

pub record Digests (m : Meaning) (controller : ControllerNumber) (d : Digest) : Type 0 where
  pub formed : WellFormed m
  pub providers : Providing m d.providers
  pub exporters : Exporting m d.exporters.sets
  pub fitting : Fitting m controller d.fitting
  pub needs : Needing m controller d.needs

-- a digest tells what is so of each shelf and controller that it is a digest of
abbrev pub Tells : Digest → (Meaning → ControllerNumber → Type 0) → Type 0
Tells d says = (m : Meaning) (controller : ControllerNumber) → Digests m controller d → says m controller
