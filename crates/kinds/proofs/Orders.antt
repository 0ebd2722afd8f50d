-- The derived orders are those of the definitions.
use Rattle.std.proofs.Common.{◌≡◌, rules}
use Rattle.kinds.specs.contracts.controller.ControllerNumberOrd.TheImpl.{ghosts as of_controllers}
use Rattle.kinds.specs.contracts.version.VersionOrd.TheImpl.{ghosts as of_versions}
use Rattle.kinds.specs.Controller.{before}
use Rattle.kinds.specs.Order.{below_by}
use Rattle.kinds.specs.Version.{lower}

pub version_order : below_by of_versions.cmp ≡ lower
version_order = search rules

pub controller_order : below_by of_controllers.cmp ≡ before
controller_order = search rules
