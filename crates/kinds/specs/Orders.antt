-- The orders of versions and of controller numbers: what a range goes by, which the code derives, is what `lower` and `before` say.
use Rattle.std.specs.Prelude.{◌≡◌, Bool, true, false}
use Rattle.kinds.specs.contracts.controller.ControllerNumberOrd.TheImpl.{ghosts as of_controllers}
use Rattle.kinds.specs.contracts.version.VersionOrd.TheImpl.{ghosts as of_versions}
use Rattle.kinds.specs.Controller.{before, numbered}
use Rattle.kinds.specs.Order.{Trichotomy, below_by}
use Rattle.kinds.specs.Version.{lower}

-- any two values are told apart, an order goes on through a third, and nothing is below the least value
pub record IsOrder {K : Type 0} (below : K → K → Bool) (least : K) : Type 0 where
  pub either : (x y : K) → Trichotomy below x y
  pub transitive : (x y z : K) → below x y ≡ true → below y z ≡ true → below x z ≡ true
  pub lowest : (x : K) → below x least ≡ false

pub record Orders : Type 0 where
  pub versions_derive : below_by of_versions.cmp ≡ lower
  pub versions : IsOrder lower (record { major = 0; minor = 0; micro = 0 })
  pub controllers_derive : below_by of_controllers.cmp ≡ before
  pub controllers : IsOrder before (numbered 0)
